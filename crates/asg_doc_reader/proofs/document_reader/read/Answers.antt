use Rattle.asg_doc_reader.proofs.TextLaws.{reads_only}
use Rattle.asg_doc_reader.proofs.document_reader.read.Goals as goal

pub returns-clause-only : goal.returns-clause-only
returns-clause-only c = reads_only (λ documents. documents.items) c.args.bytes.now c.read_lines.result c.read_lines.ensures.read c.read_lines.ensures.line
