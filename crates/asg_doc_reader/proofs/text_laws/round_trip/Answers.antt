use Rattle.asg_doc_reader.proofs.TextLaws.{written_is_text}
use Rattle.asg_doc_reader.proofs.text_laws.round_trip.Goals as goal

pub returns : goal.returns
returns c = written_is_text
