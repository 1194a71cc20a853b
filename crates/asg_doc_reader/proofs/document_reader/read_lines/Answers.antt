use Rattle.asg_doc_reader.proofs.Common.{length, sym, refl, ap, ◌∙◌, subst, arith, false≢true, DocumentsStop}
use Rattle.asg_doc_reader.proofs.DocumentLines.{left_within}
use Rattle.asg_doc_reader.proofs.TextLaws.{stopped}
use Rattle.asg_doc_reader.proofs.RefusedLines.{stops_refuses, piece_refuses, text_is_read}
use Rattle.asg_doc_reader.proofs.document_reader.read_lines.Goals as goal

pub next_line-requires-in-Err-Refused-clause-left : goal.next_line-requires-in-Err-Refused-clause-left
next_line-requires-in-Err-Refused-clause-left c =
    left_within c.args.file.now c.documents.new.lines (subst (λ ls. DocumentsStop ls c.documents.new.lines) c.of-lines.ensures (stopped c.of-lines.result c.documents.new.lines c.in-Err-Refused.field-0 c.in-Err-Refused.field-0-is c.in-Err-Refused.ensures))

pub returns-then-is_ended-clause-read : goal.returns-then-is_ended-clause-read
returns-then-is_ended-clause-read c =
    let read = c.in-Ok.ensures in
    (read.0, text_is_read c.args.file.now c.in-Ok.documents.items (sym c.of-lines.ensures ∙ read.1) (c.if-is_ended.ensures.0 refl))

pub returns-else-is_ended-clause-line : goal.returns-else-is_ended-clause-line
returns-else-is_ended-clause-line c =
    let read = c.in-Ok.ensures in
    piece_refuses c.args.file.now c.in-Ok.documents.items c.next_line.result read.0 (sym c.of-lines.ensures ∙ read.1) (λ ended. false≢true (c.if-is_ended.ensures.1 ended))
    (omega (arith, ap length read.2, c.next_line.ensures))

pub returns-in-Err-Refused-clause-line : goal.returns-in-Err-Refused-clause-line
returns-in-Err-Refused-clause-line c =
    stops_refuses c.args.file.now c.documents.new.lines c.next_line-in-Err-Refused.result
    (subst (λ ls. DocumentsStop ls c.documents.new.lines) c.of-lines.ensures (stopped c.of-lines.result c.documents.new.lines c.in-Err-Refused.field-0 c.in-Err-Refused.field-0-is c.in-Err-Refused.ensures)) c.next_line-in-Err-Refused.ensures
