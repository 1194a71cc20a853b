use Rattle.asg_doc_reader.proofs.Common.{◌≡◌, [], ◌∷◌, ◌++◌, All-push, err_from_is_err_and, false≢true, HasText}
use Rattle.asg_doc_reader.proofs.DocumentLines.{documents_more, documents_fail}
use Rattle.asg_doc_reader.proofs.document_reader.documents.Goals as goal

pub returns-in_err-document : goal.returns-in_err-document
returns-in_err-document c =
    let p = err_from_is_err_and c.from_residual.result c.from_residual.ensures.1 in
    let read = c.lines.invariant in
    rw (p.1, p.2) (documents_fail c.lines.documents.items c.args.lines.now c.lines.lines c.document.new.lines read.have read.read
    (λ none. false≢true (c.lines-test.ensures.1 none)) c.in_err-document.field-0.0 c.in_err-document.ensures)

pub lines-preserved : goal.lines-preserved
lines-preserved c =
    let read = c.lines.invariant in
    let document = c.in_ok-document.ensures in
    let pushed : c.push.new.self.items ≡ c.lines.documents.items ++ c.in_ok-document.field-0 ∷ [] = c.in_ok-push.ensures.items in
    rw pushed (record {
      read = documents_more c.lines.documents.items c.in_ok-document.field-0 c.args.lines.now c.lines.lines c.document.new.lines read.read document.split;
      have = All-push HasText c.lines.documents.items c.in_ok-document.field-0 read.have document.has;
    })
