use Rattle.asg_answers.proofs.Common.{true, IfOk, sym, subst, IfOk-weaker, bytes_of, IsTold, IsBriefLine}
use Rattle.asg_answers.proofs.EditLines.{IsTold-briefly}
use Rattle.asg_answers.proofs.edited.next_text.Goals as goal

pub returns-then-brief-clause-told : goal.returns-then-brief-clause-told
returns-then-brief-clause-told c = λ standing stands.
    let objective = c.args.objective in
    let new = c.next_line.new.editor in
    let result = c.next_line.result in
    subst (λ b. IfOk result (λ text. IsTold b objective standing new (bytes_of text))) (sym c.if-brief.true)
    (IfOk-weaker result (λ text. IsBriefLine objective new.instance (bytes_of text)) (λ text. IsTold true objective standing new (bytes_of text))
    (λ text line. IsTold-briefly objective standing new (bytes_of text) line)
    c.next_line.ensures.told)

pub returns-else-brief-clause-told : goal.returns-else-brief-clause-told
returns-else-brief-clause-told c = λ standing stands.
    let objective = c.args.objective in
    let new = c.next_document.new.editor in
    subst (λ b. IfOk c.next_document.result (λ text. IsTold b objective standing new (bytes_of text))) (sym c.if-brief.false)
    (c.next_document.ensures.told standing stands)
