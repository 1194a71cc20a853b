use Rattle.asg_answers.proofs.EditLines.{IsTold-answered}
use Rattle.asg_answers.proofs.edited.next_document.Goals as goal

pub returns-clause-told : goal.returns-clause-told
returns-clause-told c = λ standing stands.
    let objective = c.args.objective in
    IsTold-answered objective standing c.args.editor.now c.answer.new.self c.in_ok-document.document c.in_ok-sheet.sheet c.in_ok-sheet.ensures c.answer.ensures.goes c.in_ok-document.ensures stands
