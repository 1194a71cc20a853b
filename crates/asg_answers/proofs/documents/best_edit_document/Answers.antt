use Rattle.asg_answers.proofs.Common.{◌≡◌, subst, cells_by_id, choice_value}
use Rattle.asg_answers.proofs.DocumentLemmas.{IsEditDocument-best}
use Rattle.asg_answers.proofs.documents.best_edit_document.Goals as goal

pub returns : goal.returns
returns c =
    let objective = c.args.objective in
    let choice = c.args.choice.now in
    let answer = c.in_ok-answer.answer in
    let same = c.instance.ensures.value in
    IsEditDocument-best c.soundness_law.ensures objective c.args.editor.now choice answer c.args.proof c.instance.ensures.instance c.requires.passes c.requires.word c.requires.algebraic c.requires.best c.tell_ranges.ensures
    (subst (λ X. answer.value ≡ choice_value objective X choice) same c.in_ok-answer.ensures.value) c.in_ok-answer.ensures.value_text
    (subst (λ X. answer.cells ≡ cells_by_id X choice) same c.in_ok-answer.ensures.cells) c.in_ok-answer.ensures.cells_text
