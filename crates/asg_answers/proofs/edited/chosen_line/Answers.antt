use Rattle.asg_answers.proofs.Common.{sym, ◌∙◌, subst, IsChoiceAt}
use Rattle.asg_answers.proofs.edited.chosen_line.Goals as goal

pub choice_line-requires-clause-choice : goal.choice_line-requires-clause-choice
choice_line-requires-clause-choice c =
    let objective = c.args.objective in
    let new = c.best_choice.new.self in
    let choice = c.in_ok-choice.choice in
    let chosen = subst (λ o. IsChoiceAt o new.instance choice) (c.best_choice.ensures.goes.objective ∙ c.requires.objective) c.in_ok-choice.ensures.choice in
    subst (λ X. IsChoiceAt objective X choice) (sym c.instance.ensures.value) chosen
