use Rattle.asg_answers.proofs.Common.{subst, IsChoiceAt}
use Rattle.asg_answers.proofs.tellings.choice_line.Goals as goal

pub best_line-requires : goal.best_line-requires
best_line-requires c =
    let objective = c.args.objective in
    let X = c.args.inst.now in
    let is = subst (IsChoiceAt objective X) c.in-Some.is c.requires.choice in
    c.best_law.ensures objective X c.in-Some.choice is.0 c.rows-rows.ensures.instance c.requires.passes is.1.valid is.1.proved

pub none_line-requires : goal.none_line-requires
none_line-requires c = λ f valid.
    let X = c.args.inst.now in
    let is = subst (IsChoiceAt c.args.objective X) c.in-None.is c.requires.choice in
    c.infeasible_law.ensures X is.0 f is.1 valid
