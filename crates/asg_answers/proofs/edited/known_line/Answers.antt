use Rattle.asg_answers.proofs.Common.{sym, subst, to_z-of_z, w128, One}
use Rattle.asg_brief.specs.BestValues.{IsBestValue}
use Rattle.asg_answers.proofs.edited.known_line.Goals as goal

pub sum_line-requires-clause-sum : goal.sum_line-requires-clause-sum
sum_line-requires-clause-sum c =
    let objective = c.args.objective in
    let X = c.args.editor.now.instance in
    let told = c.requires.sum in
    let best = subst (IsBestValue objective X) told.2 (c.best_value_law.ensures objective X told.0 told.1) in
    subst (λ z. IsBestValue objective c.instance-inst.result.now (One z)) (sym (to_z-of_z w128 c.args.sum c.ranges.sum))
    (subst (λ Y. IsBestValue objective Y (One c.args.sum)) (sym c.instance-inst.ensures.value) best)
