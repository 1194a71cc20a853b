use Rattle.asg_commands.proofs.Common.{[], ◌∷◌, sym, ◌∙◌, subst, StopsInstance, sided}
use Rattle.asg_commands.proofs.InstanceLemmas.{large_file, stops_file}
use Rattle.asg_commands.proofs.instances.sided.Goals as goal

pub returns-then-side-gt-MOST_SIDE-clause-stop : goal.returns-then-side-gt-MOST_SIDE-clause-stop
returns-then-side-gt-MOST_SIDE-clause-stop c =
    let X = c.args.inst in
    let file = large_file X c.from.result (c.from.ensures ∙ c.side-side.ensures.side) (rw c.from.ensures c.if-side-gt-MOST_SIDE.true) in
    subst (StopsInstance (sided X)) (sym c.stopped.ensures) (stops_file (sided X) (15 ∷ c.from.result ∷ []) c.refusal.result file c.refusal.ensures)
