use Rattle.asg_settling.proofs.Common.{phase_of, all_rows}
use Rattle.asg_settling.proofs.settling.settle_rows.Goals as goal

pub returns-clause-settled : goal.returns-clause-settled
returns-clause-settled g c =
    let m = c.args.m.now in
    all_rows (g.M.Ordered.monoid_of m) (g.M.DMonoid.difference m) (phase_of c.args.steps.now c.args.enters.now c.args.leaves.now)
    c.args.square.now c.settle_waiting.new.square c.settle_entered.new.square c.settle_waiting.ensures.settled c.settle_entered.ensures.settled
