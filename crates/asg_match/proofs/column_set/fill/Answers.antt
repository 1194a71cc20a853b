use Rattle.asg_match.proofs.Common.{arith, IsColumnSet-full, HasColumn-full}
use Rattle.asg_match.proofs.column_set.fill.Goals as goal

pub returns-clause-set : goal.returns-clause-set
returns-clause-set c =
    let inv = c.loop-number.invariant in
    IsColumnSet-full c.args.side c.loop-number.words.items inv.count (λ i h. inv.full i (omega (arith, h, inv.count, inv.end)))

pub returns-clause-all : goal.returns-clause-all
returns-clause-all c =
    let inv = c.loop-number.invariant in
    HasColumn-full c.args.side c.loop-number.words.items inv.count (λ i h. inv.full i (omega (arith, h, inv.count, inv.end)))
