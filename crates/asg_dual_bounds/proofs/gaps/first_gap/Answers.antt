use Rattle.asg_dual_bounds.proofs.Common.{◌+◌, arith, duals_of}
use Rattle.asg_dual_bounds.proofs.GapLemmas.{gap_in, open_twice}
use Rattle.asg_dual_bounds.proofs.gaps.first_gap.Goals as goal

pub returns-clause-gap : goal.returns-clause-gap
returns-clause-gap c =
    gap_in c.args.table.now c.args.answer.now c.args.k c.args.banned.now (duals_of c.args.duals.falls.now c.args.duals.rises.now c.args.duals.floor) c.bar_all-2.new.low c.args.column_gap c.gap_at.result c.gap_at.ensures.table
    (λ j h. open_twice c.args.answer.now (c.args.k + 1) c.args.banned.now c.args.duals.rises.now c.clip.new.low c.bar_all.new.low c.bar_all-2.new.low c.clip.ensures.low c.bar_all.ensures.bars c.bar_all-2.ensures.bars j (omega (arith, h, c.requires.rises)))
    c.requires.column.1 c.gap_at.ensures.gap
