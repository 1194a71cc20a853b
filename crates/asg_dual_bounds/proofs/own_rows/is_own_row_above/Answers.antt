use Rattle.asg_dual_bounds.proofs.GapLemmas.{own_above}
use Rattle.asg_dual_bounds.proofs.own_rows.is_own_row_above.Goals as goal

pub returns-then-is_low_row_above : goal.returns-then-is_low_row_above
returns-then-is_low_row_above c = λ _.
    own_above c.args.table.now c.args.row c.args.own c.args.fall c.args.banned.now c.args.rises.now c.args.low.now c.bar.new.low c.bar_all.new.low c.is_low_row_above.ensures.table c.requires.rises c.requires.clipped c.bar.ensures.each c.bar_all.ensures.bars (c.is_low_row_above.ensures.above c.if-is_low_row_above.true)
