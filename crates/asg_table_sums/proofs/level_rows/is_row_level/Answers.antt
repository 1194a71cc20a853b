use Rattle.asg_table_sums.proofs.Common.{subst, to_z-of_z, shifted, IsUnder, IsOver, w64}
use Rattle.asg_table_sums.proofs.RowLevels.{level_chosen, level_out}
use Rattle.asg_table_sums.proofs.level_rows.is_row_level.Goals as goal

pub returns-in-Some : goal.returns-in-Some
returns-in-Some c = λ yes.
    level_chosen c.args.objective c.args.inst.now c.args.choice.now c.args.rises.now (shifted c.args.top) c.args.row c.in-Some.column c.in-Some.ensures
    (c.is_least_cell.ensures.least yes)
    (subst (λ z. IsUnder c.args.objective c.args.inst.now c.args.rises.now (shifted z) c.args.row c.in-Some.column) (to_z-of_z w64 c.args.top c.ranges.top) (c.is_least_cell.ensures.under yes))

pub returns-in-None : goal.returns-in-None
returns-in-None c = λ yes.
    level_out c.args.objective c.args.inst.now c.args.choice.now c.args.rises.now (shifted c.args.top) c.args.row c.in-None.ensures
    (subst (λ z. IsOver c.args.objective c.args.inst.now c.args.rises.now (shifted z) c.args.row) (to_z-of_z w64 c.args.top c.ranges.top) (c.is_row_over.ensures yes))
