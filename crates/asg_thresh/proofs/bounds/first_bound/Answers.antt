use Rattle.asg_thresh.proofs.CellLemmas.{IsDeficient-column_bound}
use Rattle.asg_thresh.proofs.bounds.first_bound.Goals as goal

pub returns-then-column-row : goal.returns-then-column-row
returns-then-column-row c =
    IsDeficient-column_bound c.args.grades.now c.args.side c.in_ok-column.column.line c.in_ok-column.column.grade c.in_ok-rows.rows.items c.in_ok-column.ensures c.in_ok-rows.ensures
