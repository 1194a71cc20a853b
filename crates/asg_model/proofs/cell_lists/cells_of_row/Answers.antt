use Rattle.asg_model.proofs.Common.{◌≤◌, ◌≡◌, ◌+◌, true, false, ltb, length, take, sym, subst}
use Rattle.std.specs.List.Sorted.{IsNonDecreasingBy, IsPartitionPoint}
use Rattle.asg_model.specs.CellLists.{IsRowOf}
use Rattle.asg_model.proofs.CellLists.{Cells, rows_rise, rise_from, rest_of, row_part}
use Rattle.asg_model.proofs.cell_lists.cells_of_row.Goals as goal

pub cells_before-requires : goal.cells_before-requires
cells_before-requires c = rows_rise c.args.cells.now c.requires

pub cells_before-requires-2 : goal.cells_before-requires-2
cells_before-requires-2 c =
    subst (λ (cells : Cells). IsNonDecreasingBy (λ cell. cell.0.0) cells) (sym (rest_of c.args.cells.now c.cells_before.result))
    (rise_from c.args.cells.now c.cells_before.result (rows_rise c.args.cells.now c.requires))

pub returns : goal.returns
returns c =
    let cells = c.args.cells.now in
    let first = c.cells_before.result in
    let count = c.cells_before-2.result in
    let r = c.args.row in
    let rest = rest_of cells first in
    subst (λ (list : Cells). IsRowOf cells r (take count list)) (sym rest)
    (row_part cells r first count
    (subst (λ (list : Cells). count ≤ length list) rest c.cells_before-2.ensures.bound)
    c.cells_before.ensures.point
    (subst (λ (list : Cells). IsPartitionPoint (λ cell. ltb cell.0.0 (r + 1) ≡ true) (λ cell. ltb cell.0.0 (r + 1) ≡ false) list count) rest c.cells_before-2.ensures.point))
