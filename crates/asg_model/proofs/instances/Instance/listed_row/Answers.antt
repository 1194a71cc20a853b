use Rattle.asg_model.proofs.Common.{◌<◌, List, length, sym, ap, subst, by_places, keys_of, Row}
use Rattle.std.specs.List.Sorted.{IsStrictlySortedBy}
use Rattle.asg_model.specs.CellLists.{IsRowOf}
use Rattle.asg_model.proofs.CellLists.{Cells, AreRowCells-row}
use Rattle.asg_model.proofs.instances.Instance.listed_row.Goals as goal

pub cells_of_row-requires : goal.cells_of_row-requires
cells_of_row-requires c =
    subst (λ (cells : Cells). IsStrictlySortedBy by_places (keys_of cells)) (sym c.requires) c.rows.ensures.instance.cells_ascend

pub returns-then-row-rows-clause-cells : goal.returns-then-row-rows-clause-cells
returns-then-row-rows-clause-cells c =
    AreRowCells-row c.args.self.now c.args.row c.cells_of_row.result.now c.rows.ensures.instance
    (subst (λ n. c.args.row < n) (ap (λ (rows : List Row). length rows) c.rows.ensures.rows) c.if-row-rows.true)
    (subst (λ (cells : Cells). IsRowOf cells c.args.row c.cells_of_row.result.now) c.requires c.cells_of_row.ensures)
