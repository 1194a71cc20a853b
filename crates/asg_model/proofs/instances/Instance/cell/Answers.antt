-- The look-up, in the map, the list or the table, is the cost that the list of the cells has.
use Rattle.asg_model.proofs.Common.{◌≡◌, ℕ, List, length, IfSome, Option, sym, ap, ◌∙◌, subst, cells_in, IsInstance, IsCostInRange, IsStrictlySortedBy, by_places, keys_of, cost_at, Problem, table_cells, CellStore, Column, Cost, cost_at-All}
use Rattle.asg_model.proofs.Tables.{cells_are}
use Rattle.asg_model.proofs.Cells.{lookup_is-cost_at}
use Rattle.asg_model.proofs.instances.Instance.cell.Goals as goal
use Rattle.asg_model.proofs.instances.Instance.cell.Goals.{After-copied, After-listed_cell, After-table_cell}

in_map : (c : After-copied) → c.copied.result ≡ cost_at c.args.self.now.cells c.args.row c.args.col
in_map c =
    c.copied.ensures ∙ c.get.ensures.value ∙ lookup_is-cost_at c.args.row c.args.col c.in-Map.cells.entries
    ∙ ap (λ (store : CellStore). cost_at (cells_in (length c.self.inside.columns.items) store) c.args.row c.args.col) (sym c.in-Map.is)
    ∙ ap (λ (X : Problem). cost_at X.cells c.args.row c.args.col) c.self.view_is

in_table : (c : After-table_cell) → c.table_cell.result ≡ cost_at c.args.self.now.cells c.args.row c.args.col
in_table c =
    let X = c.args.self.now in
    let inside = c.self.inside in
    let columns = ap (λ (list : List Column). length list) c.columns.ensures.columns in
    c.table_cell.ensures
    ∙ (λ i. cost_at (table_cells (columns i) (c.as_slice-in-Table.ensures.value i) (c.as_slice-in-Table-2.ensures.value i)) c.args.row c.args.col)
    ∙ ap (λ (cells : List ((ℕ × ℕ) × Cost)). cost_at cells c.args.row c.args.col)
    (sym (cells_are inside.rows.items inside.columns.items inside.store inside.place X c.self.view_is c.in-Table.firsts c.in-Table.seconds c.in-Table.is))

-- a list of cells in order
in_list : (c : After-listed_cell) → c.listed_cell.result ≡ cost_at c.args.self.now.cells c.args.row c.args.col
in_list c =
    c.listed_cell.ensures
    ∙ ap (λ (cells : List ((ℕ × ℕ) × Cost)). cost_at cells c.args.row c.args.col) c.as_slice.ensures.value
    ∙ ap (λ (store : CellStore). cost_at (cells_in (length c.self.inside.columns.items) store) c.args.row c.args.col) (sym c.in-Listed.is)
    ∙ ap (λ (X : Problem). cost_at X.cells c.args.row c.args.col) c.self.view_is

pub returns-in-Map-clause-cost : goal.returns-in-Map-clause-cost
returns-in-Map-clause-cost c = in_map c

pub returns-in-Map-clause-in_range : goal.returns-in-Map-clause-in_range
returns-in-Map-clause-in_range c =
    let X = c.args.self.now in
    let instance : IsInstance X = subst (λ (X : Problem). IsInstance X) c.self.view_is c.self.invariant.instance in
    subst (λ (o : Option Cost). IfSome o IsCostInRange) (sym (in_map c)) (cost_at-All IsCostInRange X.cells c.args.row c.args.col instance.well_formed.costs)

pub returns-in-Table-clause-cost : goal.returns-in-Table-clause-cost
returns-in-Table-clause-cost c = in_table c

pub returns-in-Table-clause-in_range : goal.returns-in-Table-clause-in_range
returns-in-Table-clause-in_range c =
    let X = c.args.self.now in
    let instance : IsInstance X = subst (λ (X : Problem). IsInstance X) c.self.view_is c.self.invariant.instance in
    subst (λ (o : Option Cost). IfSome o IsCostInRange) (sym (in_table c)) (cost_at-All IsCostInRange X.cells c.args.row c.args.col instance.well_formed.costs)

pub listed_cell-requires : goal.listed_cell-requires
listed_cell-requires c =
    let ascend = c.self.invariant.instance.cells_ascend in
    subst (λ (cells : List ((ℕ × ℕ) × Cost)). IsStrictlySortedBy by_places (keys_of cells)) (sym c.as_slice.ensures.value)
    (subst (λ (store : CellStore). IsStrictlySortedBy by_places (keys_of (cells_in (length c.self.inside.columns.items) store))) c.in-Listed.is ascend)

pub returns-in-Listed-clause-cost : goal.returns-in-Listed-clause-cost
returns-in-Listed-clause-cost c = in_list c

pub returns-in-Listed-clause-in_range : goal.returns-in-Listed-clause-in_range
returns-in-Listed-clause-in_range c =
    let X = c.args.self.now in
    let instance : IsInstance X = subst (λ (X : Problem). IsInstance X) c.self.view_is c.self.invariant.instance in
    subst (λ (o : Option Cost). IfSome o IsCostInRange) (sym (in_list c)) (cost_at-All IsCostInRange X.cells c.args.row c.args.col instance.well_formed.costs)
