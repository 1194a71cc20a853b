use Rattle.asg_kept.proofs.Common.{◌≡◌, ℕ, List, length, slice_index, Option, option_map, sym, ap, ◌∙◌, subst, arith, dual_grid, dual_value, FitsDuals, numbered_grid, count_is, cell_is, grid_is, Grid, cell_at}
use Rattle.asg_kept.proofs.DualLemmas.{same_grids, dual_is_grid, dual_cell_at}
use Rattle.asg_kept.proofs.DualPhases.{duals_fit}
use Rattle.asg_kept.proofs.dual_squares.DualSquare.reduce.Goals as goal

pub write_cells-requires-clause-rows : goal.write_cells-requires-clause-rows
write_cells-requires-clause-rows g c =
    omega (arith, ap length c.as_slice.ensures.value, c.self.invariant.duals.row_count, count_is g.met.N.SumNumber.numbers_law c.self.inside.rows.items)

pub write_cells-requires-clause-columns : goal.write_cells-requires-clause-columns
write_cells-requires-clause-columns g c =
    omega (arith, ap length c.as_slice-2.ensures.value, c.self.invariant.duals.column_count, count_is g.met.N.SumNumber.numbers_law c.self.inside.columns.items)

pub write_cells-requires-clause-fits : goal.write_cells-requires-clause-fits
write_cells-requires-clause-fits g c = λ r k.
    let N = g.N.SumNumber in
    let s = c.self.inside in
    let rows = N.numbers s.rows.items in
    let columns = N.numbers s.columns.items in
    subst (λ (xs : List g.row.N.Denot). FitsDuals N.width (slice_index (N.numbers xs) r) (slice_index (N.numbers c.as_slice-2.result.now) k) (N.present (cell_at s.kept.now r k))) (sym c.as_slice.ensures.value)
    (subst (λ (xs : List g.row.N.Denot). FitsDuals N.width (slice_index rows r) (slice_index (N.numbers xs) k) (N.present (cell_at s.kept.now r k))) (sym c.as_slice-2.ensures.value)
    (subst (λ (x : Option ℕ). FitsDuals N.width (slice_index rows r) (slice_index columns k) x) (cell_is g.met.N.SumNumber.present_law g.met.N.SumNumber.cells_law s.kept.now r k)
    (duals_fit c.self.invariant.duals N.width (omega (arith, g.met.N.SumNumber.wide_law)) r k)))

pub returns : goal.returns
returns g c =
    let N = g.N.SumNumber in
    let s = c.self.inside in
    let G = numbered_grid N.cells s.kept.now in
    let rows = N.numbers s.rows.items in
    let columns = N.numbers s.columns.items in
    let grid = c.self.invariant.duals.grid in
    let now = c.write_cells.new.square in
    let labels = c.write_cells.ensures.labels in
    let same : numbered_grid N.cells now ≡ dual_grid G rows columns =
    same_grids (dual_grid G rows columns) (numbered_grid N.cells now) (dual_is_grid G grid rows columns) (grid_is g.met.N.SumNumber.present_law g.met.N.SumNumber.cells_law now c.side.ensures.grid)
    (record { side = labels.side; rows = labels.rows; row_labels = labels.row_labels; column_labels = labels.column_labels })
    (λ r k h l.
    cell_is g.met.N.SumNumber.present_law g.met.N.SumNumber.cells_law now r k
    ∙ c.write_cells.ensures.cells r k h l
    ∙ ap (λ (xs : List g.row.N.Denot). option_map (dual_value (slice_index (N.numbers xs) r) (slice_index (N.numbers c.as_slice-2.result.now) k)) (N.present (cell_at s.kept.now r k))) c.as_slice.ensures.value
    ∙ ap (λ (xs : List g.row.N.Denot). option_map (dual_value (slice_index rows r) (slice_index (N.numbers xs) k)) (N.present (cell_at s.kept.now r k))) c.as_slice-2.ensures.value
    ∙ ap (option_map (dual_value (slice_index rows r) (slice_index columns k))) (sym (cell_is g.met.N.SumNumber.present_law g.met.N.SumNumber.cells_law s.kept.now r k))
    ∙ sym (dual_cell_at G grid rows columns r k)) in
    ap (λ (Q : Grid ℕ). record { now = Q; index = N.number s.kept.index }) same ∙ c.self.view_is
