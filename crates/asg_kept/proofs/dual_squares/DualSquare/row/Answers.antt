use Rattle.asg_kept.proofs.Common.{ℕ, ◌<◌, length, Option, sym, ap, subst, arith, Reduced, AreValuesOf, numbered_grid, count_is, read_is, values_are, cells_are, cell_at}
use Rattle.asg_kept.proofs.DualPhases.{dual_row_is}
use Rattle.asg_kept.proofs.dual_squares.DualSquare.row.Goals as goal

pub index-requires : goal.index-requires
index-requires g c =
    let row = subst (λ (R : Reduced ℕ). c.args.r < R.now.side) (sym c.self.view_is) c.requires in
    omega (arith, row, c.self.invariant.duals.row_count, count_is g.met.N.SumNumber.numbers_law c.self.inside.rows.items)

pub dual_row-requires : goal.dual_row-requires
dual_row-requires g c =
    omega (arith, ap length c.as_slice.ensures.value, c.row_values-values.ensures.count, c.self.invariant.duals.column_count, count_is g.met.N.SumNumber.numbers_law c.self.inside.columns.items)

pub returns : goal.returns
returns g c =
    let N = g.N.SumNumber in
    let law = g.met.N.SumNumber.numbers_law in
    let values = c.row_values-values.result.now in
    let s = c.self.inside in
    let row = subst (λ (R : Reduced ℕ). c.args.r < R.now.side) (sym c.self.view_is) c.requires in
    let within : c.args.r < length s.rows.items = omega (arith, row, c.self.invariant.duals.row_count, count_is law s.rows.items) in
    let are =
    subst (λ (square : ℕ → ℕ → Option ℕ). AreValuesOf (square c.args.r) s.kept.now.side (N.numbers values)) (cells_are g.met.N.SumNumber.present_law g.met.N.SumNumber.cells_law s.kept.now)
    (values_are g.met.N.SumNumber.present_law law (cell_at s.kept.now c.args.r) s.kept.now.side values c.row_values-values.ensures) in
    subst (λ (R : Reduced ℕ). AreValuesOf (cell_at R.now c.args.r) R.now.side c.dual_row.result) c.self.view_is
    (dual_row_is c.self.invariant.duals N.width (omega (arith, g.met.N.SumNumber.wide_law)) c.args.r (N.numbers values) (N.numbers c.as_slice.result.now) (N.number c.index.result.now) c.dual_row.result
    are (ap N.numbers c.as_slice.ensures.value) (read_is law s.rows.items c.args.r c.index.result.now within c.index.ensures) c.dual_row.ensures)
