use Rattle.asg_table_phases.proofs.Common.{ℕ, arith, slice_index, sym, subst, Cost}
use Rattle.std.proofs.Common.{◌≡◌, ℤ, All, get_or, of_z, pos, take, to_z, w64}
use Rattle.std.proofs.lemmas.Int.{fits_signed_from_abs, to_z-of_z}
use Rattle.std.proofs.lemmas.List.{take_all, take_more}
use Rattle.std.proofs.lemmas.List.Elements.{All-push}
use Rattle.asg_table_phases.specs.TableRows.{FitsCost}
use Rattle.asg_table_phases.proofs.row_cells.cells_fit.Goals as goal

pub loop-cell-preserved : goal.loop-cell-preserved
loop-cell-preserved c =
    let cells = c.args.cells.now in
    let i = c.loop-cell.cell-index in
    let none : (ℕ × ℕ) × Cost = ((0, 0), record { a = pos 0; b = pos 0 }) in
    let fits : (ℕ × ℕ) × Cost → Type 0 = λ cell. FitsCost c.args.objective cell.1.a (slice_index c.args.columns.now cell.0.1) c.args.raise in
    let a = (get_or cells i none).1.a in
    let range = c.requires.in_range i none c.loop-cell-test.true in
    let same : to_z w64 (of_z w64 a) ≡ a = to_z-of_z w64 a (fits_signed_from_abs w64 a (omega (arith, range.a_in_range))) in
    subst (All fits) (sym (take_more cells i none c.loop-cell-test.true))
    (All-push fits (take i cells) (get_or cells i none) c.loop-cell.invariant
    (subst (λ (a : ℤ). FitsCost c.args.objective a (slice_index c.args.columns.now (get_or cells i none).0.1) c.args.raise) same
    (c.fits_cost.ensures c.if-not-fits_cost.false)))

pub returns : goal.returns
returns c = λ told.
    let cells = c.args.cells.now in
    let fits : (ℕ × ℕ) × Cost → Type 0 = λ cell. FitsCost c.args.objective cell.1.a (slice_index c.args.columns.now cell.0.1) c.args.raise in
    subst (All fits) (take_all c.loop-cell.cell-index cells (omega (arith, c.loop-cell-test.false))) c.loop-cell.invariant
