-- Squares of sums whose cells are written out.
use Rattle.asg_kept.proofs.Common.{◌≡◌, ℕ, ◌<◌, ◌≤◌, Bool, true, ◌↔◌, List, length, slice_index, Option, option_map, sym, ap, ◌∙◌, subst, arith, IsReduced, IsPhaseTo, KeepsLabels, Reduced, AreZeros, KeepsSums, bounded_sums, bounded_difference, dual_value, dual_grid, dual_reduced, FitsDuals, PhaseOf, IsAdmittedPhase, Grid, IsGrid, cell_at}
use Rattle.asg_kept.proofs.DualLemmas.{same_grids, dual_is_grid, dual_cell_at}
use Rattle.asg_kept.proofs.ZeroDuals.{start_is, written}

abbrev pub reduced_of : Grid ℕ → ℕ → Reduced ℕ
reduced_of Q index = record { now = Q; index = index }

-- the square with its cells written out is the one that the dual variables make
module _ {bound : ℕ} {Q : Grid ℕ} {rows columns : List ℕ} {index greatest : ℕ} {is_written : Bool} (keeps : KeepsSums bound Q rows columns index greatest is_written)
    {out : Grid ℕ} (grid : IsGrid out) (labels : KeepsLabels Q out) (cells : (r k : ℕ) → r < Q.side → k < Q.side → cell_at out r k ≡ option_map (dual_value (slice_index rows r) (slice_index columns k)) (cell_at Q r k))
    {now : Reduced ℕ} (view : dual_reduced Q rows columns index ≡ now) where
  pub out_is : reduced_of out index ≡ now
  out_is =
      ap (λ (S : Grid ℕ). reduced_of S index)
      (same_grids (dual_grid Q rows columns) out (dual_is_grid Q keeps.duals.grid rows columns) grid
      (record { side = labels.side; rows = labels.rows; row_labels = labels.row_labels; column_labels = labels.column_labels })
      (λ r k h l. cells r k h l ∙ sym (dual_cell_at Q keeps.duals.grid rows columns r k)))
      ∙ view

  -- it is reduced, and a phase is admitted from it, as from the square that it is
  pub out_reduced : (top : ℕ) → IsReduced (bounded_sums top) now → IsReduced (bounded_sums top) (reduced_of out index)
  out_reduced top is = subst (IsReduced (bounded_sums top)) (sym out_is) is

  pub out_admitted : (top : ℕ) {phase : PhaseOf ℕ} → IsAdmittedPhase (bounded_sums top) bounded_difference now.now.side phase (cell_at now.now) → IsAdmittedPhase (bounded_sums top) bounded_difference out.side phase (cell_at out)
  out_admitted top {phase} is = subst (λ (R : Reduced ℕ). IsAdmittedPhase (bounded_sums top) bounded_difference R.now.side phase (cell_at R.now)) (sym out_is) is

  out_tested : (top : ℕ) {phase : PhaseOf ℕ} → IsAdmittedPhase (bounded_sums top) bounded_difference out.side phase (cell_at out) → IsAdmittedPhase (bounded_sums top) bounded_difference now.now.side phase (cell_at now.now)
  out_tested top {phase} is = subst (λ (R : Reduced ℕ). IsAdmittedPhase (bounded_sums top) bounded_difference R.now.side phase (cell_at R.now)) out_is is

  -- and after a phase that rewrites its cells, no dual variable is greater than 0
  module _ (zero_rows zero_columns : List ℕ) (row_count : length zero_rows ≡ length rows) (column_count : length zero_columns ≡ length columns) (row_zero : AreZeros zero_rows) (column_zero : AreZeros zero_columns)
      {top : ℕ} (few : top ≤ bound) {after : Grid ℕ} {later : ℕ} (after_grid : IsGrid after) (after_labels : KeepsLabels out after) (reduced : IsReduced (bounded_sums top) (reduced_of after later)) where
    pub after_keeps : {last : ℕ} → last ≡ bound → KeepsSums bound after zero_rows zero_columns later last true
    after_keeps is_bound =
        subst (λ (n : ℕ). KeepsSums bound after zero_rows zero_columns later n true) (sym is_bound)
        (written after after_grid zero_rows zero_columns row_zero column_zero {bound = bound} top later few reduced
        (omega (arith, row_count, keeps.duals.row_count, labels.side, after_labels.side))
        (omega (arith, column_count, keeps.duals.column_count, labels.side, after_labels.side)))

    pub after_phase_to : {phase : PhaseOf ℕ} → IsPhaseTo (bounded_sums top) bounded_difference phase (reduced_of out index) (reduced_of after later) → IsPhaseTo (bounded_sums top) bounded_difference phase now (dual_reduced after zero_rows zero_columns later)
    after_phase_to {phase} to =
        subst (λ (R : Reduced ℕ). IsPhaseTo (bounded_sums top) bounded_difference phase R (dual_reduced after zero_rows zero_columns later)) out_is
        (subst (λ (R : Reduced ℕ). IsPhaseTo (bounded_sums top) bounded_difference phase (reduced_of out index) R) (sym (start_is after after_grid zero_rows zero_columns row_zero column_zero later)) to)

  pub tested : {T : Type 0} (top : ℕ) {phase : PhaseOf ℕ} → T ↔ IsAdmittedPhase (bounded_sums top) bounded_difference out.side phase (cell_at out) → T ↔ IsAdmittedPhase (bounded_sums top) bounded_difference now.now.side phase (cell_at now.now)
  tested top told = (λ is. out_tested top (told.0 is), λ admitted. told.1 (out_admitted top admitted))
