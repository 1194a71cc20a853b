-- Dual variables none of which is greater than 0.
use Rattle.asg_kept.proofs.Common.{◌≡◌, ℕ, ◌<◌, ◌≤◌, Bool, true, false, List, length, replicate, slice_index, Some, None, Option, option_map, sym, refl, ap, ◌∙◌, ⊎_elim, arith, leb-true, cases_lt, false≢true, get_or-replicate, get_or_past, length-replicate, IsReduced, present_within, AreZeros, KeepsSums, bounded_sums, dual_value, dual_grid, dual_reduced, AreDuals, IsGreatest, Grid, IsGrid, cell_at}
use Rattle.asg_kept.proofs.DualLemmas.{same_cells, dual_is_grid, dual_cell_at}

-- such numbers are 0 at each place
pub zeros_at : (numbers : List ℕ) (n : ℕ) → numbers ≡ replicate n 0 → AreZeros numbers
zeros_at numbers n are i = ap (λ xs. slice_index xs i) are ∙ zero_at n i
  where
    zero_at : (n i : ℕ) → slice_index (replicate n 0) i ≡ 0
    zero_at n i =
        ⊎_elim
        (λ (h : i < n). get_or-replicate n i 0 0 h)
        (λ (h : n ≤ i). get_or_past (replicate n 0) i 0 (let count = length-replicate {A = ℕ} n 0 in omega (arith, h, count)))
        (cases_lt i n)

-- they change no cell
pub zero_map : (row column : ℕ) (o : Option ℕ) → row ≡ 0 → column ≡ 0 → o ≡ option_map (dual_value row column) o
zero_map row column None no_row no_column = refl
zero_map row column (Some x) no_row no_column = let same : x ≡ dual_value row column x = omega (arith, no_row, no_column) in ap Some same

-- dual variables of a square whose cells aren't written out
pub unwritten : {bound : ℕ} {Q : Grid ℕ} {rows columns : List ℕ} {index greatest : ℕ} → AreDuals bound Q rows columns index greatest → KeepsSums bound Q rows columns index greatest false
unwritten duals = record {
  duals = duals;
  zero_rows = λ h. absurd (false≢true h);
  zero_columns = λ h. absurd (false≢true h);
}

module _ (Q : Grid ℕ) (grid : IsGrid Q) (rows columns : List ℕ) (row_zero : AreZeros rows) (column_zero : AreZeros columns) where
  -- the square is as it was
  pub start_is : (index : ℕ) → dual_reduced Q rows columns index ≡ record { now = Q; index = index }
  start_is index =
      ap (λ (cells : List (Option ℕ)). record { now = record Q { cells = cells }; index = index })
      (same_cells Q (dual_grid Q rows columns) grid (dual_is_grid Q grid rows columns) refl
      (λ r k h l. dual_cell_at Q grid rows columns r k
      ∙ sym (zero_map (slice_index rows r) (slice_index columns k) (cell_at Q r k) (row_zero r) (column_zero k))))

  module _ (row_count : length rows ≡ Q.side) (column_count : length columns ≡ Q.side) {bound : ℕ} (top index greatest : ℕ) (few : top ≤ bound) (reduced : IsReduced (bounded_sums top) (record { now = Q; index = index })) where
    -- they are dual variables, with a number that no cell passes
    pub duals_start : ((r k x : ℕ) → r < Q.side → cell_at Q r k ≡ Some x → x ≤ greatest) → greatest ≤ bound → AreDuals bound Q rows columns index greatest
    duals_start above few_greatest = record {
      grid = grid;
      row_count = row_count;
      column_count = column_count;
      rows_within = λ r h. omega (arith, row_zero r);
      columns_within = λ k h. omega (arith, column_zero k);
      cells = λ r k x is. omega (arith, column_zero k);
      above = above;
      few_index = let below : index ≤ top = leb-true index top reduced.index in omega (arith, below, few);
      few_greatest = few_greatest;
    }

    cell_few : (r k x : ℕ) → cell_at Q r k ≡ Some x → x ≤ bound
    cell_few r k x is =
        let within = present_within Q grid r k x is in
        let value : x ≤ top = leb-true x top (reduced.cells r k x within.0 within.1 is) in
        omega (arith, value, few)

    pub greatest_few : IsGreatest Q.side (cell_at Q) greatest → greatest ≤ bound
    greatest_few so =
        ⊎_elim (λ (none : greatest ≡ 0). omega (arith, none)) (λ some. cell_few some.0 some.1 greatest some.2) so.reached

  -- the same where the cells were written out, and no number passes the bound
  pub written : {bound : ℕ} (top index : ℕ) → top ≤ bound → IsReduced (bounded_sums top) (record { now = Q; index = index }) → length rows ≡ Q.side → length columns ≡ Q.side → KeepsSums bound Q rows columns index bound true
  written {bound} top index few reduced row_count column_count = record {
    duals = duals_start row_count column_count {bound = bound} top index bound few reduced (λ r k x h is. cell_few row_count column_count {bound = bound} top index bound few reduced r k x is) (omega arith);
    zero_rows = λ _. row_zero;
    zero_columns = λ _. column_zero;
  }
