-- The cells of a square that rows of bits keep.
use Rattle.std.proofs.Common.{◌≡◌, ℕ, ◌+◌, ◌*◌, ◌/◌, ◌%◌, ◌<◌, ◌≤◌, Bool, true, false, ◌&&◌, cond, List, length, get_or, refl, sym, ◌∙◌, ap, subst, arith, ⊎_elim}
use Rattle.std.specs.Prelude.{Option, Some, None, IsSome, is_some, nat_lt}
use Rattle.std.proofs.lemmas.Bool.{false≢true, cases_lt, lt-ltb, le-ltb}
use Rattle.std.proofs.lemmas.List.{get_or_past}
use Rattle.std.proofs.lemmas.List.FromFn.{length-map-range_with_len, get_or-map-range_with_len}
use Rattle.std.proofs.lemmas.Nat.{div-mul-add, mod-mul-add}
use Rattle.asg_bit_rows.specs.BitTable.{word_count, is_bit_set, AreWordsOf}
use Rattle.asg_cell_tables.specs.CellTable.{AreValuesOf}
use Rattle.asg_square.specs.Grid.{Grid, IsGrid, cell_at}
use Rattle.asg_square.specs.Masked.{keeps, masked_grid, AreBoth}
use Rattle.asg_bit_rows.specs.laws.Words.{is_and}

-- whether a cell is kept, by the word that holds its bit
pub keeps-word : (side : ℕ) (words : List ℕ) (r k : ℕ) → k / 64 < word_count side → keeps side words r k ≡ is_bit_set (get_or words (r * word_count side + k / 64) 0) (k % 64)
keeps-word side words r k within = ap (λ b. b && is_bit_set (get_or words (r * word_count side + k / 64) 0) (k % 64)) (lt-ltb (k / 64) (word_count side) within)

module _ {V : Type 0} (Q : Grid V) (words : List ℕ) where
  -- the cell at a row and a column
  pub cell_at-masked : (r k : ℕ) → cell_at (masked_grid Q words) r k ≡ cond (keeps Q.side words r k) (cell_at Q r k) None
  cell_at-masked r k =
      ⊎_elim
      (λ (within : k < Q.side).
      let n = r * Q.side + k in
      let cells = (masked_grid Q words).cells in
      let inside = lt-ltb k Q.side within in
      ap (λ b. cond b (get_or cells n None) None) inside
      ∙ ⊎_elim
      (λ (there : n < length Q.cells).
      get_or-map-range_with_len (λ i. cond (keeps Q.side words (i / Q.side) (i % Q.side)) (get_or Q.cells i None) None) 0 (length Q.cells) n n None there (omega arith)
      ∙ (λ i. cond (keeps Q.side words (div-mul-add r Q.side k within i) (mod-mul-add r Q.side k within i)) (get_or Q.cells n None) None))
      (λ (past : length Q.cells ≤ n).
      get_or_past cells n None (omega (arith, past, length-map-range_with_len (λ i. cond (keeps Q.side words (i / Q.side) (i % Q.side)) (get_or Q.cells i None) None) 0 (length Q.cells)))
      ∙ either (keeps Q.side words r k) (get_or Q.cells n None) (get_or_past Q.cells n None past))
      (cases_lt n (length Q.cells))
      ∙ ap (λ b. cond (keeps Q.side words r k) (cond b (get_or Q.cells n None) None) None) (sym inside))
      (λ (past : Q.side ≤ k).
      let outside = le-ltb k Q.side past in
      ap (λ b. cond b (get_or (masked_grid Q words).cells (r * Q.side + k) None) None) outside
      ∙ either (keeps Q.side words r k) (cond (nat_lt k Q.side) (get_or Q.cells (r * Q.side + k) None) None) (ap (λ b. cond b (get_or Q.cells (r * Q.side + k) None) None) outside))
      (cases_lt k Q.side)
    where
      either : (b : Bool) (o : Option V) → o ≡ None → None ≡ cond b o None
      either true o e = sym e
      either false o e = refl

  -- it is a square
  pub IsGrid-masked : IsGrid Q → IsGrid (masked_grid Q words)
  IsGrid-masked grid = record {
    row_count = grid.row_count;
    column_count = grid.column_count;
    rows_within = grid.rows_within;
    table = record {
      few = grid.table.few;
      count = length-map-range_with_len (λ i. cond (keeps Q.side words (i / Q.side) (i % Q.side)) (get_or Q.cells i None) None) 0 (length Q.cells) ∙ grid.table.count;
    };
  }

  pub some_kept : (r k : ℕ) → IsSome (cell_at (masked_grid Q words) r k) → (keeps Q.side words r k ≡ true) × IsSome (cell_at Q r k)
  some_kept r k h = by (keeps Q.side words r k) (cell_at Q r k) (subst IsSome (cell_at-masked r k) h)
    where
      by : (b : Bool) (o : Option V) → IsSome (cond b o None) → (b ≡ true) × IsSome o
      by true o h = (refl, h)
      by false o h = absurd (false≢true h)

  pub kept_some : (r k : ℕ) → keeps Q.side words r k ≡ true → cell_at (masked_grid Q words) r k ≡ cell_at Q r k
  kept_some r k e = cell_at-masked r k ∙ ap (λ b. cond b (cell_at Q r k) None) e

  -- the values of a row are those of its kept cells
  pub AreValuesOf-masked : (r : ℕ) (values : List V) → AreValuesOf (cell_at Q r) Q.side values → AreValuesOf (cell_at (masked_grid Q words) r) Q.side values
  AreValuesOf-masked r values are = record {
    count = are.count;
    each = λ k some. let parts = some_kept r k some in are.each k parts.1 ∙ sym (kept_some r k parts.0);
  }

  -- the words of a row's kept cells
  pub AreWordsOf-masked : (r : ℕ) (present both : List ℕ) → AreWordsOf (λ k. is_some (cell_at Q r k)) Q.side present → AreBoth present words (r * word_count Q.side) both → AreWordsOf (λ k. is_some (cell_at (masked_grid Q words) r k)) Q.side both
  AreWordsOf-masked r present both are is = record {
    count = is.count ∙ are.count;
    each = λ k within.
        let there : k / 64 < length present = omega (arith, within, is.count) in
        let number : k / 64 < word_count Q.side = omega (arith, there, are.count) in
        let word = get_or words (r * word_count Q.side + k / 64) 0 in
        ap (λ w. is_bit_set w (k % 64)) (is.each (k / 64) there)
        ∙ is_and (get_or present (k / 64) 0) word (k % 64)
        ∙ ap (λ b. b && is_bit_set word (k % 64)) (are.each k (omega (arith, there)))
        ∙ kept_if (cell_at Q r k) (is_bit_set word (k % 64))
        ∙ ap (λ b. is_some (cond b (cell_at Q r k) None)) (sym (keeps-word Q.side words r k number))
        ∙ ap is_some (sym (cell_at-masked r k));
  }
    where
      kept_if : (o : Option V) (b : Bool) → (is_some o && b) ≡ is_some (cond b o None)
      kept_if None true = refl
      kept_if None false = refl
      kept_if (Some x) true = refl
      kept_if (Some x) false = refl
