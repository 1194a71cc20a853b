-- The cells of a row by its values and its words.
use Rattle.asg_admit.proofs.Common.{◌≡◌, ℕ, ◌+◌, ◌*◌, ◌/◌, ◌%◌, ◌<◌, Bool, true, false, cond, List, length, is_some, IsTrue, slice_get, slice_index, Some, None, Option, sym, refl, ap, ◌∙◌, subst, arith, false≢true, slice_get_within, AllowsAt, AllowsRow, cell_in_row, is_marked, row_read, is_bit_set, AreWordsOf, HasBit, Monoid, Grid, cell_at}
use Rattle.asg_cell_tables.specs.CellTable.{AreValuesOf}
use Rattle.asg_admit.proofs.MarkLemmas.{marked_at, bit_set}

module _ {V : Type 0} (row : ℕ → Option V) (side : ℕ) (values : List V) (words : List ℕ) (are_values : AreValuesOf row side values) (are_words : AreWordsOf (λ k. is_some (row k)) side words) where
  -- no mark stands past the last column
  pub marks_inside : (k : ℕ) → k < 64 * length words → IsTrue (is_marked words k) → k < length values
  marks_inside k h marked = by (row k) refl
    where
      some : is_some (row k) ≡ true
      some = sym (are_words.each k h) ∙ marked

      by : (o : Option V) → row k ≡ o → k < length values
      by None is = absurd (false≢true (sym (ap is_some is) ∙ some))
      by (Some x) is = slice_get_within values k x (are_values.each k some ∙ is)

  of_cell : (b : Bool) (o : Option V) (x : V) → cond b o None ≡ Some x → o ≡ Some x
  of_cell true o x is = is
  of_cell false o x is = absurd (cc is)

  -- a cell that is read is a cell of the row
  pub read_cell : (k : ℕ) (x : V) → cell_in_row values words k ≡ Some x → (k < side) × (row k ≡ Some x)
  read_cell k x is =
      let within = slice_get_within values k x (of_cell (is_bit_set (slice_index words (k / 64)) (k % 64)) (slice_get values k) x is) in
      let below : k < side = omega (arith, within, are_values.count) in
      (below, row_read row side values words are_values are_words k below ∙ is)

-- where the cells that are read allow the steps, so does the row
module _ {V : Type 0} (M : Monoid V) (difference : V → V → V) (steps : List V) (enter : ℕ) (leaves : List ℕ) (Q : Grid V) (row : ℕ) (values : List V) (words : List ℕ) (are_values : AreValuesOf (cell_at Q row) Q.side values) (are_words : AreWordsOf (λ k. is_some (cell_at Q row k)) Q.side words) (over : length leaves ≡ Q.side) where
  abbrev AllowsCells : Type 0
  AllowsCells = (k : ℕ) → k < length leaves → AllowsAt M difference steps enter (slice_index leaves k) (cell_in_row values words k)

  pub row_from_cells : AllowsCells → AllowsRow M difference steps enter leaves Q row
  row_from_cells cells = λ k h.
      subst (AllowsAt M difference steps enter (slice_index leaves k)) (sym (row_read (cell_at Q row) Q.side values words are_values are_words k h)) (cells k (omega (arith, h, over)))

  pub cells_from_row : AllowsRow M difference steps enter leaves Q row → AllowsCells
  cells_from_row all = λ k h.
      let below : k < Q.side = omega (arith, h, over) in
      subst (AllowsAt M difference steps enter (slice_index leaves k)) (row_read (cell_at Q row) Q.side values words are_values are_words k below) (all k below)

-- the cells of a word of the row
module _ {V : Type 0} (values : List V) (words : List ℕ) where
  -- where the bit is set
  pub cell_of_bit : (n k : ℕ) → k < 64 → HasBit (slice_index words n) k → cell_in_row values words (64 * n + k) ≡ slice_get values (64 * n + k)
  cell_of_bit n k low has =
      ap (λ b. cond b (slice_get values (64 * n + k)) None) (marked_at words n k low ∙ bit_set (slice_index words n) k has)

  parts : (k : ℕ) → 64 * (k / 64) + k % 64 ≡ k
  parts k = omega arith

  -- the bit of a cell that is read
  pub bit_of_cell : (k : ℕ) (x : V) → cell_in_row values words k ≡ Some x → IsTrue (is_marked words k)
  bit_of_cell k x is = by (is_marked words k) refl is
    where
      by : (b : Bool) → is_marked words k ≡ b → cond b (slice_get values k) None ≡ Some x → is_marked words k ≡ true
      by true e is = e
      by false e is = absurd (cc is)
