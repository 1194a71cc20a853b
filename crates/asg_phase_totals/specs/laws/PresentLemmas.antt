-- The number of an option, where a trait says what it is.
use Rattle.std.proofs.Common.{◌≡◌, ℕ, Bool, true, false, List, length, map, ◌+◌, ◌*◌, ◌<◌, ◌≤◌, cond, ltb, get_or, sym, ◌∙◌, ap, refl, ⊎_elim}
use Rattle.std.proofs.Math.ListN.{get_or-map}
use Rattle.std.proofs.Math.Path.{fun_ext}
use Rattle.std.specs.Prelude.{Option, Some, None}
use Rattle.std.specs.Option.{option_map}
use Rattle.std.proofs.lemmas.Bool.{cases_lt, le-ltb}
use Rattle.std.proofs.lemmas.Option.{none-some}
use Rattle.std.specs.Prelude.{is_some, slice_get}
use Rattle.std.proofs.lemmas.List.{length-map}
use Rattle.std.proofs.lemmas.Option.{slice_get-map}
use Rattle.asg_bit_rows.specs.BitTable.{AreWordsOf}
use Rattle.asg_cell_tables.specs.CellTable.{AreValuesOf}
use Rattle.asg_square.specs.Grid.{Grid, IsGrid, cell_at}
use Rattle.asg_phase_totals.specs.SumNumbers.{numbered_grid}
use Rattle.asg_phase_totals.specs.laws.NumberLemmas.{count_is}

-- a present cell is within the side
pub column_within : {V : Type 0} (Q : Grid V) (r k : ℕ) (x : V) → cell_at Q r k ≡ Some x → k < Q.side
column_within Q r k x is =
    ⊎_elim (λ (below : k < Q.side). below) (λ (past : Q.side ≤ k). absurd (none-some x (sym (ap (λ b. cond b (get_or Q.cells (r * Q.side + k) None) None) (le-ltb k Q.side past)) ∙ is))) (cases_lt k Q.side)

-- an option that is mapped to something is something
mapped : {T P : Type 0} (f : T → ℕ) (o : Option T) (y : ℕ) → option_map f o ≡ Some y → ((x : T) → o ≡ Some x → option_map f (Some x) ≡ Some y → P) → P
mapped f (Some x) y e k = k x refl e
mapped f None y e k = absurd (none-some y e)

module _ {T : Type 0} {number : T → ℕ} {present : Option T → Option ℕ} (law : (o : Option T) → present o ≡ option_map number o) where
  -- that of a value
  pub present_is : (o : Option T) (x : T) → o ≡ Some x → present o ≡ Some (number x)
  present_is o x e = law o ∙ ap (option_map number) e

  -- a present number is that of a value
  pub value_is : (P : Type 0) (o : Option T) (y : ℕ) → present o ≡ Some y → ((x : T) → o ≡ Some x → P) → P
  value_is P o y e k = mapped number o y (sym (law o) ∙ e) (λ x is _. k x is)

  -- a value is present exactly where its number is
  pub same_presence : (o : Option T) → is_some (present o) ≡ is_some o
  same_presence o = ap is_some (law o) ∙ mapped_presence o
    where
      mapped_presence : (o : Option T) → is_some (option_map number o) ≡ is_some o
      mapped_presence (Some x) = refl
      mapped_presence None = refl

  -- the words of a row say which of its numbers are present
  pub words_are : (row : ℕ → Option T) (side : ℕ) (words : List ℕ) → AreWordsOf (λ k. is_some (row k)) side words → AreWordsOf (λ k. is_some (present (row k))) side words
  words_are row side words are = record {
    count = are.count;
    each = λ k h. are.each k h ∙ sym (same_presence (row k));
  }

  -- and the numbers of its values are those of its cells
  pub values_are : {numbers : List T → List ℕ} → ((xs : List T) → numbers xs ≡ map number xs) → (row : ℕ → Option T) (side : ℕ) (values : List T) → AreValuesOf row side values → AreValuesOf (λ k. present (row k)) side (numbers values)
  values_are numbers_law row side values are = record {
    count = count_is numbers_law values ∙ are.count;
    each = λ k some.
        ap (λ xs. slice_get xs k) (numbers_law values)
        ∙ slice_get-map number values k
        ∙ ap (option_map number) (are.each k (sym (same_presence (row k)) ∙ some))
        ∙ sym (law (row k));
  }

  -- the square of the numbers of cells
  module _ {cells : List (Option T) → List (Option ℕ)} (cells_law : (xs : List (Option T)) → cells xs ≡ map present xs) where
    kept : (b : Bool) (o : Option T) → cond b (present o) None ≡ present (cond b o None)
    kept true o = refl
    kept false o = sym (law None)

    -- each cell is the number of that cell
    pub cell_is : (Q : Grid T) (r k : ℕ) → cell_at (numbered_grid cells Q) r k ≡ present (cell_at Q r k)
    cell_is Q r k =
        let at = r * Q.side + k in
        ap (λ (xs : List (Option ℕ)). cond (ltb k Q.side) (get_or xs at None) None) (cells_law Q.cells)
        ∙ ap (λ (d : Option ℕ). cond (ltb k Q.side) (get_or (map present Q.cells) at d) None) (sym (law None))
        ∙ ap (λ (o : Option ℕ). cond (ltb k Q.side) o None) (get_or-map present Q.cells at None)
        ∙ kept (ltb k Q.side) (get_or Q.cells at None)

    -- and so are all
    pub cells_are : (Q : Grid T) → (λ (r k : ℕ). present (cell_at Q r k)) ≡ cell_at (numbered_grid cells Q)
    cells_are Q = fun_ext (λ r. fun_ext (λ k. sym (cell_is Q r k)))

    -- there are as many
    pub grid_is : (Q : Grid T) → IsGrid Q → IsGrid (numbered_grid cells Q)
    grid_is Q grid = record {
      row_count = grid.row_count;
      column_count = grid.column_count;
      rows_within = grid.rows_within;
      table = record { few = grid.table.few; count = ap length (cells_law Q.cells) ∙ length-map Q.cells present ∙ grid.table.count };
    }
