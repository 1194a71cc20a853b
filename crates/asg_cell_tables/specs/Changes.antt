-- Rows of cells whose values change.
use Rattle.std.specs.Prelude.{◌≡◌, ◌≢◌, ◌⊎◌, ℕ, ◌+◌, ◌<◌, ◌≤◌, Bool, IsTrue, ⊤, Option, Some, None, List, length, slice_get}
use Rattle.asg_cell_tables.specs.CellTable.{CellTable, entry_at}

-- both cells are absent, or both are present and the value of the first is changed to that of the
-- second
abbrev pub Becomes : {V : Type 0} → (V → V → Type 0) → Option V → Option V → Type 0
Becomes changes None None = ⊤
Becomes changes None (Some y) = ⊥
Becomes changes (Some x) None = ⊥
Becomes changes (Some x) (Some y) = changes x y

-- each cell of the row at place r becomes another by its column, and all other cells are as before
pub record MapsTableRow {V : Type 0} (T after : CellTable V) (r : ℕ) (changes : ℕ → V → V → Type 0) : Type 0 where
  pub side : after.side ≡ T.side
  pub cells : (k : ℕ) → Becomes (changes k) (entry_at T.side T.cells r k) (entry_at after.side after.cells r k)
  pub others : (s k : ℕ) → s ≢ r → entry_at after.side after.cells s k ≡ entry_at T.side T.cells s k

-- a present cell may be changed, by its column
abbrev pub MayMapRow : {V : Type 0} → (ℕ → Option V) → (ℕ → V → Type 0) → Type 0
MayMapRow {V} row may = (k : ℕ) (x : V) → row k ≡ Some x → may k x

-- of the values from a start on, those at the places from one up to and without another where the
-- test holds may be changed
abbrev pub MayChange : {V : Type 0} → List V → ℕ → ℕ → ℕ → (ℕ → Bool) → (ℕ → V → Type 0) → Type 0
MayChange {V} values start from to has may =
    (k : ℕ) (x : V) → from ≤ k → k < to → IsTrue (has k) → slice_get values (start + k) ≡ Some x → may k x

-- of the values from a start on, those at the places from one up to and without another where the
-- test holds were changed, and all values elsewhere are as before
pub record ChangesValues {V : Type 0} (before after : List V) (start from to : ℕ) (has : ℕ → Bool) (changes : ℕ → V → V → Type 0) : Type 0 where
  pub count : length after ≡ length before
  pub changed : (k : ℕ) → from ≤ k → k < to → IsTrue (has k) → Becomes (changes k) (slice_get before (start + k)) (slice_get after (start + k))
  pub others : (i : ℕ) → (i < start + from) ⊎ (start + to ≤ i) → slice_get after i ≡ slice_get before i
