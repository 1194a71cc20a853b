-- Rows of values, one behind another in one list. No public clause cites this module.
use Rattle.std.specs.Prelude.{◌≡◌, ℕ, suc, ◌*◌, ◌≤◌, List, [], ◌∷◌, ◌++◌, length, take, drop, All, slice_index_or}

-- the rows, each at most so wide, and for how many there is memory
pub record Rows (T : Type 0) : Type 0 where
  pub width : ℕ
  pub room : ℕ
  pub rows : List (List T)

-- the rows of these lengths in a list that has so many places for each
abbrev pub rows_of : {T : Type 0} → ℕ → List ℕ → List T → List (List T)
rows_of width [] values = []
rows_of width (n ∷ lens) values = take n values ∷ rows_of width lens (drop width values)

-- the list has its places for each row, none of which is wider, within the memory taken for so many rows
pub record IsStored {T : Type 0} (width room : ℕ) (lens : List ℕ) (values : List T) (lens_room values_room : ℕ) : Type 0 where
  pub count : length values ≡ length lens * width
  pub within : All (λ n. n ≤ width) lens
  pub used : length lens ≤ room
  pub lens_fit : room ≤ lens_room
  pub values_fit : room * width ≤ values_room

-- the row at a place, none past the last
abbrev pub row_at : {T : Type 0} → Rows T → ℕ → List T
row_at S k = slice_index_or S.rows k []

-- the rows with the one at place k, or next after the last, replaced
abbrev pub with_row : {X : Type 0} → List X → ℕ → X → List X
with_row rows k row = take k rows ++ row ∷ drop (suc k) rows

-- the same rows, with memory for no fewer
pub record IsWider {T : Type 0} (before after : Rows T) : Type 0 where
  pub width : after.width ≡ before.width
  pub room : before.room ≤ after.room
  pub rows : after.rows ≡ before.rows
