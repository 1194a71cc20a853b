-- Parts of the answers: Murty's parts in plain instances.
use Rattle.std.specs.Prelude.{◌≡◌, ℕ, ◌<◌, ◌==◌, if◌then◌else◌, List, [], ◌∷◌, length, slice_index, Contains}

-- a part: the rows before `row` have their columns, `row` takes none of the banned ones, and later
-- rows are free
pub record Part : Type 0 where
  pub columns : List ℕ
  pub row : ℕ
  pub banned : List ℕ

-- the part of all answers
abbrev pub whole_part : Part
whole_part = record { columns = []; row = 0; banned = [] }

-- a part allows the cell of row r and column c
pub record IsAllowed (part : Part) (r c : ℕ) : Type 0 where
  pub fixed : r < part.row → c ≡ slice_index part.columns r
  pub not_banned : r ≡ part.row → ¬ Contains part.banned c

-- a list of columns is in a part: all of its cells are allowed
abbrev pub IsIn : Part → List ℕ → Type 0
IsIn part columns = (r : ℕ) → r < length columns → IsAllowed part r (slice_index columns r)

-- the child of a part by an answer and a row: the rows before it have the answer's columns, and the
-- row doesn't take the answer's column, nor what the part bans for it
abbrev pub child_part : Part → List ℕ → ℕ → Part
child_part part answer r = record {
  columns = answer;
  row = r;
  banned = slice_index answer r ∷ (if r == part.row then part.banned else []);
}
