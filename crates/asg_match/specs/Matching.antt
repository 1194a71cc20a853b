-- Matchings of rows with columns: a list over rows of the column that each has, if any.
use Rattle.std.specs.Prelude.{◌≡◌, ℕ, ◌<◌, List, length, Option, Some, None, IsSome, slice_index_or}

-- the column of a row
abbrev pub column_at : List (Option ℕ) → ℕ → Option ℕ
column_at matching r = slice_index_or matching r None

-- row r has column c
abbrev pub Matches : List (Option ℕ) → ℕ → ℕ → Type 0
Matches matching r c = column_at matching r ≡ Some c

-- row r has a column
abbrev pub IsMatched : List (Option ℕ) → ℕ → Type 0
IsMatched matching r = IsSome (column_at matching r)

-- no row has column c
abbrev pub IsFree : List (Option ℕ) → ℕ → Type 0
IsFree matching c = (r : ℕ) → Matches matching r c → ⊥

-- each column that a row has is below the side, and no two rows have the same one
pub record IsMatching (matching : List (Option ℕ)) : Type 0 where
  pub below : (r c : ℕ) → Matches matching r c → c < length matching
  pub apart : (r s c : ℕ) → Matches matching r c → Matches matching s c → r ≡ s

-- every matched cell is allowed
abbrev pub AllAllowed : (ℕ → ℕ → Type 0) → List (Option ℕ) → Type 0
AllAllowed allows matching = (r c : ℕ) → Matches matching r c → allows r c

-- a perfect assignment: each row below the side has a column of its own, by an allowed cell
pub record IsPerfect (allows : ℕ → ℕ → Type 0) (side : ℕ) (matching : List (Option ℕ)) : Type 0 where
  pub rows : length matching ≡ side
  pub columns : IsMatching matching
  pub all : (r : ℕ) → r < side → IsMatched matching r
  pub cells : AllAllowed allows matching
