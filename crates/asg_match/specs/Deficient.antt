-- Rows with fewer allowed columns than they are: why no perfect assignment exists.
use Rattle.std.specs.Prelude.{◌≢◌, ◌↔◌, ℕ, ◌<◌, List, length, All, AllPairs, Contains}

-- c is a column that one of the rows stands in the relation with
abbrev pub IsColumnOf : (ℕ → ℕ → Type 0) → List ℕ → ℕ → Type 0
IsColumnOf relation rows c = (r : ℕ) × Contains rows r × relation r c

-- the columns of the rows by the relation, each once
pub record AreColumnsOf (relation : ℕ → ℕ → Type 0) (rows columns : List ℕ) : Type 0 where
  pub apart : AllPairs ◌≢◌ columns
  pub exact : (c : ℕ) → Contains columns c ↔ IsColumnOf relation rows c

-- a list shorter than the rows has every column that is allowed to one of them
pub record HasFewColumns (allows : ℕ → ℕ → Type 0) (rows : List ℕ) : Type 0 where
  pub columns : List ℕ
  pub fewer : length columns < length rows
  pub all : (c : ℕ) → IsColumnOf allows rows c → Contains columns c

-- different rows below the side that have fewer allowed columns than they are
pub record IsDeficient (allows : ℕ → ℕ → Type 0) (side : ℕ) (rows : List ℕ) : Type 0 where
  pub below : All (λ r. r < side) rows
  pub apart : AllPairs ◌≢◌ rows
  pub few : HasFewColumns allows rows
