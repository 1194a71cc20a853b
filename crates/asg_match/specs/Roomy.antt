-- The rows of a tree and the memory for them.
use Rattle.std.specs.Prelude.{◌≡◌, ◌≢◌, ℕ, ◌<◌, ◌≤◌, List, All, AllPairs}
use Rattle.asg_match.specs.ColumnSet.{word_count}

-- different rows below the side, in memory that has room for all rows, and words for all columns
pub record IsRoomy (side capacity words : ℕ) (rows : List ℕ) : Type 0 where
  pub room : side ≤ capacity
  pub words_for_all : words ≡ word_count side
  pub below : All (λ r. r < side) rows
  pub apart : AllPairs ◌≢◌ rows
