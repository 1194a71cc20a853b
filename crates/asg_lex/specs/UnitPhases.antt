-- Phases of one step by 1, over the rows of a stuck tree.
use Rattle.std.specs.Prelude.{◌≡◌, ◌↔◌, ℕ, ◌<◌, List, length, Option, slice_index, Contains}
use Rattle.asg_match.specs.Matching.{Matches}
use Rattle.asg_match.specs.Deficient.{IsColumnOf}

-- the rows that enter at the step are those of the list, the columns that left before it those that
-- these rows are matched with
pub record SplitsTree (side : ℕ) (matching : List (Option ℕ)) (rows enters leaves : List ℕ) : Type 0 where
  pub row_count : length enters ≡ side
  pub column_count : length leaves ≡ side
  pub rows_are : (r : ℕ) → r < side → (slice_index enters r ≡ 0) ↔ Contains rows r
  pub columns_are : (c : ℕ) → c < side → (slice_index leaves c ≡ 0) ↔ IsColumnOf (Matches matching) rows c
