-- The choice that a matching writes.
use Rattle.std.specs.Prelude.{◌≡◌, ℕ, ◌<◌, List, length, Option, slice_index}
use Rattle.asg_match.specs.Matching.{Matches}
use Rattle.asg_square.specs.Grid.{Grid, grid_choice, IsValidWithin}

-- the choice is that of the perfect assignment by which each row of the square has its column of
-- the matching
pub record IsWrittenBy {V : Type 0} (Q : Grid V) (matching choice : List (Option ℕ)) : Type 0 where
  pub columns : List ℕ
  pub over : length columns ≡ length matching
  pub matched : (r : ℕ) → r < length matching → Matches matching r (slice_index columns r)
  pub chosen : choice ≡ grid_choice Q columns
  pub valid : IsValidWithin Q choice
