-- What is written of a node: the choice of a matching, and the Hall set of rows.
use Rattle.std.specs.Prelude.{◌≡◌, ℕ, ◌<◌, List, length, Option, slice_index}
use Rattle.asg_match.specs.Matching.{Matches}
use Rattle.asg_square.specs.Grid.{Grid, IsPerm, grid_choice, IsValidWithin}

-- the choice of the perfect assignment of the square by which each row has its column of the
-- matching
pub record IsChosenBy {V : Type 0} (Q : Grid V) (matching choice : List (Option ℕ)) : Type 0 where
  pub columns : List ℕ
  pub over : length columns ≡ length matching
  pub matched : (r : ℕ) → r < length matching → Matches matching r (slice_index columns r)
  pub perm : IsPerm Q columns
  pub chosen : choice ≡ grid_choice Q columns
  pub valid : IsValidWithin Q choice
