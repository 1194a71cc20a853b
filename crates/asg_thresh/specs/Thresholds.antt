-- The least grade whose cells, with all the better ones, have a perfect assignment.
use Rattle.std.specs.Prelude.{◌≡◌, ◌≢◌, ℕ, ◌<◌, List, length, AllPairs, slice_index}
use Rattle.asg_match.specs.Deficient.{IsDeficient}
use Rattle.asg_thresh.specs.Grades.{no_grade, IsUpTo, IsUnder}

-- a perfect assignment by cells of at most the limit: a list over the rows of different columns
pub record IsAssignmentUpTo (grades : List ℕ) (side limit : ℕ) (perm : List ℕ) : Type 0 where
  pub over : length perm ≡ side
  pub apart : AllPairs ◌≢◌ perm
  pub cells : (r : ℕ) → r < side → IsUpTo grades side limit r (slice_index perm r)

-- the list assigns each row within the upper limit, where that is a grade of cells, and the rows
-- are deficient under the lower one
pub record IsBracket (grades : List ℕ) (side low high : ℕ) (perm rows : List ℕ) : Type 0 where
  pub assignment : high < no_grade → IsAssignmentUpTo grades side high perm
  pub deficient : IsDeficient (IsUnder grades side low) side rows

-- a bracket whose limits are one: the least limit within which an assignment exists, or that of no
-- cell, where none exists
abbrev pub IsLeast : List ℕ → ℕ → ℕ → List ℕ → List ℕ → Type 0
IsLeast grades side limit perm rows = IsBracket grades side limit limit perm rows
