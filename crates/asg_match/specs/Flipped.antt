-- A matching after the path from the root to a free column is flipped.
use Rattle.std.specs.Prelude.{◌≡◌, ◌⊎◌, ℕ, List, length, Option, slice_index}
use Rattle.asg_match.specs.Matching.{Matches, IsMatched, IsMatching}
use Rattle.asg_match.specs.Alternating.{HasParent}

-- the row may take the column on the path: by the way that the column was reached, or as its end
abbrev pub IsLink : List ℕ → (ℕ → Option ℕ) → ℕ → ℕ → ℕ → ℕ → Type 0
IsLink rows parents end_place end_column r c =
    ((r ≡ slice_index rows end_place) × (c ≡ end_column)) ⊎ ((p : ℕ) × (r ≡ slice_index rows p) × HasParent parents c p)

-- the root and every row that had a column have one, and each new cell is a link of the path
pub record Flips (rows : List ℕ) (parents : ℕ → Option ℕ) (end_place end_column : ℕ) (before after : List (Option ℕ)) : Type 0 where
  pub side : length after ≡ length before
  pub columns : IsMatching after
  pub kept : (r : ℕ) → IsMatched before r → IsMatched after r
  pub added : IsMatched after (slice_index rows 0)
  pub only : (r : ℕ) → IsMatched after r → IsMatched before r ⊎ (r ≡ slice_index rows 0)
  pub cells : (r c : ℕ) → Matches after r c → Matches before r c ⊎ IsLink rows parents end_place end_column r c
