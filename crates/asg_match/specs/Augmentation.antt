-- What one step of growth leaves: a longer matching, or a tree of rows that can't grow.
use Rattle.std.specs.Prelude.{◌≡◌, ◌≢◌, ◌↔◌, ◌⊎◌, ℕ, ◌+◌, List, length, Option, Contains}
use Rattle.asg_match.specs.Matching.{IsMatched, Matches, AllAllowed}
use Rattle.asg_match.specs.Deficient.{IsColumnOf, AreColumnsOf}

-- the root and every row that had a column have one, by allowed cells, and no other row has one
pub record IsLonger (allows : ℕ → ℕ → Type 0) (before after : List (Option ℕ)) (root : ℕ) : Type 0 where
  pub kept : (r : ℕ) → IsMatched before r → IsMatched after r
  pub added : IsMatched after root
  pub only : (r : ℕ) → IsMatched after r → IsMatched before r ⊎ (r ≡ root)
  pub cells : AllAllowed allows after

-- the root with other rows that have columns, whose allowed columns are the columns of those others
pub record IsStuck (allows : ℕ → ℕ → Type 0) (matching : List (Option ℕ)) (root : ℕ) (rows : List ℕ) : Type 0 where
  pub has_root : Contains rows root
  pub others : (r : ℕ) → Contains rows r → r ≢ root → IsMatched matching r
  pub exact : (c : ℕ) → IsColumnOf allows rows c ↔ IsColumnOf (Matches matching) rows c
  pub count : (columns : List ℕ) × AreColumnsOf allows rows columns × (length rows ≡ length columns + 1)
