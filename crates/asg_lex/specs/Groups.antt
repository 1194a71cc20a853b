-- Matchings from which the cells of a cost are taken.
use Rattle.std.specs.Prelude.{◌≡◌, ◌⊎◌, ℕ, List, Option, length}
use Rattle.asg_match.specs.Matching.{Matches}
use Rattle.asg_live_cells.specs.declared.live_cells.Entry.{Entry}
use Rattle.asg_live_cells.specs.Marks.{IsNamed}

-- the cell is no longer matched, and all others that were are
pub record Frees (before after : List (Option ℕ)) (row column : ℕ) : Type 0 where
  pub side : length after ≡ length before
  pub only : (r c : ℕ) → Matches after r c → Matches before r c
  pub gone : Matches after row column → ⊥
  pub kept : (r c : ℕ) → Matches before r c → (r ≡ row → c ≡ column → ⊥) → Matches after r c

-- the cells of the entries from one place to another are no longer matched, and all others that
-- were are
pub record FreesNamed (before after : List (Option ℕ)) (entries : List Entry) (from to : ℕ) : Type 0 where
  pub only : (r c : ℕ) → Matches after r c → Matches before r c
  pub gone : (r c : ℕ) → IsNamed entries from to r c → Matches after r c → ⊥
  pub kept : (r c : ℕ) → Matches before r c → Matches after r c ⊎ IsNamed entries from to r c
