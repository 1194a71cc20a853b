use Rattle.std.specs.Prelude.{◌≡◌, ℕ, ◌≤◌, Bool, false, ◌==◌, Option, Some, IsSome, is_some, List, length, slice_get, count_by}
use Rattle.std.specs.Option.{option_map_or}
use Rattle.asg_model.specs.Problem.{Problem}
use Rattle.asg_model.specs.Live.{live_at}
use Rattle.asg_model.specs.Counts.{capacity_at, placed}

-- the row at place r chooses the column at place c
abbrev pub Chooses : List (Option ℕ) → ℕ → ℕ → Type 0
Chooses f r c = slice_get f r ≡ Some (Some c)

-- what a row chooses is the column at place c
abbrev pub takes : ℕ → Option ℕ → Bool
takes c chosen = option_map_or (λ d. d == c) chosen false

-- a valid choice is over all rows; each chosen cell is live, each column is chosen at most as often
-- as its capacity, and exactly as many rows choose as the place rule places
pub record IsValid (X : Problem) (f : List (Option ℕ)) : Type 0 where
  pub over : length f ≡ length X.rows
  pub alive : (r c : ℕ) → Chooses f r c → IsSome (live_at X r c)
  pub within : (c : ℕ) → count_by (takes c) f ≤ capacity_at X c
  pub counted : count_by is_some f ≡ placed X
