-- What stands against an assignment with levels: one of them is none, or they don't hold in all for
-- a choice.
use Rattle.std.specs.Prelude.{◌≡◌, ◌≢◌, ℕ, suc, ◌<◌, ℤ, pos, Bool, Option, Some, None, List, length, take, All, AllPairs, slice_get, sum_by}
use Rattle.asg_model.specs.declared.bands.Band.TheVariants.{Whole}
use Rattle.asg_model.specs.Counts.{placed}
use Rattle.asg_model.specs.Problem.{Problem}
use Rattle.asg_model.specs.Shapes.{square_side}
use Rattle.asg_square.specs.Cells.{choice_of}
use Rattle.asg_square.specs.Presence.{has_cell}
use Rattle.asg_proof.specs.declared.levels.Level.{Level}
use Rattle.asg_proof.specs.Levels.{IsLevel, IsLeftAssignment, last_cost, left_so_far}
use Rattle.asg_verdicts.specs.declared.verdicts.Reason.{Reason}
use Rattle.asg_verdicts.specs.declared.verdicts.Reason.TheVariants.{BadLevel}
use Rattle.asg_verdicts.specs.Spots.{Spot, At, Overall}

-- the cost of the last of the first so many levels, and what is left after them
abbrev pub cost_before : List Level → ℕ → Option ℤ
cost_before levels n = last_cost None (take n levels)

abbrev pub left_before : Problem → List Level → ℕ → ℕ → ℕ → Bool
left_before X levels n = left_so_far X None (has_cell X Whole) (take n levels)

-- a list over the rows of a square of different columns of it
pub record AreColumns (side : ℕ) (perm : List ℕ) : Type 0 where
  pub over : length perm ≡ side
  pub apart : AllPairs ◌≢◌ perm
  pub within : All (λ c. c < side) perm

-- the same of the square of an instance
abbrev pub IsColumnList : Problem → List ℕ → Type 0
IsColumnList X perm = AreColumns (square_side X) perm

-- the level at this place of the list is there, and it is none after those before it
pub record IsNoLevelAt (X : Problem) (perm : List ℕ) (levels : List Level) (n : ℕ) : Type 0 where
  pub level : Level
  pub there : slice_get levels n ≡ Some level
  pub fails : IsLevel X perm (cost_before levels n) (left_before X levels n) level → ⊥

-- the list is an assignment by cells that are left in the end, the choice is its choice, and the
-- levels count as many cells as the place rule places rows
pub record HoldInAll (X : Problem) (choice : List (Option ℕ)) (perm : List ℕ) (levels : List Level)
    : Type 0 where
  pub assignment : IsLeftAssignment X perm levels
  pub chosen : choice_of X perm ≡ choice
  pub total : sum_by (λ level. level.count) levels ≡ placed X

-- where an assignment with levels is bad for a choice: at each level that is none, numbered from 1,
-- where the assignment is a list of different columns; and for the whole, where they don't hold in
-- all
abbrev pub AreBadLevelsAt : Problem → List (Option ℕ) → List ℕ → List Level → Spot → Type 0
AreBadLevelsAt X choice perm levels (At place) =
    IsColumnList X perm × ((n : ℕ) × (place ≡ pos (suc n)) × IsNoLevelAt X perm levels n)
AreBadLevelsAt X choice perm levels Overall = HoldInAll X choice perm levels → ⊥

-- what stands against an assignment with levels for a choice
abbrev pub LevelsStand : Problem → List (Option ℕ) → List ℕ → List Level → Reason → Spot → Type 0
LevelsStand X choice perm levels BadLevel = AreBadLevelsAt X choice perm levels
LevelsStand X choice perm levels reason = λ spot. ⊥
