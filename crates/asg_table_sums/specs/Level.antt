-- Choices that are least or greatest under rises of columns.
use Rattle.std.specs.Prelude.{◌≡◌, ◌⊎◌, ℕ, ◌+◌, ◌<◌, ◌≤◌, Option, Some, None, List, length, count_by, slice_get, slice_index_or}
use Rattle.asg_model.specs.declared.objectives.Objective.{Objective}
use Rattle.asg_model.specs.declared.parts.Cost.{Cost}
use Rattle.asg_model.specs.Counts.{capacity_at}
use Rattle.asg_model.specs.Live.{live_at}
use Rattle.asg_model.specs.Problem.{Problem}
use Rattle.asg_model.specs.ValidChoice.{Chooses, IsValid, takes}
use Rattle.asg_monoids.specs.Entered.{sum_entered}

-- by how much a column rises, 0 past the last
abbrev pub rise_at : List ℕ → ℕ → ℕ
rise_at rises c = slice_index_or rises c 0

-- once the columns have risen, no live cell of a row is less than the one in a column
abbrev pub IsLeastCell : Objective → Problem → List ℕ → ℕ → ℕ → Type 0
IsLeastCell objective X rises r d = (c : ℕ) (x y : Cost)
    → live_at X r d ≡ Some x → live_at X r c ≡ Some y
    → sum_entered objective x + rise_at rises d ≤ sum_entered objective y + rise_at rises c

-- once the columns have risen, the cell of a row in a column is at most a level
abbrev pub IsUnder : Objective → Problem → List ℕ → ℕ → ℕ → ℕ → Type 0
IsUnder objective X rises level r d = (x : Cost)
    → live_at X r d ≡ Some x → sum_entered objective x + rise_at rises d ≤ level

-- once the columns have risen, each live cell of a row is at least a level
abbrev pub IsOver : Objective → Problem → List ℕ → ℕ → ℕ → Type 0
IsOver objective X rises level r = (c : ℕ) (y : Cost)
    → live_at X r c ≡ Some y → level ≤ sum_entered objective y + rise_at rises c

-- once the columns have risen, the cell that a row chooses is the least of its live cells and at
-- most a level; where it chooses none, all of them are at least the level
pub record IsRowLevel (objective : Objective) (X : Problem) (f : List (Option ℕ)) (rises : List ℕ)
    (level r : ℕ) : Type 0 where
  pub least : (d : ℕ) → Chooses f r d → IsLeastCell objective X rises r d
  pub under : (d : ℕ) → Chooses f r d → IsUnder objective X rises level r d
  pub over : slice_get f r ≡ Some None → IsOver objective X rises level r

-- a column doesn't rise, or is chosen as often as its capacity allows
pub record IsFull (X : Problem) (f : List (Option ℕ)) (rises : List ℕ) (c : ℕ) : Type 0 where
  pub still_or_full : (rise_at rises c ≡ 0) ⊎ (capacity_at X c ≤ count_by (takes c) f)

-- a valid choice that places each row at its least cell once the columns have risen, where none of
-- these is above a level and no cell of a row that stays out is below it, and that fills each
-- column that rises
pub record IsLevel (objective : Objective) (X : Problem) (f : List (Option ℕ)) (rises : List ℕ)
    (level : ℕ) : Type 0 where
  pub valid : IsValid X f
  pub rows : (r : ℕ) → r < length f → IsRowLevel objective X f rises level r
  pub full : (c : ℕ) → c < length rises → IsFull X f rises c
