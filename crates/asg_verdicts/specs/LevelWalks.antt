-- A walk over levels: what is left of a square's cells, as rows of bits, and the cost of the level
-- before.
use Rattle.std.specs.Prelude.{◌≡◌, ◌⊎◌, ℕ, ◌<◌, ◌≤◌, ◌^◌, ℤ, pos, ◌-ℤ◌, ◌&&◌, not, Bool, false, true, if◌then◌else◌, Option, Some, None, List, length}
use Rattle.std.specs.Ordering.{int_eq}
use Rattle.std.specs.Option.{option_map, option_map_or}
use Rattle.asg_model.specs.Problem.{Problem}
use Rattle.asg_model.specs.Shapes.{square_side}
use Rattle.asg_model.specs.Values.{costs_at, costs_of}
use Rattle.asg_order.specs.declared.words.Word.{Word}
use Rattle.asg_monoids.specs.BoundedSums.{bounded_difference, plain_word}
use Rattle.asg_bit_rows.specs.BitTable.{BitTable, has_bit}
use Rattle.asg_square.specs.Grid.{Grid, IsSquareOf, cell_at}
use Rattle.asg_proof.specs.declared.levels.Level.{Level}
use Rattle.asg_proof.specs.Levels.{is_after, level_sums}
use Rattle.asg_proof.specs.Phases.{PhaseOf}
use Rattle.asg_admit.specs.declared.reduced.Reduced.{Reduced}
use Rattle.asg_verdicts.specs.declared.level_walks.Walk.{Walk}
use Rattle.asg_verdicts.specs.LevelReasons.{IsNoLevelAt, cost_before, left_before}
use Rattle.asg_replays.specs.Replays.{AreReplayed, IsFirstBad}

-- what a free cell holds in a square of costs: no cost is as little
abbrev pub free_cost : ℤ
free_cost = pos 0 -ℤ pos (2 ^ 63)

-- the square of the costs of an instance
abbrev pub IsCostSquare : Problem → Grid ℤ → Type 0
IsCostSquare X Q = IsSquareOf X free_cost (λ cost. cost.a) Q

-- a cell of such a square has a cost, and it passes
abbrev pub passes_cost : (ℤ → Bool) → Option ℤ → Bool
passes_cost passes cell = option_map_or (λ cost. not (int_eq cost free_cost) && passes cost) cell false

-- what a cell counts for a level: 1 where it has the level's cost, else 0
abbrev pub counts_for : ℤ → ℤ → ℕ
counts_for cost found = if not (int_eq found free_cost) && int_eq found cost then 1 else 0

-- what a cell of the square of a level holds; none where it isn't left
abbrev pub level_value : Bool → ℤ → Option ℤ → Option ℕ
level_value is_left cost cell = if is_left then option_map (counts_for cost) cell else None

-- the bits of a square's cells say which are left
pub record IsLeft (side : ℕ) (left : ℕ → ℕ → Bool) (bits : BitTable) : Type 0 where
  pub rows : bits.rows ≡ side
  pub columns : bits.columns ≡ side
  pub each : (r c : ℕ) → r < side → c < side → has_bit bits r c ≡ left r c

-- the bits of a walk are of the size of a square
pub record IsSized (side : ℕ) (walk : Walk) : Type 0 where
  pub rows : walk.left.rows ≡ side
  pub columns : walk.left.columns ≡ side

-- a walk stands behind a level of this cost, if there was one, with this left
pub record IsBehind (X : Problem) (before : Option ℤ) (left : ℕ → ℕ → Bool) (walk : Walk) : Type 0 where
  pub left_is : IsLeft (square_side X) left walk.left
  pub before_is : walk.before ≡ before

-- the first so many levels are levels, and the walk stands behind them
pub record HasPassed (X : Problem) (perm : List ℕ) (levels : List Level) (n : ℕ) (walk : Walk) : Type 0 where
  pub none : (m : ℕ) → m < n → IsNoLevelAt X perm levels m → ⊥
  pub behind : IsBehind X (cost_before levels n) (left_before X levels n) walk

-- a walk over all levels: it stops at the first that is none, or stands behind the last
abbrev pub StopsAt : Problem → List ℕ → List Level → Walk → Option ℕ → Type 0
StopsAt X perm levels walk None = HasPassed X perm levels (length levels) walk
StopsAt X perm levels walk (Some n) =
    IsNoLevelAt X perm levels n × ((m : ℕ) → m < n → IsNoLevelAt X perm levels m → ⊥)

-- the cost of a level comes after that of the level before, if there is one, and the level counts
-- as many cells as the choice has at its cost, at least one
abbrev pub IsDue : Problem → List (Option ℕ) → Option ℤ → Level → Type 0
IsDue X chosen before level =
    (is_after before level.cost ≡ true)
    × ((1 ≤ level.count) × (length (costs_at level.cost (costs_of X chosen)) ≡ level.count))

-- the words are those of phases that are admitted in turn from a square, lead to another and have
-- this index
abbrev pub LeadsTo : List (PhaseOf Word) → Reduced ℕ → ℕ → Reduced ℕ → Type 0
LeadsTo words before index after =
    AreReplayed level_sums bounded_difference plain_word words before after × (after.index ≡ index)

-- one of them isn't admitted after those before it, or they have another index
abbrev pub IsRefused : List (PhaseOf Word) → Reduced ℕ → ℕ → Type 0
IsRefused words before index =
    ((place : ℕ)
    × IsFirstBad level_sums bounded_difference plain_word before.now.side (cell_at before.now) words place)
    ⊎ ((after : Reduced ℕ)
    × (AreReplayed level_sums bounded_difference plain_word words before after × (after.index ≡ index → ⊥)))
