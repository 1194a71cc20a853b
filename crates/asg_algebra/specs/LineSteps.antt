-- Phases of one step that lowers one line of a square.
use Rattle.std.specs.Prelude.{◌≡◌, ℕ, ◌+◌, ◌<◌, ◌∷◌, [], List, length, Option, Some, vec_len}
use Rattle.asg_order.specs.Monoid.{Monoid, IsLe}
use Rattle.asg_proof.specs.Phases.{PhaseOf, phase_of, entered_at, staying_at}
use Rattle.asg_proof.specs.Steps.{count_below}
use Rattle.asg_square.specs.Grid.{Grid, cell_at}
use Rattle.asg_growth.specs.declared.growth.Growth.{Growth}
use Rattle.asg_growth.specs.Growths.{IsRoomy}

-- a step is at most a cell, if it is present
abbrev pub IsAtMostCell : {V : Type 0} → Monoid V → V → Option V → Type 0
IsAtMostCell {V} M c cell = (x : V) → cell ≡ Some x → IsLe M c x

-- and each present cell of a row
abbrev pub LowersRow : {V : Type 0} → Monoid V → V → Grid V → ℕ → Type 0
LowersRow M c Q row = (k : ℕ) → k < Q.side → IsAtMostCell M c (cell_at Q row k)

-- and each present cell of a column
abbrev pub LowersColumn : {V : Type 0} → Monoid V → V → Grid V → ℕ → Type 0
LowersColumn M c Q column = (r : ℕ) → r < Q.side → IsAtMostCell M c (cell_at Q r column)

-- the rows that enter before the first step and the columns that stay at it are one more than the
-- rows
abbrev pub AreCounted : List ℕ → List ℕ → Type 0
AreCounted enters leaves =
    count_below (entered_at enters 0) (length enters) + count_below (staying_at leaves 0) (length leaves)
    ≡ length enters + 1

-- the phase that is written
abbrev pub steps_in : {V : Type 0} → Growth V → PhaseOf V
steps_in growth = phase_of growth.steps.items growth.enters.items growth.leaves.items

-- a phase of one step was written, with these marks
pub record WritesLine {V : Type 0} (before after : Growth V) (step : V) (enters leaves : List ℕ) : Type 0 where
  pub steps : after.steps.items ≡ step ∷ []
  pub enters_are : after.enters.items ≡ enters
  pub leaves_are : after.leaves.items ≡ leaves
  pub tree : after.tree ≡ before.tree
  pub roomy : IsRoomy (vec_len before.enters) after
