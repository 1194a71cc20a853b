-- A cell after a phase, by the step at which its row enters and the step at which its column
-- leaves.
use Rattle.std.specs.Prelude.{◌≡◌, ℕ, zero, suc, ◌≤◌, ◌<◌, leb, ltb, if◌then◌else◌, List, length, Option, slice_index, slice_index_or}
use Rattle.std.specs.Option.{option_map}
use Rattle.asg_order.specs.Monoid.{Monoid, IsLe, IsLess}
use Rattle.asg_proof.specs.Phases.{PhaseOf}
use Rattle.asg_proof.specs.Steps.{moved}

-- the step at a place of a list
abbrev pub step_of : {V : Type 0} → Monoid V → List V → ℕ → V
step_of M steps t = slice_index_or steps t M.unit

-- the product of the steps from one place up to and without another, the unit where there are none
abbrev pub between : {V : Type 0} → Monoid V → (ℕ → V) → ℕ → ℕ → V
between M step from zero = M.unit
between M step from (suc to) =
    if leb from to then M.product (between M step from to) (step to) else M.unit

-- a present cell after the first so many steps
abbrev pub cell_after : {V : Type 0} → Monoid V → (V → V → V) → (ℕ → V) → ℕ → ℕ → V → ℕ → V
cell_after M difference step enter leave x zero = x
cell_after M difference step enter leave x (suc t) =
    moved M difference (leb enter t) (ltb t leave) (step t)
    (cell_after M difference step enter leave x t)

-- a present cell after a phase
abbrev pub settled : {V : Type 0} → Monoid V → (V → V → V) → List V → ℕ → ℕ → V → V
settled M difference steps enter leave x =
    cell_after M difference (step_of M steps) enter leave x (length steps)

-- a square after a phase, cell by cell
abbrev pub settled_at : {V : Type 0} → Monoid V → (V → V → V) → PhaseOf V
    → (ℕ → ℕ → Option V) → ℕ → ℕ → Option V
settled_at M difference phase square r k =
    option_map
    (settled M difference phase.steps (slice_index phase.enters r) (slice_index phase.leaves k))
    (square r k)

-- the cell is at least each step at which its row has entered and its column stays, as it is by
-- then
abbrev pub AllowsSteps : {V : Type 0} → Monoid V → (V → V → V) → List V → ℕ → ℕ → V → Type 0
AllowsSteps M difference steps enter leave x =
    (t : ℕ) → t < length steps → enter ≤ t → t < leave
    → IsLe M (step_of M steps t) (cell_after M difference (step_of M steps) enter leave x t)

-- the cell does so wherever its column leaves
abbrev pub AllowsAll : {V : Type 0} → Monoid V → (V → V → V) → List V → ℕ → V → Type 0
AllowsAll M difference steps enter x = (leave : ℕ) → AllowsSteps M difference steps enter leave x

-- some step at which the row of the cell has entered and its column stays is greater than the cell
-- as it is by then
abbrev pub RefusesStep : {V : Type 0} → Monoid V → (V → V → V) → List V → ℕ → ℕ → V → Type 0
RefusesStep M difference steps enter leave x =
    (t : ℕ) × (t < length steps) × (enter ≤ t) × (t < leave)
    × IsLess M (cell_after M difference (step_of M steps) enter leave x t) (step_of M steps t)

-- the product of the steps between two places, in either order
pub record IsAcross {V : Type 0} (M : Monoid V) (steps : List V) (a b : ℕ) (product : V) : Type 0 where
  pub ahead : a ≤ b → product ≡ between M (step_of M steps) a b
  pub behind : b ≤ a → product ≡ between M (step_of M steps) b a

-- at each place the product of the steps between another place and it
abbrev pub AreProducts : {V : Type 0} → Monoid V → List V → ℕ → List V → Type 0
AreProducts M steps from room =
    (j : ℕ) → j ≤ length steps → IsAcross M steps from j (slice_index_or room j M.unit)
