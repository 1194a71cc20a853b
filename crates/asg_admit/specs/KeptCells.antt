-- A cell that goes through phases, one after the other, and how far it allows them.
use Rattle.std.specs.Prelude.{◌≡◌, ◌⊎◌, ℕ, suc, ◌<◌, ◌≤◌, List, [], ◌∷◌, length, take, Option, slice_index}
use Rattle.std.specs.Option.{option_map}
use Rattle.asg_order.specs.Monoid.{Monoid}
use Rattle.asg_proof.specs.Phases.{PhaseOf}
use Rattle.asg_admit.specs.Admission.{AllowsAt}
use Rattle.asg_admit.specs.Settled.{settled}

-- a cell after a phase
abbrev pub cell_settled : {V : Type 0} → Monoid V → (V → V → V) → PhaseOf V → ℕ → ℕ → Option V
    → Option V
cell_settled M difference phase r k cell =
    option_map
    (settled M difference phase.steps (slice_index phase.enters r) (slice_index phase.leaves k))
    cell

-- a cell after phases, one after the other
abbrev pub cell_after_phases : {V : Type 0} → Monoid V → (V → V → V) → List (PhaseOf V) → ℕ → ℕ
    → Option V → Option V
cell_after_phases M difference [] r k cell = cell
cell_after_phases M difference (phase ∷ rest) r k cell =
    cell_after_phases M difference rest r k (cell_settled M difference phase r k cell)

-- the cell at a place, if it is present, allows the phases, one after the other
abbrev pub AllowsPhases : {V : Type 0} → Monoid V → (V → V → V) → List (PhaseOf V) → ℕ → ℕ
    → Option V → Type 0
AllowsPhases M difference [] r k cell = Unit {0}
AllowsPhases M difference (phase ∷ rest) r k cell =
    AllowsAt M difference phase.steps (slice_index phase.enters r) (slice_index phase.leaves k) cell
    × AllowsPhases M difference rest r k (cell_settled M difference phase r k cell)

-- of a list of phases the cell at a place allows so many, and where there is another it doesn't
-- allow that
pub record AllowsSoMany {V : Type 0} (M : Monoid V) (difference : V → V → V)
    (phases : List (PhaseOf V)) (r k : ℕ) (cell : Option V) (n : ℕ) : Type 0 where
  pub within : n ≤ length phases
  pub allows : AllowsPhases M difference (take n phases) r k cell
  pub no_more : n < length phases → AllowsPhases M difference (take (suc n) phases) r k cell → ⊥

-- each cell of a square allows the phases, or is that of another square
abbrev pub AllowsOrStays : {V : Type 0} → Monoid V → (V → V → V) → ℕ → List (PhaseOf V)
    → (ℕ → ℕ → Option V) → (ℕ → ℕ → Option V) → Type 0
AllowsOrStays M difference side phases before after =
    (r k : ℕ) → r < side → k < side
    → AllowsPhases M difference phases r k (after r k) ⊎ (after r k ≡ before r k)

-- some cell of a square doesn't allow the phases
abbrev pub SomeRefuses : {V : Type 0} → Monoid V → (V → V → V) → ℕ → List (PhaseOf V)
    → (ℕ → ℕ → Option V) → Type 0
SomeRefuses M difference side phases square =
    (r : ℕ) × (k : ℕ) × (r < side) × (k < side)
    × (AllowsPhases M difference phases r k (square r k) → ⊥)
