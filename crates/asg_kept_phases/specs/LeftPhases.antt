-- How many phases are left over for cells that were changed.
use Rattle.std.specs.Prelude.{◌≡◌, ◌⊎◌, ℕ, suc, ◌<◌, ◌≤◌, List, take, Option}
use Rattle.asg_order.specs.Monoid.{Monoid}
use Rattle.asg_proof.specs.Phases.{PhaseOf}
use Rattle.asg_admit.specs.KeptCells.{AllowsPhases, SomeRefuses}

-- a cell of a square allows the phases, or is that of another square
abbrev pub AllowsOrStaysAt : {V : Type 0} → Monoid V → (V → V → V) → List (PhaseOf V)
    → (ℕ → ℕ → Option V) → (ℕ → ℕ → Option V) → ℕ → ℕ → Type 0
AllowsOrStaysAt M difference phases before after r k =
    AllowsPhases M difference phases r k (after r k) ⊎ (after r k ≡ before r k)

-- so many of the phases are left over of so many as were there, for a cell: it allows them or stays, and
-- where they are fewer it doesn't allow one more
pub record IsLeftAt {V : Type 0} (M : Monoid V) (difference : V → V → V) (phases : List (PhaseOf V))
    (before after : ℕ → ℕ → Option V) (r k count left : ℕ) : Type 0 where
  pub fewer : left ≤ count
  pub allows : AllowsOrStaysAt M difference (take left phases) before after r k
  pub no_more : left < count → AllowsPhases M difference (take (suc left) phases) r k (after r k) → ⊥

-- the same for cells from one row on and in the first so many columns
pub record AreLeft {V : Type 0} (M : Monoid V) (difference : V → V → V) (phases : List (PhaseOf V))
    (side : ℕ) (before after : ℕ → ℕ → Option V) (is_seen : ℕ → ℕ → Type 0) (count left : ℕ)
    : Type 0 where
  pub fewer : left ≤ count
  pub allows : (r k : ℕ) → r < side → k < side → is_seen r k
      → AllowsOrStaysAt M difference (take left phases) before after r k
  pub no_more : left < count → SomeRefuses M difference side (take (suc left) phases) after
