-- The phases of a list of trails, and how far a cell allows them.
use Rattle.std.specs.Prelude.{◌≡◌, ℕ, List, map, take, Option}
use Rattle.asg_order.specs.Monoid.{Monoid}
use Rattle.asg_pool.specs.Forest.{Forest, phases_of, last_phase}
use Rattle.asg_proof.specs.Phases.{PhaseOf}
use Rattle.asg_kept_phases.specs.declared.kept_cells.Kept.{Kept}
use Rattle.asg_admit.specs.KeptCells.{AllowsSoMany, cell_after_phases}

-- the last phase of each of the trails
abbrev pub phases_along : {V : Type 0} → Forest V → List ℕ → List (PhaseOf V)
phases_along F trails = map (λ t. last_phase (phases_of F t)) trails

-- the cell allows so many of the phases and no more, and is this after them
pub record IsKeptCell {V : Type 0} (M : Monoid V) (difference : V → V → V)
    (phases : List (PhaseOf V)) (r k : ℕ) (cell : Option V) (kept : Kept V) : Type 0 where
  pub count : AllowsSoMany M difference phases r k cell kept.count
  pub cell_is : kept.cell ≡ cell_after_phases M difference (take kept.count phases) r k cell
