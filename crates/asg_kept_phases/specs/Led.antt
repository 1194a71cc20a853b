-- Squares that phases lead to from that of an instance.
use Rattle.std.specs.Prelude.{◌≡◌, ℕ, ◌≤◌, List}
use Rattle.asg_admit.specs.Reduced.{IsReduced}
use Rattle.asg_admit.specs.declared.reduced.Reduced.{Reduced}
use Rattle.asg_model.specs.declared.objectives.Objective.{Objective}
use Rattle.asg_model.specs.declared.parts.Cost.{Cost}
use Rattle.asg_model.specs.Instances.{IsInstance}
use Rattle.asg_model.specs.Limits.{most_cost, most_side}
use Rattle.asg_model.specs.Problem.{Problem}
use Rattle.asg_model.specs.Refused.{PassesNegative}
use Rattle.asg_model.specs.Shapes.{square_side}
use Rattle.asg_order.specs.Monoid.{Monoid}
use Rattle.asg_proof.specs.PhaseProofs.{EntersValues}
use Rattle.asg_proof.specs.Phases.{PhaseOf, AreAdmittedPhases, after_phases, index_of}
use Rattle.asg_square.specs.Cells.{square_cell}
use Rattle.asg_square.specs.Grid.{cell_at, HasLabelsOf}

-- an instance whose live costs enter as values, of a side that is solved
pub record MaySolve {V : Type 0} (M : Monoid V) (enter : Cost → V) (objective : Objective) (reach : ℕ)
    (X : Problem) : Type 0 where
  pub instance : IsInstance X
  pub small : square_side X ≤ most_side
  pub passes : PassesNegative objective X
  pub far : most_cost ≤ reach
  pub live : EntersValues M enter X

-- phases lead from the square of an instance to a reduced square: they are admitted in turn, the
-- cells are those after them, and the index is their product
pub record IsLed {V : Type 0} (M : Monoid V) (difference : V → V → V) (enter : Cost → V) (X : Problem)
    (phases : List (PhaseOf V)) (reduced : Reduced V) : Type 0 where
  pub labels : HasLabelsOf X reduced.now
  pub admitted :
      AreAdmittedPhases M difference (square_side X) phases (square_cell X M.unit enter)
  pub cells : (r k : ℕ) → cell_at reduced.now r k
      ≡ after_phases M difference phases (square_cell X M.unit enter) r k
  pub index : reduced.index ≡ index_of M phases
  pub is_reduced : IsReduced M reduced
