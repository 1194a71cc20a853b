-- What is known of the solved square of an instance.
use Rattle.std.proofs.Common.{◌≡◌, ℕ, ◌-◌, ◌<◌, ◌≤◌, sym, ◌∙◌, ap, subst}
use Rattle.std.proofs.lemmas.Option.{IfSome_then}
use Rattle.asg_model.specs.declared.objectives.Objective.{Objective}
use Rattle.asg_model.specs.declared.parts.Cost.{Cost}
use Rattle.asg_model.specs.Instances.{IsInstance}
use Rattle.asg_model.specs.Limits.{most_cost}
use Rattle.asg_model.specs.Live.{live_at}
use Rattle.asg_model.specs.Problem.{Problem}
use Rattle.asg_model.specs.Refused.{PassesNegative}
use Rattle.asg_model.specs.Shapes.{square_side}
use Rattle.asg_order.specs.Entering.{MayEnter}
use Rattle.asg_order.specs.Monoid.{Monoid, IsValue, IsOrderedMonoid}
use Rattle.asg_proof.specs.PhaseProofs.{EntersValues}
use Rattle.asg_proof.specs.Steps.{HasValues}
use Rattle.asg_proof.specs.laws.LiveCosts.{costs_may_enter}
use Rattle.asg_proof.specs.laws.Squares.{HasValues-square_cell}
use Rattle.asg_square.specs.Grid.{Grid, cell_at, IsSquareOf}
use Rattle.asg_roots.specs.declared.roots.Root.{Root}
use Rattle.asg_roots.specs.Roots.{IsSolvedRoot, IsInstanceRoot}

-- the live costs enter as values, where each cost that may enter does so
pub enters_values : {V : Type 0} (M : Monoid V) (enter : Cost → V) (objective : Objective) (reach : ℕ) (X : Problem) → most_cost ≤ reach → IsInstance X → PassesNegative objective X → ((cost : Cost) → MayEnter objective reach cost → IsValue M (enter cost)) → EntersValues M enter X
enters_values M enter objective reach X far instance passes values r c =
    IfSome_then (live_at X r c) (costs_may_enter objective reach X far instance passes r c) values

-- the square of an instance, whose live costs enter as values, is of values
pub square_values : {V : Type 0} (M : Monoid V) → IsOrderedMonoid M → (X : Problem) (enter : Cost → V) (Q : Grid V) → IsSquareOf X M.unit enter Q → EntersValues M enter X → HasValues M Q.side (cell_at Q)
square_values M laws X enter Q square live r k x hr hk e =
    HasValues-square_cell M laws enter X live r k x
    (subst (λ n. r < n) square.labels.side hr) (subst (λ n. k < n) square.labels.side hk) (sym (square.cells r k) ∙ e)

-- the side of a root that was solved
pub root_side : {V : Type 0} (M : Monoid V) (difference : V → V → V) (Q : Grid V) (records : ℕ) (root : Root V) → IsSolvedRoot M difference Q records root → root.reduced.now.side ≡ Q.side
root_side {V} M difference Q records root is = is.lead.labels.side ∙ ap (λ (g : Grid V). g.side) is.start

-- the side of the root of an instance
pub instance_side : {V : Type 0} {M : Monoid V} {difference : V → V → V} {enter : Cost → V} {X : Problem} {records : ℕ} {root : Root V} → IsInstanceRoot M difference enter X records root → root.reduced.now.side ≡ square_side X
instance_side {V} {M} {difference} {enter} {X} {records} {root} is =
    root_side M difference is.square records root is.solved ∙ is.of_instance.labels.side
