-- What a ranker is ruled by, and how phases reduce the square of a part of the instance.
use Rattle.std.specs.Prelude.{◌≡◌, ℕ, List, Option, IfSome}
use Rattle.asg_model.specs.declared.parts.Cost.{Cost}
use Rattle.asg_model.specs.Problem.{Problem}
use Rattle.asg_model.specs.Shapes.{square_side}
use Rattle.asg_match.specs.Matching.{IsPerfect}
use Rattle.asg_order.specs.Monoid.{Monoid}
use Rattle.asg_pool.specs.Forest.{Forest, IsLive, parent_of, phases_to, trail_at}
use Rattle.asg_proof.specs.Phases.{AreAdmittedPhases, after_phases, index_of}
use Rattle.asg_square.specs.Cells.{square_cell}
use Rattle.asg_square.specs.Grid.{cell_at, HasLabelsOf}
use Rattle.asg_admit.specs.declared.reduced.Reduced.{Reduced}
use Rattle.asg_admit.specs.Reduced.{IsReduced}
use Rattle.asg_growth.specs.Growing.{IsAbsorbed}

-- a monoid with its differences, and the value as which a cost enters
pub record Rules (V : Type 0) : Type 0 where
  pub monoid : Monoid V
  pub difference : V → V → V
  pub enter : Cost → V

abbrev pub rules_of : {V : Type 0} → Monoid V → (V → V → V) → (Cost → V) → Rules V
rules_of monoid difference enter = record { monoid = monoid; difference = difference; enter = enter }

-- the square of an instance after the phases of a trail
abbrev pub reduced_cell : {V : Type 0} → Rules V → Forest V → Problem → Option ℕ → ℕ → ℕ → Option V
reduced_cell R F Y trail =
    after_phases R.monoid R.difference (phases_to F trail) (square_cell Y R.monoid.unit R.enter)

-- the trail is live, its phases are admitted in turn from the square of an instance, and the index
-- is their product
pub record Leads {V : Type 0} (R : Rules V) (F : Forest V) (Y : Problem) (trail : Option ℕ) (index : V) : Type 0 where
  pub live : IfSome trail (IsLive F)
  pub admitted : AreAdmittedPhases R.monoid R.difference (square_side Y) (phases_to F trail)
      (square_cell Y R.monoid.unit R.enter)
  pub index_is : index ≡ index_of R.monoid (phases_to F trail)

-- after the phases of the trail the matching gives each row a column by a cell that the index
-- absorbs
abbrev pub IsSolved : {V : Type 0} → Rules V → Forest V → Problem → Option ℕ → V → List (Option ℕ) → Type 0
IsSolved R F Y trail index matching =
    IsPerfect (IsAbsorbed R.monoid index (reduced_cell R F Y trail)) (square_side Y) matching

-- a trail is another one, or grew on it by one phase
pub record GrewOn {V : Type 0} (F : Forest V) (before : Option ℕ) (t : ℕ) : Type 0 where
  pub live : IsLive F t
  pub parent : parent_of F t ≡ before

-- each live trail is live still, and as it was
abbrev pub KeepsTrails : {V : Type 0} → Forest V → Forest V → Type 0
KeepsTrails before after = (t : ℕ) → IsLive before t → trail_at after t ≡ trail_at before t

-- a reduced square is that of an instance after the phases of a trail, with an index
pub record IsReducedTo {V : Type 0} (R : Rules V) (F : Forest V) (Y : Problem) (trail : Option ℕ) (index : V)
    (reduced : Reduced V) : Type 0 where
  pub labels : HasLabelsOf Y reduced.now
  pub values : IsReduced R.monoid reduced
  pub cells : (r k : ℕ) → cell_at reduced.now r k ≡ reduced_cell R F Y trail r k
  pub index_is : reduced.index ≡ index
