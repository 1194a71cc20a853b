-- What a session is opened with.
use Rattle.std.specs.Prelude.{◌≤◌, ◌≡◌, length}
use Rattle.asg_model.specs.declared.parts.Cost.{Cost}
use Rattle.asg_model.specs.Problem.{Problem}
use Rattle.asg_model.specs.Shapes.{square_side}
use Rattle.asg_order.specs.Monoid.{Monoid}
use Rattle.asg_repair.specs.declared.opening.Opened.{Opened}
use Rattle.asg_kept_phases.specs.PhaseChains.{phases_in, IsPhaseChain}
use Rattle.asg_repair.specs.Sessions.{AreAbsorbed, IsSized}
use Rattle.asg_kept_phases.specs.Led.{IsLed}

-- few phases lead to the square, in which the matched cells are absorbed, and as many records are
-- spare as the square has rows
pub record IsOpened {V : Type 0} (M : Monoid V) (difference : V → V → V) (enter : Cost → V)
    (X : Problem) (opened : Opened V) : Type 0 where
  pub sized : IsSized X opened.work
  pub chain : IsPhaseChain opened.phases
  pub region_side : opened.phases.region.side ≡ square_side X
  pub spare : square_side X ≤ opened.phases.region.spare
  pub led : IsLed M difference enter X (phases_in opened.phases) opened.work.reduced
  pub absorbed : AreAbsorbed M opened.work.reduced opened.work.matching
  pub few : length (phases_in opened.phases) ≤ square_side X
