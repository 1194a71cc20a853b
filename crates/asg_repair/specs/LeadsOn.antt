-- Squares that phases lead to, and more phases that lead on.
use Rattle.std.specs.Prelude.{◌≡◌, ◌+◌, ◌≤◌, ◌++◌, List, length}
use Rattle.asg_algebra.specs.Solved.{unmatched}
use Rattle.asg_model.specs.declared.parts.Cost.{Cost}
use Rattle.asg_model.specs.Problem.{Problem}
use Rattle.asg_model.specs.Shapes.{square_side}
use Rattle.asg_order.specs.Monoid.{Monoid}
use Rattle.asg_proof.specs.Phases.{PhaseOf}
use Rattle.asg_kept_phases.specs.declared.phase_chains.PhaseChain.{PhaseChain}
use Rattle.asg_kept_phases.specs.Led.{IsLed}
use Rattle.asg_kept_phases.specs.PhaseChains.{phases_in, IsPhaseChain}
use Rattle.asg_repair.specs.Sessions.{AreAbsorbed, IsSized}
use Rattle.asg_repair.specs.declared.works.Work.{Work}

-- phases lead to the square, in which the matched cells are absorbed, and as many records are spare as
-- the square has rows
pub record IsReady {V : Type 0} (M : Monoid V) (difference : V → V → V) (enter : Cost → V)
    (X : Problem) (work : Work V) (phases : PhaseChain V) : Type 0 where
  pub sized : IsSized X work
  pub chain : IsPhaseChain phases
  pub region_side : phases.region.side ≡ square_side X
  pub spare : square_side X ≤ phases.region.spare
  pub led : IsLed M difference enter X (phases_in phases) work.reduced
  pub absorbed : AreAbsorbed M work.reduced work.matching

-- phases were added that lead on, so that as many fewer rows at least have no column
pub record LeadsOn {V : Type 0} (M : Monoid V) (difference : V → V → V) (enter : Cost → V)
    (X : Problem) (before after : Work V) (old new : PhaseChain V) : Type 0 where
  pub ready : IsReady M difference enter X after new
  pub more : List (PhaseOf V)
  pub phases : phases_in new ≡ phases_in old ++ more
  pub few : length more + unmatched after.matching ≤ unmatched before.matching
