-- The phases of a session: a chain of trails, and the trails on the way to the last one.
use Rattle.std.specs.Prelude.{◌≡◌, ◌≤◌, ℕ, true, All, List, Option, take}
use Rattle.asg_pool.specs.Forest.{Forest, IsLive, phases_to}
use Rattle.asg_proof.specs.Phases.{PhaseOf}
use Rattle.asg_kept_phases.specs.Chains.{IsChain}
use Rattle.asg_kept_phases.specs.PhasesAlong.{phases_along}
use Rattle.asg_kept_phases.specs.declared.phase_chains.PhaseChain.{PhaseChain}

-- the phases up to the last trail
abbrev pub phases_in : {V : Type 0} → PhaseChain V → List (PhaseOf V)
phases_in chain = phases_to chain.region chain.last

-- the trails on the way to the last one, in order
pub record IsWayTo {V : Type 0} (F : Forest V) (last : Option ℕ) (way : List ℕ) : Type 0 where
  pub along : phases_along F way ≡ phases_to F last
  pub live : All (IsLive F) way

-- the trails are a chain, and the way to the last one is told where it is said to be
pub record IsPhaseChain {V : Type 0} (phases : PhaseChain V) : Type 0 where
  pub chain : IsChain phases.region phases.last
  pub told : phases.is_told ≡ true → IsWayTo phases.region phases.last phases.way.items

-- records are spare and the way is told where they were before, and the phases are the same
pub record IsPrepared {V : Type 0} (before after : PhaseChain V) : Type 0 where
  pub chain : IsPhaseChain after
  pub phases : phases_in after ≡ phases_in before
  pub side : after.region.side ≡ before.region.side
  pub more : before.region.spare ≤ after.region.spare
  pub kept : before.is_told ≡ true → after.is_told ≡ true

-- so many phases are left, and the way to the last one is told
pub record IsCutTo {V : Type 0} (kept : ℕ) (before after : PhaseChain V) : Type 0 where
  pub chain : IsPhaseChain after
  pub told : after.is_told ≡ true
  pub phases : phases_in after ≡ take kept (phases_in before)
  pub side : after.region.side ≡ before.region.side
  pub spare : before.region.spare ≤ after.region.spare
