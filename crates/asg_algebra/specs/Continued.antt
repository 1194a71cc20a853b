-- Reduced squares that are solved on by phases and columns that are given.
use Rattle.std.specs.Prelude.{ℕ, List, Option, None}
use Rattle.asg_admit.specs.declared.reduced.Reduced.{Reduced}
use Rattle.asg_growth.specs.Growing.{IsAbsorbed}
use Rattle.asg_match.specs.Matching.{IsPerfect}
use Rattle.asg_order.specs.Monoid.{Monoid}
use Rattle.asg_pool.specs.Forest.{Forest}
use Rattle.asg_proof.specs.Phases.{PhaseOf}
use Rattle.asg_square.specs.Grid.{cell_at}
use Rattle.asg_algebra.specs.declared.continued.Taken.{Taken}
use Rattle.asg_algebra.specs.Solved.{LeadTo}

-- the phases lead from the reduced square to another, in which each row has an absorbed cell
pub record IsTaken {V : Type 0} (M : Monoid V) (difference : V → V → V) (given : List (PhaseOf V))
    (before : Reduced V) (taken : Taken V) : Type 0 where
  pub from : Forest V
  pub to : Forest V
  pub last : Option ℕ
  pub lead : LeadTo M difference given before taken.reduced from to None last
  pub perfect : IsPerfect (IsAbsorbed M taken.reduced.index (cell_at taken.reduced.now))
      taken.reduced.now.side taken.matching
