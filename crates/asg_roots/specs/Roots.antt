-- The square of an instance, solved.
use Rattle.std.specs.Prelude.{◌≡◌, ℕ, ◌+◌, ◌≤◌, [], length, None, IfSome}
use Rattle.asg_admit.specs.declared.reduced.Reduced.{Reduced}
use Rattle.asg_algebra.specs.Ended.{EndsIn, last_of}
use Rattle.asg_algebra.specs.Solved.{LeadTo}
use Rattle.asg_algebra.specs.declared.square_solvers.SolvedSquare.{SolvedSquare}
use Rattle.asg_model.specs.declared.parts.Cost.{Cost}
use Rattle.asg_model.specs.Problem.{Problem}
use Rattle.asg_order.specs.Monoid.{Monoid}
use Rattle.asg_pool.specs.Forest.{Forest, IsLive, phases_to}
use Rattle.asg_square.specs.Grid.{Grid, IsSquareOf}
use Rattle.asg_roots.specs.declared.roots.Root.{Root}
use Rattle.asg_algebra.specs.declared.workplaces.Workplace.{Workplace}

-- the root of what was solved in a workplace
abbrev pub root_of : {V : Type 0} → SolvedSquare V → Workplace V → Root V
root_of solved place = record {
  reduced = solved.reduced;
  ended = solved.ended;
  matching = place.matching;
  bench = place.bench;
  region = place.region;
}

-- a square was solved from the unit on, in a region without trails that had so many records
pub record IsSolvedRoot {V : Type 0} (M : Monoid V) (difference : V → V → V) (Q : Grid V) (records : ℕ)
    (root : Root V) : Type 0 where
  pub before : Reduced V
  pub forest : Forest V
  pub fresh : forest.trails ≡ []
  pub start : before.now ≡ Q
  pub at_unit : before.index ≡ M.unit
  pub lead : LeadTo M difference (phases_to root.region (last_of root.ended)) before root.reduced forest
      root.region None (last_of root.ended)
  pub live : IfSome (last_of root.ended) (IsLive root.region)
  pub few : length (phases_to root.region (last_of root.ended)) ≤ Q.side
  pub spare : records ≤ root.region.spare + Q.side
  pub region_side : root.region.side ≡ Q.side
  pub bench_side : root.bench.side ≡ Q.side
  pub matching_side : length root.matching ≡ Q.side
  pub ends : EndsIn M root.reduced root.matching root.bench.rows root.ended

-- the square of an instance, its live costs entered as values, was solved so
pub record IsInstanceRoot {V : Type 0} (M : Monoid V) (difference : V → V → V) (enter : Cost → V) (X : Problem)
    (records : ℕ) (root : Root V) : Type 0 where
  pub square : Grid V
  pub of_instance : IsSquareOf X M.unit enter square
  pub solved : IsSolvedRoot M difference square records root
