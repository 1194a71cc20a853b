-- What a solver works in beside the square.
use Rattle.std.specs.Prelude.{◌≡◌, ℕ, [], None, replicate}
use Rattle.asg_algebra.specs.declared.workplaces.Workplace.{Workplace}

-- nothing was done in it: no row has a column, and there is no trail; all is for one side
pub record IsFresh {V : Type 0} (side : ℕ) (place : Workplace V) : Type 0 where
  pub matching_empty : place.matching ≡ replicate side None
  pub bench_side : place.bench.side ≡ side
  pub region_side : place.region.side ≡ side
  pub trails_none : place.region.trails ≡ []
