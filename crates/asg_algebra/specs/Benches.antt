-- The memory of a solver.
use Rattle.std.specs.Prelude.{◌≢◌, ℕ, ◌<◌, All, AllPairs}
use Rattle.asg_growth.specs.declared.growth.Growth.{Growth}
use Rattle.asg_growth.specs.Growths.{IsRoomy}

-- memory for a side, and rows below it, without repeats
pub record IsBench {V : Type 0} (side : ℕ) (growth : Growth V) : Type 0 where
  pub roomy : IsRoomy side growth
  pub below : All (λ r. r < side) growth.tree.rows.items
  pub apart : AllPairs ◌≢◌ growth.tree.rows.items
