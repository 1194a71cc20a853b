use Rattle.std.specs.Prelude.{◌≡◌, ℕ, ℤ, ◌+ℤ◌, Option, Some, List}
use Rattle.asg_model.specs.declared.bands.Band.TheVariants.{Between}
use Rattle.asg_model.specs.declared.parts.Cost.{Cost}
use Rattle.asg_model.specs.HallSet.{LiesIn}
use Rattle.asg_model.specs.Live.{live_at}
use Rattle.asg_model.specs.Problem.{Problem}
use Rattle.asg_model.specs.ValidChoice.{Chooses}

-- the costs of a choice spread over d: it chooses a live cell such that the costs of all live cells
-- that it chooses lie between the cost of that one and d more
pub record HasSpread (X : Problem) (f : List (Option ℕ)) (d : ℤ) : Type 0 where
  pub row : ℕ
  pub column : ℕ
  pub cost : Cost
  pub chosen : Chooses f row column
  pub live : live_at X row column ≡ Some cost
  pub inside : LiesIn X (Between cost.a (cost.a +ℤ d)) f
