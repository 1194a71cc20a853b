use Rattle.std.specs.Prelude.{◌≡◌, IsTrue, All}
use Rattle.asg_model.specs.declared.parts.Place.TheVariants.{All as PlaceAll}
use Rattle.asg_model.specs.Problem.{Problem}

-- a plain instance: each row is active and is placed, and each column takes one row
pub record IsPlain (X : Problem) : Type 0 where
  pub place : X.place ≡ PlaceAll
  pub active : All (λ row. IsTrue row.active) X.rows
  pub single : All (λ column. column.cap ≡ 1) X.columns
