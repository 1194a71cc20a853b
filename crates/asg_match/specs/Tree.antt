-- What an alternating tree shows.
use Rattle.std.specs.Prelude.{ℕ, List}

-- the side that the tree is made for, and the rows that it reached
pub record Reach : Type 0 where
  pub side : ℕ
  pub rows : List ℕ
