use Rattle.std.specs.Prelude.{◌≡◌, ℕ, List, ◌∷◌}
use Rattle.asg_tokens.specs.Numbers.{size_of}
use Rattle.asg_tokens.specs.Pieces.{tokens}

-- a square file and a rect file have the same size, in both places of the rect file, and the same
-- cells
pub record HaveSameCells (square rect : List ℕ) : Type 0 where
  pub size : List ℕ
  pub rows : List ℕ
  pub columns : List ℕ
  pub cells : List (List ℕ)
  pub square_tokens : tokens square ≡ size ∷ cells
  pub rect_tokens : tokens rect ≡ rows ∷ columns ∷ cells
  pub same_rows : size_of rows ≡ size_of size
  pub same_columns : size_of columns ≡ size_of size
