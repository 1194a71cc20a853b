-- What a shelf keeps of the fetches so far.
use Rattle.std.specs.Prelude.{ℕ, List}

-- the names asked, the first one first, and the count of faults
pub record Fetches : Type 0 where
  pub asked : List (List ℕ)
  pub faults : ℕ
