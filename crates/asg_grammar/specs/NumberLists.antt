-- Lists of numbers of 32 bits.
use Rattle.std.specs.Prelude.{ℕ, ◌<◌, ◌^◌, List, length, All}

-- each is a number of 32 bits
abbrev pub AreNumbers : List ℕ → Type 0
AreNumbers numbers = All (λ n. n < 2 ^ 32) numbers

-- there is a number, and each has 32 bits
pub record IsNumberList (numbers : List ℕ) : Type 0 where
  pub some : 0 < length numbers
  pub ids : AreNumbers numbers
