-- Choices of as many rows, one after the other in one list of numbers.
use Rattle.std.specs.Prelude.{◌≡◌, ℕ, zero, suc, ◌*◌, ◌<◌, ◌^◌, Option, Some, None, List, [], ◌∷◌, length, map, take, drop}

-- the number that says what a row chooses: the one behind its column's place, or 0
abbrev pub number_of : Option ℕ → ℕ
number_of None = 0
number_of (Some column) = suc column

-- what a number says that a row chooses
abbrev pub chosen_by : ℕ → Option ℕ
chosen_by zero = None
chosen_by (suc column) = Some column

-- so many choices of so many rows that numbers say
abbrev pub choices_in : ℕ → ℕ → List ℕ → List (List (Option ℕ))
choices_in rows zero numbers = []
choices_in rows (suc count) numbers =
    map chosen_by (take rows numbers) ∷ choices_in rows count (drop rows numbers)

-- the numbers are those of so many choices, of which there are less than 2^63
pub record AreNumbersOf (rows count : ℕ) (numbers : List ℕ) : Type 0 where
  pub whole : length numbers ≡ count * rows
  pub few : count < 2 ^ 63
