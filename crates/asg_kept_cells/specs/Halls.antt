-- Rows by id, as places, and the columns in which they have cells.
use Rattle.std.specs.List.{list_any}
use Rattle.std.specs.Prelude.{◌≡◌, ◌≢◌, ℕ, ◌+◌, ◌*◌, ◌<◌, Bool, IsTrue, if◌then◌else◌, Option, Some, None, List, length, map, All, AllPairs, option_and_then}
use Rattle.asg_model.specs.Counts.{is_counted}
use Rattle.asg_model.specs.HallSet.{is_counted_id, row_place_of}
use Rattle.asg_model.specs.Problem.{Problem}
use Rattle.asg_bit_rows.specs.BitTable.{is_bit_set}

-- the place of the counted row that has the id
abbrev pub counted_place : Problem → ℕ → Option ℕ
counted_place X id = option_and_then (λ r. if is_counted X r then Some r else None) (row_place_of X id)

-- different counted rows by id, and their places
pub record AreRowsOf (X : Problem) (ids rows : List ℕ) : Type 0 where
  pub different : AllPairs ◌≢◌ ids
  pub counted : All (λ id. IsTrue (is_counted_id X id)) ids
  pub places : map (row_place_of X) ids ≡ map Some rows
  pub within : All (λ row. row < length X.rows) rows

-- of the 64 columns of a word those have their bits set in which some of the rows has a cell
abbrev pub AreMetIn : (ℕ → ℕ → Bool) → List ℕ → ℕ → ℕ → Type 0
AreMetIn has rows number word =
    (k : ℕ) → k < 64 → is_bit_set word k ≡ list_any (λ row. has row (64 * number + k)) rows
