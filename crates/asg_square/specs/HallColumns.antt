-- The columns of the square of an instance in which rows have cells, and Hall sets told by them.
use Rattle.std.specs.Prelude.{◌≡◌, ◌≢◌, ℕ, ◌<◌, Bool, false, IsTrue, List, length, All, AllPairs}
use Rattle.std.specs.List.{list_any}
use Rattle.std.specs.Option.{option_map_or}
use Rattle.asg_model.specs.declared.bands.Band.TheVariants.{Whole}
use Rattle.asg_model.specs.HallSet.{row_place_of, is_counted_id}
use Rattle.asg_model.specs.Problem.{Problem}
use Rattle.asg_model.specs.Shapes.{square_side}
use Rattle.asg_model.specs.Sums.{count_below}
use Rattle.asg_square.specs.Presence.{has_cell}

-- a test says where the square of the instance has cells
abbrev pub TellsCells : Problem → (ℕ → ℕ → Bool) → Type 0
TellsCells X has = (r k : ℕ) → r < square_side X → k < square_side X → has r k ≡ has_cell X Whole r k

-- some row of the list, by id, has a cell in a column of the square, as a test says where cells are
abbrev pub is_met : Problem → (ℕ → ℕ → Bool) → List ℕ → ℕ → Bool
is_met X has ids k = list_any (λ id. option_map_or (λ r. has r k) (row_place_of X id) false) ids

-- in how many columns of the square some row of the list has a cell
abbrev pub met_count : Problem → (ℕ → ℕ → Bool) → List ℕ → ℕ
met_count X has ids = count_below (is_met X has ids) (square_side X)

-- different counted rows, by id, that are more than the columns of the square in which some of them
-- have a cell
pub record OutnumberColumns (X : Problem) (has : ℕ → ℕ → Bool) (ids : List ℕ) : Type 0 where
  pub different : AllPairs ◌≢◌ ids
  pub counted : All (λ id. IsTrue (is_counted_id X id)) ids
  pub short : met_count X has ids < length ids
