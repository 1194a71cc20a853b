use Rattle.std.specs.Prelude.{◌≡◌, ◌≢◌, ℕ, ◌+◌, ◌<◌, Bool, false, IsTrue, ◌==◌, if◌then◌else◌, Option, Some, List, length, All, AllPairs, position, sum_by}
use Rattle.std.specs.List.{list_any, enumerate_from}
use Rattle.std.specs.Option.{option_map_or}
use Rattle.asg_model.specs.declared.bands.Band.{Band}
use Rattle.asg_model.specs.declared.parts.Column.{Column}
use Rattle.asg_model.specs.declared.parts.Cost.{Cost}
use Rattle.asg_model.specs.Problem.{Problem}
use Rattle.asg_model.specs.Live.{live_at}
use Rattle.asg_model.specs.Counts.{is_counted, slack}
use Rattle.asg_model.specs.ValidChoice.{Chooses}
use Rattle.asg_model.specs.Bands.{in_band}

-- the place of the row that has the id, if one has it
abbrev pub row_place_of : Problem → ℕ → Option ℕ
row_place_of X id = position (λ row. row.id == id) X.rows

-- the place of the column that has the id, if one has it
abbrev pub column_place_of : Problem → ℕ → Option ℕ
column_place_of X id = position (λ column. column.id == id) X.columns

-- the row at place r has a live cell of the band in the column at place c
abbrev pub is_live_within : Problem → Band → ℕ → ℕ → Bool
is_live_within X band r c = option_map_or (λ cost. in_band band cost.a) (live_at X r c) false

-- the row that has the id has a live cell of the band in the column at place c
abbrev pub reaches : Problem → Band → ℕ → ℕ → Bool
reaches X band c id = option_map_or (λ r. is_live_within X band r c) (row_place_of X id) false

-- some row of the list has a live cell of the band in the column at place c
abbrev pub is_reached : Problem → Band → List ℕ → ℕ → Bool
is_reached X band ids c = list_any (reaches X band c) ids

-- the capacity of a column, with its place, where rows of the list reach it, else 0
abbrev pub reached_part : Problem → Band → List ℕ → ℕ × Column → ℕ
reached_part X band ids column = if is_reached X band ids column.0 then column.1.cap else 0

-- the capacities of the columns that rows of the list reach, added up
abbrev pub reached_capacity : Problem → Band → List ℕ → ℕ
reached_capacity X band ids = sum_by (reached_part X band ids) (enumerate_from 0 X.columns)

-- the id names a counted row
abbrev pub is_counted_id : Problem → ℕ → Bool
is_counted_id X id = option_map_or (is_counted X) (row_place_of X id) false

-- a Hall set of rows under a band: different counted rows, by id, that are more than the columns
-- which they reach by live cells of the band can hold, even where as many rows stay out as may
pub record IsHallOfRows (X : Problem) (band : Band) (ids : List ℕ) : Type 0 where
  pub different : AllPairs ◌≢◌ ids
  pub counted : All (λ id. IsTrue (is_counted_id X id)) ids
  pub short : reached_capacity X band ids + slack X < length ids

-- a Hall set under a band
abbrev pub IsHall : Problem → Band → List ℕ → Type 0
IsHall X band ids = IsHallOfRows X band ids

-- each chosen live cell has a cost of the band
abbrev pub LiesIn : Problem → Band → List (Option ℕ) → Type 0
LiesIn X band f = (r c : ℕ) (cost : Cost) → Chooses f r c → live_at X r c ≡ Some cost →
    IsTrue (in_band band cost.a)
