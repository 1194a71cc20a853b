-- Hall sets of instances from the rows of a square that have too few columns.
use Rattle.std.specs.Prelude.{◌≡◌, ◌↔◌, ℕ, IsTrue, Option, List, slice_get, filter_map}
use Rattle.std.specs.Option.{option_map, option_and_then}
use Rattle.asg_model.specs.declared.bands.Band.{Band}
use Rattle.asg_model.specs.Problem.{Problem}
use Rattle.asg_model.specs.HallSet.{IsHall}
use Rattle.asg_square.specs.Labels.{row_label}
use Rattle.asg_square.specs.Presence.{has_cell}

-- exactly the cells of the square are allowed, where of the live cells those of the band count
abbrev pub AllowsCells : (ℕ → ℕ → Type 0) → Problem → Band → Type 0
AllowsCells allows X band = (r c : ℕ) → allows r c ↔ IsTrue (has_cell X band r c)

-- the ids are a Hall set, under the band, of each instance with the rows, the columns and the place
-- rule of X whose square, under the band, has exactly the allowed cells
abbrev pub GivesHallSets : Problem → (ℕ → ℕ → Type 0) → List ℕ → Type 0
GivesHallSets X allows ids =
    (Y : Problem) (band : Band) → Y.rows ≡ X.rows → Y.columns ≡ X.columns → Y.place ≡ X.place → AllowsCells allows Y band → IsHall Y band ids

-- the id of the row that a square row stands for
abbrev pub labelled_id : Problem → ℕ → Option ℕ
labelled_id X r = option_and_then (λ k. option_map (λ row. row.id) (slice_get X.rows k)) (row_label X r)

-- the ids of the rows that square rows stand for
abbrev pub hall_ids : Problem → List ℕ → List ℕ
hall_ids X rows = filter_map (labelled_id X) rows
