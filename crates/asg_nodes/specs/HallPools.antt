-- Lists of ids in one list, for which memory was taken.
use Rattle.std.specs.Prelude.{ℕ, ◌+◌, ◌*◌, ◌<◌, ◌≤◌, ◌^◌, List, [], length, map, take, drop, All, slice_index_or}

-- lists of ids: how many fit, how long each may be, and those that there are
pub record HallSets : Type 0 where
  pub most : ℕ
  pub width : ℕ
  pub sets : List (List ℕ)

-- the list at a place
abbrev pub hall_at : HallSets → ℕ → List ℕ
hall_at halls h = slice_index_or halls.sets h []

-- the part of a list that begins at a place and has a length
abbrev pub piece : List ℕ → ℕ × ℕ → List ℕ
piece ids span = take span.1 (drop span.0 ids)

abbrev pub pieces : List ℕ → List (ℕ × ℕ) → List (List ℕ)
pieces ids spans = map (piece ids) spans

-- the pieces lie within the list, and there is memory for as many as fit
pub record IsPool (most width : ℕ) (ids : List ℕ) (spans : List (ℕ × ℕ)) (ids_room spans_room : ℕ) : Type 0 where
  pub within : All (λ span. span.0 + span.1 ≤ length ids) spans
  pub few : length spans ≤ most
  pub used : length ids ≤ length spans * width
  pub spans_fit : most ≤ spans_room
  pub ids_fit : most * width ≤ ids_room
  pub small : most * width < 2 ^ 32
