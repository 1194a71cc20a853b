-- The first cell of an instance whose cost an objective refuses.
use Rattle.std.specs.Prelude.{ℕ, Option, length, is_some, option_map, option_and_then, slice_get}
use Rattle.std.specs.List.{find, range_with_len}
use Rattle.std.specs.Option.{option_map_or}
use Rattle.asg_model.specs.declared.objectives.Objective.{Objective}
use Rattle.asg_model.specs.Problem.{Problem}
use Rattle.asg_model.specs.Refused.{is_refused_at}

-- the place of the first column in which the objective refuses a live cost of the row at a place
abbrev pub refused_column : Objective → Problem → ℕ → Option ℕ
refused_column objective X r =
    find (is_refused_at objective X r) (range_with_len 0 (length X.columns))

-- the place of the first row with such a column
abbrev pub refused_row : Objective → Problem → Option ℕ
refused_row objective X =
    find (λ r. is_some (refused_column objective X r)) (range_with_len 0 (length X.rows))

-- the ids of the row and of the column at places, 0 where there is none
abbrev pub ids_at : Problem → ℕ → ℕ → ℕ × ℕ
ids_at X r c = (
  option_map_or (λ row. row.id) (slice_get X.rows r) 0,
  option_map_or (λ column. column.id) (slice_get X.columns c) 0,
)

-- the ids of the first refused cell, row by row
abbrev pub first_refused : Objective → Problem → Option (ℕ × ℕ)
first_refused objective X =
    option_and_then (λ r. option_map (ids_at X r) (refused_column objective X r))
    (refused_row objective X)
