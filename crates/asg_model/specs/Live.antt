use Rattle.std.specs.Prelude.{ℕ, Bool, false, ◌&&◌, ◌==◌, if◌then◌else◌, Option, Some, None, List, [], ◌∷◌, slice_get}
use Rattle.std.specs.Option.{option_map_or}
use Rattle.asg_model.specs.declared.parts.Cost.{Cost}
use Rattle.asg_model.specs.Problem.{Problem}

-- the cost that a list of cells has at a row place and a column place
abbrev pub cost_at : List ((ℕ × ℕ) × Cost) → ℕ → ℕ → Option Cost
cost_at [] r c = None
cost_at (cell ∷ cells) r c =
    if (cell.0.0 == r) && (cell.0.1 == c) then Some cell.1 else cost_at cells r c

-- there is a row at this place, and it is active
abbrev pub is_active : Problem → ℕ → Bool
is_active X r = option_map_or (λ row. row.active) (slice_get X.rows r) false

-- there is a column at this place, and it is open
abbrev pub is_open : Problem → ℕ → Bool
is_open X c = option_map_or (λ column. column.usable) (slice_get X.columns c) false

-- the cost of a live cell: it has a cost, its row is active and its column is open
abbrev pub live_at : Problem → ℕ → ℕ → Option Cost
live_at X r c = if is_active X r && is_open X c then cost_at X.cells r c else None
