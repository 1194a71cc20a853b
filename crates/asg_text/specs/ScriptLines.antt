-- What the lines of a script say, by their fields.
use Rattle.std.specs.Prelude.{ℕ, bytes_eq, codes, if◌then◌else◌, Bool, true, List, [], ◌∷◌, Option, Some, None, option_and_then}
use Rattle.std.specs.Option.{option_map, option_map_or}
use Rattle.asg_model.specs.declared.edits.Edit.TheVariants.{Cost as SetCost, Forbid, DropRow, DropColumn}
use Rattle.asg_model.specs.declared.parts.Cost.{Cost}
use Rattle.asg_model.specs.Edits.{given_cost}
use Rattle.asg_text.specs.declared.script_lines.Line.{Line}
use Rattle.asg_text.specs.declared.script_lines.Line.TheVariants.{Edit as Edits, Solve}
use Rattle.asg_tokens.specs.Numbers.{size_of}
use Rattle.asg_tokens.specs.Tables.{cost_of, is_in_range}

-- the line that gives a cell this cost
abbrev pub cost_line : ℕ → ℕ → Cost → Line
cost_line row col cost = Edits (SetCost row col cost)

-- `ROW COL COST`; the cost may be out of range
abbrev pub cost_line_of : List (List ℕ) → Option Line
cost_line_of (row ∷ col ∷ cost ∷ []) =
    option_and_then (λ row.
    option_and_then (λ col.
    option_map (cost_line row col) (cost_of cost)) (size_of col)) (size_of row)
cost_line_of _ = None

-- `ROW COL`
abbrev pub forbid_line_of : List (List ℕ) → Option Line
forbid_line_of (row ∷ col ∷ []) =
    option_and_then (λ row.
    option_map (λ col. Edits (Forbid row col)) (size_of col)) (size_of row)
forbid_line_of _ = None

-- `ROW` or `COL`
abbrev pub id_of : List (List ℕ) → Option ℕ
id_of (id ∷ []) = size_of id
id_of _ = None

-- nothing more
abbrev pub solve_line_of : List (List ℕ) → Option Line
solve_line_of [] = Some Solve
solve_line_of _ = None

-- what a line with these fields says, where it has a form; a cost may be out of range
unfoldable pub script_line_of : List (List ℕ) → Option Line
script_line_of [] = None
script_line_of (word ∷ more) =
    if bytes_eq word (codes "cost") then cost_line_of more
    else (if bytes_eq word (codes "forbid") then forbid_line_of more
    else (if bytes_eq word (codes "drop-row") then option_map (λ row. Edits (DropRow row)) (id_of more)
    else (if bytes_eq word (codes "drop-column") then option_map (λ col. Edits (DropColumn col)) (id_of more)
    else (if bytes_eq word (codes "solve") then solve_line_of more
    else None))))

-- the cost that a line gives, if it gives one, is in range
abbrev pub is_line_in_range : Line → Bool
is_line_in_range (Edits edit) = option_map_or is_in_range (given_cost edit) true
is_line_in_range Solve = true

-- a line, where its cost is in range
abbrev pub line_in_range : Line → Option Line
line_in_range line = if is_line_in_range line then Some line else None
