-- Scripts, by their lines.
use Rattle.std.specs.Prelude.{◌≡◌, ℕ, ◌+◌, if◌then◌else◌, List, [], ◌∷◌, ◌++◌, take, drop, map, Option, Some, None, IfSome}
use Rattle.std.specs.Option.{option_map}
use Rattle.std.specs.List.{filter_map, flat_map}
use Rattle.std.specs.Str.Lines.{lines}
use Rattle.asg_text.specs.declared.script_lines.Line.{Line}
use Rattle.asg_text.specs.declared.script_refusals.ScriptRefusal.{ScriptRefusal}
use Rattle.asg_tokens.specs.Pieces.{fields}
use Rattle.asg_text.specs.ScriptFaults.{ScriptFault, BadScriptLine, TooManyEdits, CostRange, script_fault_of}
use Rattle.asg_text.specs.ScriptLines.{script_line_of, is_line_in_range}

-- a text spells the lines of a script, each with its number, or it is refused for a fault
pub data ScriptReading : Type 0 where
  SpellsLines : (script : List (ℕ × Line)) → ScriptReading
  RefusesScript : (fault : ScriptFault) → ScriptReading

-- the reading of a script with these faults, the earliest first: it is refused for the first of
-- them, or spells the lines where there is none
abbrev pub script_with : List ScriptFault → List (ℕ × Line) → ScriptReading
script_with [] script = SpellsLines script
script_with (fault ∷ more) script = RefusesScript fault

-- an answer that refuses a script tells the fault for which its reading does; want of memory tells
-- nothing
abbrev pub TellsOfScript : ScriptReading → ScriptRefusal → Type 0
TellsOfScript reading refusal =
    IfSome (script_fault_of refusal) (λ fault. reading ≡ RefusesScript fault)

-- the greatest number of lines of a script that aren't blank
abbrev pub most_script_lines : ℕ
most_script_lines = 10000

-- lines by their fields, each with its number, which count from this one on; those without a field
-- are left out
abbrev pub numbered_from : ℕ → List (List (List ℕ)) → List (ℕ × List (List ℕ))
numbered_from number [] = []
numbered_from number ([] ∷ lines) = numbered_from (number + 1) lines
numbered_from number ((field ∷ more) ∷ lines) =
    (number, field ∷ more) ∷ numbered_from (number + 1) lines

-- the faults of a line with a number, by what it says: it has no form, or its cost is out of range
abbrev pub line_faults : ℕ → Option Line → List ScriptFault
line_faults number None = BadScriptLine number ∷ []
line_faults number (Some line) = if is_line_in_range line then [] else CostRange number ∷ []

-- the same, by its fields
abbrev pub faults_of_line : ℕ × List (List ℕ) → List ScriptFault
faults_of_line line = line_faults line.0 (script_line_of line.1)

-- the fault of the first line beyond those that a script may have
abbrev pub faults_beyond : List (ℕ × List (List ℕ)) → List ScriptFault
faults_beyond [] = []
faults_beyond (line ∷ more) = TooManyEdits line.0 ∷ []

-- the faults of a script of at most so many lines that has these, the earliest first
abbrev pub script_faults : ℕ → List (ℕ × List (List ℕ)) → List ScriptFault
script_faults most lines =
    flat_map faults_of_line (take most lines) ++ faults_beyond (drop most lines)

-- what a line says, with its number
abbrev pub numbered_line : ℕ × List (List ℕ) → Option (ℕ × Line)
numbered_line line = option_map (λ says. (line.0, says)) (script_line_of line.1)

-- the reading of a script that has these lines, those that aren't blank
abbrev pub reading_of_lines : List (ℕ × List (List ℕ)) → ScriptReading
reading_of_lines lines =
    script_with (script_faults most_script_lines lines) (filter_map numbered_line lines)

-- the reading of a script, by the fields of its lines
unfoldable pub reading_of_script : List ℕ → ScriptReading
reading_of_script text = reading_of_lines (numbered_from 1 (map fields (lines text)))
