-- What the script of a job says of its instance: the edits and solves, or the refusal.
use Rattle.std.specs.Prelude.{ℕ, List, [], ◌∷◌, Option, Some, None}
use Rattle.std.specs.Option.{option_map}
use Rattle.asg_model.specs.declared.edits.EditRefusal.{EditRefusal}
use Rattle.asg_model.specs.declared.edits.EditRefusal.TheVariants as refusals
use Rattle.asg_model.specs.declared.objectives.Objective.{Objective}
use Rattle.asg_model.specs.Edits.{edited, refusal_of}
use Rattle.asg_model.specs.Problem.{Problem}
use Rattle.asg_text.specs.declared.script_lines.Line.{Line}
use Rattle.asg_text.specs.declared.script_lines.Line.TheVariants.{Edit, Solve}
use Rattle.asg_text.specs.ScriptFaults.{script_refusal_numbers}
use Rattle.asg_text.specs.Scripts.{ScriptReading, SpellsLines, RefusesScript, reading_of_script}

-- the number of the refusal of an edit in a script: 11 to 17, in the order in which they are tested
abbrev pub edit_refusal_number : EditRefusal → ℕ
edit_refusal_number refusals.NoSuchRow = 11
edit_refusal_number refusals.NoSuchColumn = 12
edit_refusal_number refusals.RowDropped = 13
edit_refusal_number refusals.ColumnDropped = 14
edit_refusal_number refusals.CostRange = 15
edit_refusal_number refusals.LastRow = 16
edit_refusal_number refusals.NegativeCost = 17
edit_refusal_number refusals.NoMemory = 0

-- the instance after a line
abbrev pub after_line : Problem → Line → Problem
after_line X (Edit edit) = edited X edit
after_line X Solve = X

-- why the edit of a line is refused, if it is
abbrev pub line_refusal : Objective → Problem → Line → Option EditRefusal
line_refusal objective X (Edit edit) = refusal_of objective X edit
line_refusal objective X Solve = None

-- the number of a refusal, and that of the line
abbrev pub numbers_at : ℕ → EditRefusal → List ℕ
numbers_at number refusal = edit_refusal_number refusal ∷ number ∷ []

-- the earlier of two refusals
abbrev pub earlier : Option (List ℕ) → Option (List ℕ) → Option (List ℕ)
earlier None later = later
earlier (Some numbers) later = Some numbers

-- the numbers of the first edit that is refused, each tried after those before it
abbrev pub first_refused : Objective → Problem → List (ℕ × Line) → Option (List ℕ)
first_refused objective X [] = None
first_refused objective X ((number, line) ∷ lines) =
    earlier (option_map (numbers_at number) (line_refusal objective X line))
    (first_refused objective (after_line X line) lines)

-- a script whose lines may be followed, or the numbers with which it is refused
pub data ScriptFile : Type 0 where
  HoldsLines : (lines : List (ℕ × Line)) → ScriptFile
  RefusesLines : (numbers : List ℕ) → ScriptFile

-- lines of which no edit is refused, else the refusal
abbrev pub tried : Option (List ℕ) → List (ℕ × Line) → ScriptFile
tried None lines = HoldsLines lines
tried (Some numbers) lines = RefusesLines numbers

-- what a text is read as holds these lines for an objective and an instance, or the refusal
abbrev pub held_script : Objective → Problem → ScriptReading → ScriptFile
held_script objective X (SpellsLines lines) = tried (first_refused objective X lines) lines
held_script objective X (RefusesScript fault) = RefusesLines (script_refusal_numbers fault)

-- what a script of these bytes holds for an objective and an instance: the fault of its text comes
-- before the edits
abbrev pub script_in : Objective → Problem → List ℕ → ScriptFile
script_in objective X bytes = held_script objective X (reading_of_script bytes)

-- the instance at each `solve` line, after all edits before it
abbrev pub solved_instances : Problem → List (ℕ × Line) → List Problem
solved_instances X [] = []
solved_instances X ((number, Solve) ∷ lines) = X ∷ solved_instances X lines
solved_instances X ((number, Edit edit) ∷ lines) = solved_instances (edited X edit) lines
