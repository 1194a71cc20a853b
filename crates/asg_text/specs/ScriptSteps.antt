-- Scripts line by line: words of the reader of scripts, on which `reading_of_script` doesn't stand.
use Rattle.std.specs.Prelude.{◌≡◌, ℕ, ◌==◌, if◌then◌else◌, List, [], ◌∷◌, Some, IfSome, slice_get}
use Rattle.std.specs.List.{cons_option}
use Rattle.asg_text.specs.declared.script_lines.Line.{Line}
use Rattle.asg_text.specs.declared.script_refusals.ScriptRefusal.{ScriptRefusal}
use Rattle.asg_text.specs.ScriptFaults.{ScriptFault, TooManyEdits, script_fault_of}
use Rattle.asg_text.specs.Scripts.{faults_of_line, numbered_line, most_script_lines}

-- the faults of a line with a number and these fields, behind so many lines that aren't blank
abbrev pub faults_behind : ℕ → ℕ → List (List ℕ) → List ScriptFault
faults_behind count number [] = []
faults_behind count number (field ∷ more) =
    if count == most_script_lines then TooManyEdits number ∷ []
    else faults_of_line (number, field ∷ more)

-- what a line with a number and these fields adds to the lines of a script
abbrev pub lines_of : ℕ → List (List ℕ) → List (ℕ × Line)
lines_of number [] = []
lines_of number (field ∷ more) = cons_option (numbered_line (number, field ∷ more)) []

-- the earliest of some faults is the one that is told
abbrev pub IsEarliestFault : List ScriptFault → ScriptRefusal → Type 0
IsEarliestFault faults refusal =
    IfSome (script_fault_of refusal) (λ fault. slice_get faults 0 ≡ Some fault)
