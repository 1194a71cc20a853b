-- What following the lines of a script writes. The program's specification doesn't cite this.
use Rattle.std.specs.Prelude.{◌≡◌, ℕ, ◌++◌, Bool, List, Option}
use Rattle.asg_model.specs.declared.objectives.Objective.{Objective}
use Rattle.asg_model.specs.Problem.{Problem}
use Rattle.asg_edits.specs.Editors.{EditorOf}
use Rattle.asg_io.specs.Sink.{Puts, PutsPrefix}
use Rattle.asg_proof.specs.KeptWords.{Standing}
use Rattle.asg_text.specs.TriedScripts.{after_line}
use Rattle.asg_text.specs.declared.script_lines.Line.{Line}
use Rattle.asg_answers.specs.declared.edited.Halt.{Halt}
use Rattle.asg_answers.specs.declared.edited.Halt.TheVariants.{WriteFault, NoMemory}
use Rattle.asg_answers.specs.Standings.{IsFollowed, Stands}
use Rattle.asg_answers.specs.Tellings.{TellsScript}

-- a line was followed, and its text was written
pub record WritesLine (brief : Bool) (objective : Objective) (X : Problem) (standing : Standing)
    (line : Line) (editor : EditorOf) (before now : Option (List ℕ)) : Type 0 where
  pub text : List ℕ
  pub after : Standing
  pub followed : IsFollowed brief objective X standing line text after editor
  pub stands : Stands objective after editor
  pub puts : Puts before now text

-- the writing halted in a line: a part of its text was written, or nothing
abbrev pub HaltsIn : Bool → Objective → Problem → Standing → Line → Option (List ℕ)
    → Option (List ℕ) → Halt → Type 0
HaltsIn brief objective X standing line before now NoMemory = now ≡ before
HaltsIn brief objective X standing line before now WriteFault =
    (text : List ℕ) × (after : Standing) × (editor : EditorOf)
    × (editor.instance ≡ after_line X line)
    × IsFollowed brief objective X standing line text after editor
    × PutsPrefix before now text

-- the text of lines was written
abbrev pub WritesAll : Bool → Objective → Problem → List (ℕ × Line) → Option (List ℕ)
    → Option (List ℕ) → Type 0
WritesAll brief objective X lines before now =
    (text : List ℕ) × TellsScript brief objective X lines text × Puts before now text

-- a part of the text of the first lines was written
abbrev pub WritesFront : Bool → Objective → Problem → List (ℕ × Line) → Option (List ℕ)
    → Option (List ℕ) → Type 0
WritesFront brief objective X lines before now =
    (front rest : List (ℕ × Line)) × (lines ≡ front ++ rest)
    × (text : List ℕ) × TellsScript brief objective X front text × PutsPrefix before now text
