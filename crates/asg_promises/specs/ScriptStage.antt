-- The stage of the script: what its file holds.
use Rattle.std.specs.Prelude.{◌≡◌, ℕ, List}
use Rattle.asg_text.specs.TriedScripts.{ScriptFile, HoldsLines, RefusesLines}
use Rattle.asg_text.specs.declared.script_lines.Line.{Line}
use Rattle.asg_answers.specs.declared.status.Status.{Status}
use Rattle.asg_answers.specs.declared.status.Status.TheVariants.{Script}
use Rattle.asg_answers.specs.Texts.{refused_script_text}

-- the refusal, or what `Owed` says is due for the lines that the script holds
abbrev pub DueForScript : ScriptFile → (List (ℕ × Line) → Status → List ℕ → Type 0)
    → Status → List ℕ → Type 0
DueForScript (RefusesLines numbers) Owed status text =
    (status ≡ Script) × (text ≡ refused_script_text numbers)
DueForScript (HoldsLines lines) Owed status text = Owed lines status text
