-- The program's specification: what is due for the words of a command line and the contents of
-- files.
use Rattle.std.specs.Prelude.{◌≡◌, ◌⊎◌, ◌<◌, ◌≤◌, ℕ, ◌++◌, List, [], ◌∷◌, Option, Some, None, length, All, IsSome}
use Rattle.asg_model.specs.Limits.{longest_file}
use Rattle.asg_model.specs.Problem.{Problem}
use Rattle.asg_words.specs.declared.requests.Job.{Job}
use Rattle.asg_words.specs.declared.requests.Request.{Request}
use Rattle.asg_words.specs.declared.requests.Request.TheVariants.{Work, Make}
use Rattle.asg_words.specs.declared.requests.Task.{Task}
use Rattle.asg_words.specs.declared.requests.Task.TheVariants.{Solve, Rank, Edit, Check}
use Rattle.asg_check.specs.declared.document_forms.Form.TheVariants as forms
use Rattle.asg_answers.specs.declared.status.Status.{Status}
use Rattle.asg_answers.specs.declared.status.Status.TheVariants.{Usage, Instance, TooLong}
use Rattle.asg_text.specs.TriedScripts.{HoldsLines, script_in, solved_instances}
use Rattle.asg_text.specs.declared.script_lines.Line.{Line}
use Rattle.asg_promises.specs.DueToCheck.{DueToCheck, form_asked}
use Rattle.asg_promises.specs.DueToEdit.{DueToEdit}
use Rattle.asg_promises.specs.DueToMake.{DueToMake}
use Rattle.asg_promises.specs.DueToRank.{DueToRank}
use Rattle.asg_promises.specs.DueToSolve.{DueToSolve}
use Rattle.asg_promises.specs.InstanceFile.{Holds, Refuses, instance_in}
use Rattle.asg_promises.specs.Requests.{asked_of, files_of}
use Rattle.asg_promises.specs.ScriptStage.{DueForScript}
use Rattle.asg_promises.specs.Sources.{AreShort, MayHoldAll, content_at}
use Rattle.asg_answers.specs.Texts.{usage_text, refused_instance_text}

-- what is due by each command for a job, the contents of its files and its instance
abbrev pub DueForTask : Task → Job → List (List ℕ) → Problem → Status → List ℕ → Type 0
DueForTask Solve job contents X = DueToSolve job X
DueForTask (Rank count) job contents X = DueToRank job count X
DueForTask (Edit script) job contents X =
    DueForScript (script_in job.objective X (content_at contents 1)) (DueToEdit job X)
DueForTask (Check answer None count) job contents X =
    DueToCheck job.objective (form_asked count) (X ∷ []) (content_at contents 1)
DueForTask (Check answer (Some script) count) job contents X =
    DueForScript (script_in job.objective X (content_at contents 1))
    (λ lines. DueToCheck job.objective forms.Edit (solved_instances X lines)
    (content_at contents 2))

-- what is due for a job and the contents of its files: one of them is too long, or the first one is
-- refused, or it holds an instance, and the job's command says what is due for that
pub data DueForJob (job : Job) (contents : List (List ℕ)) (status : Status)
    (text : List ℕ) : Type 0 where
  Long : (place : ℕ) → place < length contents → longest_file < length (content_at contents place)
      → status ≡ TooLong → text ≡ [] → DueForJob job contents status text
  Refused : AreShort contents
      → (numbers : List ℕ) → instance_in job (content_at contents 0) ≡ Refuses numbers
      → status ≡ Instance → text ≡ refused_instance_text numbers
      → DueForJob job contents status text
  Held : AreShort contents
      → (X : Problem) → instance_in job (content_at contents 0) ≡ Holds X
      → DueForTask job.task job contents X status text → DueForJob job contents status text

-- what is due for what the words ask, and the contents of the files that they name
abbrev pub DueForAsked : Option Request → List (List ℕ) → Status → List ℕ → Type 0
DueForAsked None contents status text = (status ≡ Usage) × (text ≡ usage_text)
DueForAsked (Some (Make seed side)) contents status text = DueToMake seed side status text
DueForAsked (Some (Work job)) contents status text = DueForJob job contents status text

-- the status and the text that are due for the words after the program's name, where the files have
-- the contents that are told
abbrev pub Due : List (List ℕ) → (List ℕ → Option (List ℕ)) → Status → List ℕ → Type 0
Due words told status text =
    (contents : List (List ℕ)) × MayHoldAll told (files_of (asked_of words)) contents
    × DueForAsked (asked_of words) contents status text

-- what a job to edit owes for the first lines of its script alone
pub record DueForFront (job : Job) (contents : List (List ℕ)) (status : Status)
    (text : List ℕ) : Type 0 where
  pub script : List ℕ
  pub edits : job.task ≡ Edit script
  pub problem : Problem
  pub held : instance_in job (content_at contents 0) ≡ Holds problem
  pub front : List (ℕ × Line)
  pub rest : List (ℕ × Line)
  pub lines : script_in job.objective problem (content_at contents 1) ≡ HoldsLines (front ++ rest)
  pub due : DueToEdit job problem front status text

-- what is due for what the words ask, or of a request to edit for the first lines of its script
abbrev pub DueForPart : Option Request → List (List ℕ) → Status → List ℕ → Type 0
DueForPart (Some (Work job)) contents status text =
    DueForJob job contents status text ⊎ DueForFront job contents status text
DueForPart asked contents status text = DueForAsked asked contents status text

-- the status and the text of which a run that is cut short may have written a part: those that are
-- due, or of a request to edit those for the first lines of its script
abbrev pub DueInPart : List (List ℕ) → (List ℕ → Option (List ℕ)) → Status → List ℕ → Type 0
DueInPart words told status text =
    (contents : List (List ℕ)) × MayHoldAll told (files_of (asked_of words)) contents
    × DueForPart (asked_of words) contents status text

-- the contents of each file that the words name are told
abbrev pub Tells : List (List ℕ) → (List ℕ → Option (List ℕ)) → Type 0
Tells words told = All (λ name. IsSome (told name)) (files_of (asked_of words))

-- the contents of a file are told, and it isn't too long
abbrev pub IsShort : Option (List ℕ) → Type 0
IsShort told = (contents : List ℕ) × (told ≡ Some contents) × (length contents ≤ longest_file)

-- so each file that the words name
abbrev pub TellsShort : List (List ℕ) → (List ℕ → Option (List ℕ)) → Type 0
TellsShort words told = All (λ name. IsShort (told name)) (files_of (asked_of words))
