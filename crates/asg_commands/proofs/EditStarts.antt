-- How a request to edit begins.
use Rattle.asg_commands.proofs.Common.{◌≡◌, ℕ, true, List, IfOk, IsSome, IsTrue, Ok, Err, Result, Vec, sym, refl, subst, Global, bytes_of, Status, IsStarted, StopsJob, StopsInstance, StopsScript, Problem, DueForJob, DueForTask, Held, Holds, instance_in, is_edit, DueForScript, AreShort, content_at, IsJob, script_edited, Job, Solve, Rank, Check, HoldsLines, script_in, Line}
use Rattle.asg_words.specs.declared.requests.Task.{Task}
use Rattle.asg_words.specs.declared.requests.Task.TheVariants.{Edit}
use Rattle.asg_model.specs.Objectives.{is_algebraic}
use Rattle.asg_commands.specs.declared.editors.Work.{Work}
use Rattle.asg_commands.specs.declared.stops.Stop.{Stop}
use Rattle.asg_promises.specs.DueToEdit.{DueToEdit}
use Rattle.asg_commands.proofs.InstanceLemmas.{stop_due}
use Rattle.asg_commands.specs.declared.stops.Stop.TheVariants.{Refused as Stopped, NoMemory as Wanting}

-- a task that edits has a script
pub edit_of : (task : Task) → is_edit task ≡ true → (script : List ℕ) × (task ≡ Edit script)
edit_of Solve is = cc
edit_of (Rank count) is = cc
edit_of (Edit script) is = (script, refl)
edit_of (Check answer script count) is = cc

-- and is for an algebraic objective
pub edits_algebraic : (job : Job) → is_edit job.task ≡ true → IsJob job → IsTrue (is_algebraic job.objective)
edits_algebraic job is within =
    let edits = edit_of job.task is in
    within.edits_algebraic (subst (λ task. IsSome (script_edited task)) (sym edits.1) refl)

-- what is due for the job by its script
pub script_due : (job : Job) (contents : List (List ℕ)) (X : Problem) (status : Status) (text : List ℕ) → is_edit job.task ≡ true → AreShort contents → instance_in job (content_at contents 0) ≡ Holds X
    → DueForScript (script_in job.objective X (content_at contents 1)) (DueToEdit job X) status text → DueForJob job contents status text
script_due job contents X status text is short holds due =
    let edits = edit_of job.task is in
    Held short X holds (subst (λ task. DueForTask task job contents X status text) (sym edits.1) due)

-- a script that stops the job is refused
pub script_stop : (job : Job) (contents : List (List ℕ)) (X : Problem) (stop : Stop) → is_edit job.task ≡ true → AreShort contents → instance_in job (content_at contents 0) ≡ Holds X
    → StopsScript (script_in job.objective X (content_at contents 1)) stop → StopsJob job contents stop
script_stop job contents X (Stopped reply) is short holds (numbers, refuses, says) =
    script_due job contents X reply.status (bytes_of reply.text) is short holds
    (subst (λ file. DueForScript file (DueToEdit job X) reply.status (bytes_of reply.text)) (sym refuses) (sym says.0, sym says.1))
script_stop job contents X Wanting is short holds stops = tt

-- so an instance
pub instance_stop : (job : Job) (contents : List (List ℕ)) (stop : Stop) → AreShort contents → StopsInstance (instance_in job (content_at contents 0)) stop → StopsJob job contents stop
instance_stop job contents (Stopped reply) short stops = stop_due job contents reply short stops
instance_stop job contents Wanting short stops = tt

-- an editor that is opened
pub IsStarted-opened : (job : Job) (contents : List (List ℕ)) (X : Problem) (lines : Vec (ℕ × Line) Global) (result : Result Work Stop) → AreShort contents → instance_in job (content_at contents 0) ≡ Holds X → script_in job.objective X (content_at contents 1) ≡ HoldsLines lines.items
    → IfOk result (λ work. work.editor.objective ≡ job.objective) → IfOk result (λ work. work.editor.instance ≡ X) → IfOk result (λ work. work.lines ≡ lines) → IfOk result (IsStarted job contents)
IsStarted-opened job contents X lines (Ok work) short holds follows objective instance same = record {
  short = short;
  objective = objective;
  held = subst (λ Z. instance_in job (content_at contents 0) ≡ Holds Z) (sym instance) holds;
  lines = subst (λ Z. script_in job.objective Z (content_at contents 1) ≡ HoldsLines work.lines.items) (sym instance) (subst (λ v. script_in job.objective X (content_at contents 1) ≡ HoldsLines v.items) (sym same) follows);
}
IsStarted-opened job contents X lines (Err stop) short holds follows objective instance same = tt
