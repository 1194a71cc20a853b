-- How a request to edit begins.
use Rattle.std.specs.Prelude.{◌≡◌, ℕ, List}
use Rattle.asg_words.specs.declared.requests.Job.{Job}
use Rattle.asg_text.specs.TriedScripts.{HoldsLines, script_in}
use Rattle.asg_commands.specs.declared.editors.Work.{Work}
use Rattle.asg_commands.specs.declared.stops.Stop.{Stop}
use Rattle.asg_commands.specs.declared.stops.Stop.TheVariants as stops
use Rattle.asg_promises.specs.Due.{DueForJob}
use Rattle.asg_promises.specs.InstanceFile.{Holds, instance_in}
use Rattle.asg_answers.specs.Replies.{Answers}
use Rattle.asg_promises.specs.Sources.{AreShort, content_at}

-- an editor is opened on the instance of a job, for the lines of its script
pub record IsStarted (job : Job) (contents : List (List ℕ)) (work : Work) : Type 0 where
  pub short : AreShort contents
  pub objective : work.editor.objective ≡ job.objective
  pub held : instance_in job (content_at contents 0) ≡ Holds work.editor.instance
  pub lines : script_in job.objective work.editor.instance (content_at contents 1)
      ≡ HoldsLines work.lines.items

-- a stop for which a reply is due for the job
abbrev pub StopsJob : Job → List (List ℕ) → Stop → Type 0
StopsJob job contents (stops.Refused reply) = Answers (DueForJob job contents) reply
StopsJob job contents stops.NoMemory = Unit {0}
