-- What is due for a request to edit.
use Rattle.std.specs.Prelude.{◌≡◌, ℕ, List}
use Rattle.asg_model.specs.Problem.{Problem}
use Rattle.asg_words.specs.declared.requests.Job.{Job}
use Rattle.asg_text.specs.declared.script_lines.Line.{Line}
use Rattle.asg_answers.specs.declared.status.Status.{Status}
use Rattle.asg_answers.specs.declared.status.Status.TheVariants.{Done}
use Rattle.asg_answers.specs.Tellings.{TellsScript}

-- how a request to edit ends for the instance and the lines of its script: for each `solve` line an
-- answer is told, one after the other, by a document or in brief by a line
pub data DueToEdit (job : Job) (X : Problem) (lines : List (ℕ × Line)) (status : Status)
    (text : List ℕ) : Type 0 where
  Followed : TellsScript job.brief job.objective X lines text
      → status ≡ Done → DueToEdit job X lines status text
