-- What is due for a request to solve.
use Rattle.std.specs.Prelude.{◌≡◌, ℕ, List, [], ◌∷◌}
use Rattle.asg_model.specs.Problem.{Problem}
use Rattle.asg_check.specs.declared.document_forms.Form.TheVariants.{Solve}
use Rattle.asg_words.specs.declared.requests.Job.{Job}
use Rattle.asg_answers.specs.declared.status.Status.{Status}
use Rattle.asg_answers.specs.declared.status.Status.TheVariants.{Done, Instance, Nothing}
use Rattle.asg_answers.specs.SolverLimits.{SolverRefuses, SolverTakes, limit_number}
use Rattle.asg_answers.specs.Tellings.{TellsBest, TellsNone}
use Rattle.asg_answers.specs.Texts.{refused_instance_text}

-- how a request to solve ends for the instance: where the objective's solver takes it, a best
-- choice is told, or that no choice is valid, by a document or in brief by a line; else its refusal,
-- 16 with the number of different costs, or 17 with the number of rows
pub data DueToSolve (job : Job) (X : Problem) (status : Status) (text : List ℕ) : Type 0 where
  Solved : SolverTakes job.objective X
      → TellsBest job.brief job.objective X text
      → status ≡ Done → DueToSolve job X status text
  Unsolvable : SolverTakes job.objective X
      → TellsNone job.brief job.objective X Solve text
      → status ≡ Nothing → DueToSolve job X status text
  TooLarge : (count : ℕ) → SolverRefuses job.objective X count
      → status ≡ Instance → text ≡ refused_instance_text (limit_number job.objective ∷ count ∷ [])
      → DueToSolve job X status text
