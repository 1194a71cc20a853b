-- What is due for a request to rank.
use Rattle.std.specs.Prelude.{◌≡◌, ◌<◌, ◌≤◌, ℕ, List, [], ◌∷◌}
use Rattle.asg_model.specs.Problem.{Problem}
use Rattle.asg_check.specs.declared.document_forms.Form.TheVariants.{Rank}
use Rattle.asg_rank.specs.Rankings.{ranking_work}
use Rattle.asg_rank.specs.Rooms.{most_work}
use Rattle.asg_words.specs.declared.requests.Job.{Job}
use Rattle.asg_answers.specs.declared.status.Status.{Status}
use Rattle.asg_answers.specs.declared.status.Status.TheVariants.{Done, Instance, Nothing}
use Rattle.asg_answers.specs.Tellings.{TellsNone, TellsRanking}
use Rattle.asg_answers.specs.Texts.{refused_instance_text}

-- how a request to rank so many choices ends for the instance: where the work, which is the count
-- times the rows times the side, is at most 4,000,000, a ranking is told, or that no choice is
-- valid, by a document or in brief by a line; else the refusal, 18 with the work
pub data DueToRank (job : Job) (count : ℕ) (X : Problem) (status : Status)
    (text : List ℕ) : Type 0 where
  Ranked : ranking_work X count ≤ most_work
      → TellsRanking job.brief job.objective X count text
      → status ≡ Done → DueToRank job count X status text
  Unrankable : ranking_work X count ≤ most_work
      → TellsNone job.brief job.objective X (Rank count) text
      → status ≡ Nothing → DueToRank job count X status text
  TooMuch : most_work < ranking_work X count
      → status ≡ Instance → text ≡ refused_instance_text (18 ∷ ranking_work X count ∷ [])
      → DueToRank job count X status text
