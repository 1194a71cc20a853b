-- What holds of each request that words make.
use Rattle.std.specs.Prelude.{◌≡◌, ◌≤◌, ℕ, true, List, Option, Some, None, IfSome, IsSome}
use Rattle.asg_model.specs.declared.objectives.Objective.{Objective}
use Rattle.asg_model.specs.declared.objectives.Objective.TheVariants.{Capped}
use Rattle.asg_model.specs.declared.parts.Place.{Place}
use Rattle.asg_model.specs.declared.parts.Place.TheVariants.{All, Exactly}
use Rattle.asg_model.specs.Limits.{most_capacity, most_ranked, most_rows}
use Rattle.asg_words.specs.declared.requests.Task.{Task}
use Rattle.asg_words.specs.declared.requests.Task.TheVariants.{Rank, Edit, Check}
use Rattle.asg_words.specs.declared.requests.Job.{Job}
use Rattle.asg_words.specs.declared.requests.Request.{Request}
use Rattle.asg_words.specs.declared.requests.Request.TheVariants.{Work, Make}
use Rattle.asg_words.specs.Limits.{most_seed}
use Rattle.asg_model.specs.Objectives.{is_algebraic, most_cap}

-- the number is one from `least` to `most`
abbrev pub IsWithin : ℕ → ℕ → ℕ → Type 0
IsWithin least most number = (least ≤ number) × (number ≤ most)

-- how many rows are to be placed, where a number of them is
abbrev pub rows_placed : Place → Option ℕ
rows_placed All = None
rows_placed (Exactly rows) = Some rows

-- the cap of the objective, where it has one
abbrev pub cap_of : Objective → Option ℕ
cap_of (Capped cap) = Some cap
cap_of _ = None

-- how many choices are ranked, by the task or by the document that it checks
abbrev pub choices_ranked : Task → Option ℕ
choices_ranked (Rank count) = Some count
choices_ranked (Check answer script count) = count
choices_ranked _ = None

-- the script of the edits that are made, by the task or by what wrote the documents that it checks
abbrev pub script_edited : Task → Option (List ℕ)
script_edited (Edit script) = Some script
script_edited (Check answer script count) = script
script_edited _ = None

-- a job's numbers are within their bounds; rankings and edits are of algebraic objectives; a
-- ranking is of choices that place all rows, and of no edited instance
pub record IsJob (job : Job) : Type 0 where
  pub each : IsWithin 1 most_capacity job.each
  pub placed : IfSome (rows_placed job.place) (IsWithin 1 most_rows)
  pub capped : IfSome (cap_of job.objective) (IsWithin 1 most_cap)
  pub ranked : IfSome (choices_ranked job.task) (IsWithin 1 most_ranked)
  pub ranks_algebraic : IsSome (choices_ranked job.task) → is_algebraic job.objective ≡ true
  pub edits_algebraic : IsSome (script_edited job.task) → is_algebraic job.objective ≡ true
  pub ranks_all : IsSome (choices_ranked job.task) → job.place ≡ All
  pub ranks_unedited : IsSome (choices_ranked job.task) → script_edited job.task ≡ None

-- a request's numbers are within their bounds, and its options go together
abbrev pub IsRequest : Request → Type 0
IsRequest (Work job) = IsJob job
IsRequest (Make seed side) = (seed ≤ most_seed) × IsWithin 1 most_rows side
