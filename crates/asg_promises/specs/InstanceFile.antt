-- What the instance's file of a job holds.
use Rattle.std.specs.Prelude.{ℕ, nat_lt, if◌then◌else◌, List, [], ◌∷◌, length}
use Rattle.std.specs.Prelude.{Option, Some, None}
use Rattle.asg_model.specs.declared.objectives.Objective.{Objective}
use Rattle.asg_model.specs.declared.parts.Place.{Place}
use Rattle.asg_model.specs.declared.parts.Place.TheVariants.{All, Exactly}
use Rattle.asg_model.specs.Counts.{total_capacity}
use Rattle.asg_model.specs.Limits.{most_side}
use Rattle.asg_model.specs.Problem.{Problem}
use Rattle.asg_model.specs.Shapes.{is_range_of, shaped, square_side}
use Rattle.asg_tokens.specs.Faults.{refusal_numbers}
use Rattle.asg_tokens.specs.Readings.{Reading, Spells, Refuses as RefusesText}
use Rattle.asg_text.specs.Texts.{reading_of}
use Rattle.asg_words.specs.declared.requests.Job.{Job}
use Rattle.asg_promises.specs.RefusedCosts.{first_refused}

-- an instance, or the numbers with which the file is refused
pub data InstanceFile : Type 0 where
  Holds : (X : Problem) → InstanceFile
  Refuses : (numbers : List ℕ) → InstanceFile

-- how many rows the place rule asks for, 0 where it asks for all
abbrev pub rows_asked : Place → ℕ
rows_asked All = 0
rows_asked (Exactly count) = count

-- an instance that is taken where its square isn't too large: else its refusal, 15, with the side
abbrev pub sided : Problem → InstanceFile
sided X = if nat_lt most_side (square_side X) then Refuses (15 ∷ square_side X ∷ []) else Holds X

-- an instance of which no cell is refused; else the refusal of this one, 14, with the ids of its
-- row and its column
abbrev pub passed_by : Option (ℕ × ℕ) → Problem → InstanceFile
passed_by None X = sided X
passed_by (Some ids) X = Refuses (14 ∷ ids.0 ∷ ids.1 ∷ [])

-- an instance of which the objective refuses no live cost; else its refusal by the first one
abbrev pub passed : Objective → Problem → InstanceFile
passed objective X = passed_by (first_refused objective X) X

-- the instance with this place rule and these capacities; its refusal, 13, with the rows that the
-- rule asks for, where it asks for none, or for more than there are or than the columns hold
abbrev pub fitted : Objective → Place → ℕ → Problem → InstanceFile
fitted objective place each X =
    if is_range_of place (length X.rows) (total_capacity (shaped X place each))
    then passed objective (shaped X place each) else Refuses (13 ∷ rows_asked place ∷ [])

-- what a text is read as holds the instance with these options, or the text's own refusal
abbrev pub held_by : Objective → Place → ℕ → Reading → InstanceFile
held_by objective place each (Spells X) = fitted objective place each X
held_by objective place each (RefusesText fault) = Refuses (refusal_numbers fault)

-- what a job's instance file of these bytes holds
abbrev pub instance_in : Job → List ℕ → InstanceFile
instance_in job bytes = held_by job.objective job.place job.each (reading_of job.format bytes)
