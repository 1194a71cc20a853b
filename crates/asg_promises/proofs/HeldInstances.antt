-- What a job's file holds is an instance.
use Rattle.asg_promises.proofs.Common.{◌≡◌, ℕ, ◌≤◌, Bool, true, false, cond, List, [], ◌∷◌, length, nat_lt, Some, None, Option, refl, subst, ltb-false, total_capacity, IsInstance, IsPlaceInRange, most_capacity, most_side, Problem, PassesNegative, is_range_of, shaped, square_side, Objective, Holds, Refuses, fitted, held_by, instance_in, passed, passed_by, rows_asked, sided, first_refused, AsksFor, Job, Request, Work, reading_of}
use Rattle.asg_model.specs.declared.parts.Place.{Place}
use Rattle.asg_text.specs.declared.formats.Format.{Format}
use Rattle.asg_words.specs.Bounds.{IsJob, IsRequest}
use Rattle.asg_words.specs.Requests.{request_of}
use Rattle.asg_promises.proofs.RefusedCosts.{passes_none}
use Rattle.asg_tokens.specs.Readings.{Reading, Spells, Refuses as RefusesText}

-- whatever bytes the job's file has, what they hold is an instance
abbrev pub HoldsInstances : Job → Type 0
HoldsInstances job = (bytes : List ℕ) (X : Problem) → instance_in job bytes ≡ Holds X → IsInstance X

-- the laws of the crates below on which this rests
pub record InstanceLaws : Type 0 where
  pub requests : (words : List (List ℕ)) (request : Request) → request_of words ≡ Some request → IsRequest request
  pub spelled : (format : Format) (bytes : List ℕ) (X : Problem) → reading_of format bytes ≡ Spells X → IsInstance X
  pub stays : (X : Problem) (place : Place) (each : ℕ) → IsInstance X → 1 ≤ each → each ≤ most_capacity → IsPlaceInRange (shaped X place each) place → IsInstance (shaped X place each)
  pub in_range : (X : Problem) (place : Place) → is_range_of place (length X.rows) (total_capacity X) ≡ true → IsPlaceInRange X place

-- what the stages behind the options hold is the instance itself; the objective refuses no live
-- cost of it, and its square isn't too large
record IsHeld (objective : Objective) (X Y : Problem) : Type 0 where
  same : X ≡ Y
  passes : PassesNegative objective X
  within : square_side X ≤ most_side

sided_is : (X Y : Problem) → sided X ≡ Holds Y → (X ≡ Y) × (square_side X ≤ most_side)
sided_is X Y is = by_test (nat_lt most_side (square_side X)) refl is
  where
    by_test : (test : Bool) → nat_lt most_side (square_side X) ≡ test → cond test (Refuses (15 ∷ square_side X ∷ [])) (Holds X) ≡ Holds Y → (X ≡ Y) × (square_side X ≤ most_side)
    by_test true over is = cc
    by_test false over is = (cc, ltb-false most_side (square_side X) over)

passed_is : (objective : Objective) (X Y : Problem) → passed objective X ≡ Holds Y → IsHeld objective X Y
passed_is objective X Y is = by_cell (first_refused objective X) refl is
  where
    by_cell : (found : Option (ℕ × ℕ)) → first_refused objective X ≡ found → passed_by found X ≡ Holds Y → IsHeld objective X Y
    by_cell None none is = let held = sided_is X Y is in record { same = held.0; passes = passes_none objective X none; within = held.1 }
    by_cell (Some ids) found is = cc

-- what is held for a job: the objective refuses no live cost of it, its square isn't too large, and
-- its place rule is the job's
pub record IsTaken (objective : Objective) (place : Place) (X : Problem) : Type 0 where
  pub placed : X.place ≡ place
  pub passes : PassesNegative objective X
  pub within : square_side X ≤ most_side

IsTaken-fitted : (objective : Objective) (place : Place) (each : ℕ) (X Y : Problem) → fitted objective place each X ≡ Holds Y → IsTaken objective place Y
IsTaken-fitted objective place each X Y is = by_test (is_range_of place (length X.rows) (total_capacity (shaped X place each))) is
  where
    by_test : (test : Bool) → cond test (passed objective (shaped X place each)) (Refuses (13 ∷ rows_asked place ∷ [])) ≡ Holds Y → IsTaken objective place Y
    by_test true is =
        let held = passed_is objective (shaped X place each) Y is in
        subst (IsTaken objective place) held.same (record { placed = refl; passes = held.passes; within = held.within })
    by_test false is = cc

IsTaken-read : (objective : Objective) (place : Place) (each : ℕ) (reading : Reading) (Y : Problem) → held_by objective place each reading ≡ Holds Y → IsTaken objective place Y
IsTaken-read objective place each (Spells X) Y is = IsTaken-fitted objective place each X Y is
IsTaken-read objective place each (RefusesText fault) Y is = cc

pub IsTaken-held : (job : Job) (bytes : List ℕ) (X : Problem) → instance_in job bytes ≡ Holds X → IsTaken job.objective job.place X
IsTaken-held job bytes X holds = IsTaken-read job.objective job.place job.each (reading_of job.format bytes) X holds

module _ (laws : InstanceLaws) (job : Job) (within : IsJob job) where
  -- an instance with the job's options is one
  fitted_instance : (X Y : Problem) → IsInstance X → fitted job.objective job.place job.each X ≡ Holds Y → IsInstance Y
  fitted_instance X Y inst is = by_test (is_range_of job.place (length X.rows) (total_capacity shape)) refl is
    where
      shape : Problem
      shape = shaped X job.place job.each

      by_test : (test : Bool) → is_range_of job.place (length X.rows) (total_capacity shape) ≡ test → cond test (passed job.objective shape) (Refuses (13 ∷ rows_asked job.place ∷ [])) ≡ Holds Y → IsInstance Y
      by_test true passed is =
          subst IsInstance (passed_is job.objective shape Y is).same
          (laws.stays X job.place job.each inst within.each.0 within.each.1 (laws.in_range shape job.place passed))
      by_test false passed is = cc

  read_instance : (reading : Reading) (Y : Problem) → ((X : Problem) → reading ≡ Spells X → IsInstance X) → held_by job.objective job.place job.each reading ≡ Holds Y → IsInstance Y
  read_instance (Spells X) Y spelled is = fitted_instance X Y (spelled X refl) is
  read_instance (RefusesText fault) Y spelled is = cc

-- what the file of a request's job holds is an instance
pub holds_instances : InstanceLaws → (words : List (List ℕ)) (job : Job) → AsksFor words job → HoldsInstances job
holds_instances laws words job is bytes X holds =
    read_instance laws job (laws.requests words (Work job) is) (reading_of job.format bytes) X (laws.spelled job.format bytes) holds
