-- What is due for what an instance's file holds.
use Rattle.asg_commands.proofs.Common.{◌≡◌, ℕ, ◌<◌, true, false, cond, ◌&&◌, ◌⊎◌, List, [], ◌∷◌, length, IfSome, IfOk, IsErr, nat_lt, Some, None, Ok, Err, Option, Result, MatchOption, sym, refl, ap, ◌∙◌, subst, arith, le-leb, nat_tests, Answers, IsReply, refused_instance_text, Reply, Instance, StopsInstance, stop_of, IsPlaceInRange, most_side, Problem, IsPlaceOutOfRange, is_range_of, shaped, square_side, Objective, DueForJob, Refused, InstanceFile, Holds, Refuses, fitted, held_by, instance_in, passed, rows_asked, sided, AreShort, content_at, Job, Fault, refusal_numbers}
use Rattle.asg_model.specs.declared.parts.Place.{Place}
use Rattle.asg_model.specs.Counts.{total_capacity}
use Rattle.asg_text.specs.Texts.{reading_of}
use Rattle.asg_model.specs.declared.parts.Place.TheVariants.{All as PlaceAll, Exactly}
use Rattle.asg_tokens.specs.Readings.{Spells, Refuses as RefusesText}
use Rattle.asg_commands.specs.declared.stops.Stop.TheVariants.{Refused as Stopped}

-- a text that spells an instance holds it with the job's options, and one that is refused its
-- refusal
pub spelled_file : (job : Job) (bytes : List ℕ) (X : Problem) → reading_of job.format bytes ≡ Spells X → instance_in job bytes ≡ fitted job.objective job.place job.each X
spelled_file job bytes X spelled = ap (held_by job.objective job.place job.each) spelled

pub refused_file : (job : Job) (bytes : List ℕ) (fault : Fault) → reading_of job.format bytes ≡ RefusesText fault → instance_in job bytes ≡ Refuses (refusal_numbers fault)
refused_file job bytes fault refused = ap (held_by job.objective job.place job.each) refused

-- a place rule that is in the range of the instance with the options is fitted
range_passes : (X : Problem) (place : Place) → IsPlaceInRange X place → is_range_of place (length X.rows) (total_capacity X) ≡ true
range_passes X PlaceAll within = refl
range_passes X (Exactly k) within = λ i. le-leb 1 k within.0 i && le-leb k (length X.rows) within.1 i && le-leb k (total_capacity X) within.2 i

pub fitted_file : (objective : Objective) (place : Place) (each : ℕ) (X : Problem) → IsPlaceInRange (shaped X place each) place → fitted objective place each X ≡ passed objective (shaped X place each)
fitted_file objective place each X within =
    ap (λ test. cond test (passed objective (shaped X place each)) (Refuses (13 ∷ rows_asked place ∷ []))) (range_passes (shaped X place each) place within)

-- one out of this range is refused, with the rows that it asks for
range_fails : (k rows capacity : ℕ) → (k ≡ 0) ⊎ ((rows < k) ⊎ (capacity < k)) → is_range_of (Exactly k) rows capacity ≡ false
range_fails k rows capacity out = grind (arith, nat_tests)

range_refuses : (X : Problem) (place : Place) → IsPlaceOutOfRange X place → is_range_of place (length X.rows) (total_capacity X) ≡ false
range_refuses X PlaceAll out = absurd out
range_refuses X (Exactly k) out = range_fails k (length X.rows) (total_capacity X) out

pub unfitted_file : (objective : Objective) (place : Place) (each : ℕ) (X : Problem) → IsPlaceOutOfRange (shaped X place each) place → fitted objective place each X ≡ Refuses (13 ∷ rows_asked place ∷ [])
unfitted_file objective place each X out =
    ap (λ test. cond test (passed objective (shaped X place each)) (Refuses (13 ∷ rows_asked place ∷ []))) (range_refuses (shaped X place each) place out)

-- one whose square is too large is refused, with its side
large_side : (most side : ℕ) → most < side → nat_lt most side ≡ true
large_side most side over = grind (arith, nat_tests)

pub large_file : (X : Problem) (side : ℕ) → side ≡ square_side X → most_side < side → sided X ≡ Refuses (15 ∷ side ∷ [])
large_file X side is over =
    ap (λ test. cond test (Refuses (15 ∷ square_side X ∷ [])) (Holds X)) (large_side most_side (square_side X) (subst (λ n. most_side < n) is over)) ∙ ap (λ n. Refuses (15 ∷ n ∷ [])) (sym is)

-- the reply that refuses an instance with these numbers stops its job
pub stops_file : {E : Type 0} (file : InstanceFile) (numbers : List ℕ) (result : Result Reply E) → file ≡ Refuses numbers → IfOk result (λ reply. IsReply reply Instance (refused_instance_text numbers)) → StopsInstance file (stop_of result)
stops_file file numbers (Ok reply) is says = (numbers, is, says)
stops_file file numbers (Err e) is says = tt

-- so the one that refuses it by its text
pub stops_text : {E : Type 0} (job : Job) (bytes : List ℕ) (fault : Option Fault) (result : Result Reply E) → IfSome fault (λ f. reading_of job.format bytes ≡ RefusesText f)
    → MatchOption fault (IsErr result) (λ f. IfOk result (λ reply. IsReply reply Instance (refused_instance_text (refusal_numbers f))))
    → StopsInstance (instance_in job bytes) (stop_of result)
stops_text job bytes (Some fault) result refused says = stops_file (instance_in job bytes) (refusal_numbers fault) result (refused_file job bytes fault refused) says
stops_text job bytes None (Ok reply) refused is_err = cc
stops_text job bytes None (Err e) refused is_err = tt

-- the reply of a stop is due for the job
pub stop_due : (job : Job) (contents : List (List ℕ)) (reply : Reply) → AreShort contents → StopsInstance (instance_in job (content_at contents 0)) (Stopped reply) → Answers (DueForJob job contents) reply
stop_due job contents reply short (numbers, is, says) = Refused short numbers is (sym says.0) (sym says.1)
