-- Outcomes by the monoid of a kind are outcomes of its objective.
use Rattle.asg_objectives.proofs.Common.{◌≡◌, ℕ, ◌^◌, true, List, IsTrue, Option, subst, false≢true, Problem, IsValid, Objective, Sum, SumMax, SumPair, Capped, Bottleneck, BottleneckMax, TimeCost, Balanced, Lex, Cost, bounded_sums, bounded_difference, plain_word, is_sum_objective, top_of, sum_entered, peak_entered, time_entered, graded, graded_difference, graded_word, maxima, maxima_difference, IsFoldOutcome, Monoid, Word, ProvesFold, ProvesSum, ProvesPeak, ProvesPhases, IsOutcome, PhaseOf, Outcome, Best, Nothing, Phases}
use Rattle.asg_model.specs.Objectives.{is_bottleneck}

-- where phases that prove the fold of a valid choice prove the objective's, an outcome by folds is
-- one of the objective
pub IsOutcome-from_fold : {V : Type 0} (M : Monoid V) (difference : V → V → V) (word_of : V → Word) (enter : Cost → V) (objective : Objective) (X : Problem) → ((choice : List (Option ℕ)) (words : List (PhaseOf Word)) → IsValid X choice → ProvesFold M difference word_of enter X choice words → ProvesPhases objective X choice words) → (outcome : Outcome) → IsFoldOutcome M difference word_of enter X outcome → IsOutcome objective X outcome
IsOutcome-from_fold M difference word_of enter objective X proves (Best choice (Phases words)) is = record { valid = is.valid; proved = proves choice words is.valid is.proved }
IsOutcome-from_fold M difference word_of enter objective X proves (Best choice _) is = absurd is.proved
IsOutcome-from_fold M difference word_of enter objective X proves (Nothing rows) is = is

from_sum : (objective : Objective) → is_sum_objective objective ≡ true → (X : Problem) (choice : List (Option ℕ)) (words : List (PhaseOf Word)) → ProvesSum objective X choice words → ProvesPhases objective X choice words
from_sum Sum is X choice words proof = proof
from_sum SumMax is X choice words proof = proof
from_sum SumPair is X choice words proof = proof
from_sum (Capped cap) is X choice words proof = proof
from_sum Bottleneck is X choice words proof = absurd (false≢true is)
from_sum BottleneckMax is X choice words proof = absurd (false≢true is)
from_sum TimeCost is X choice words proof = absurd (false≢true is)
from_sum Balanced is X choice words proof = absurd (false≢true is)
from_sum Lex is X choice words proof = absurd (false≢true is)

from_peak : (objective : Objective) → is_bottleneck objective ≡ true → (X : Problem) (choice : List (Option ℕ)) (words : List (PhaseOf Word)) → ProvesPeak objective X choice words → ProvesPhases objective X choice words
from_peak Bottleneck is X choice words proof = proof
from_peak BottleneckMax is X choice words proof = proof
from_peak Sum is X choice words proof = absurd (false≢true is)
from_peak SumMax is X choice words proof = absurd (false≢true is)
from_peak SumPair is X choice words proof = absurd (false≢true is)
from_peak (Capped cap) is X choice words proof = absurd (false≢true is)
from_peak TimeCost is X choice words proof = absurd (false≢true is)
from_peak Balanced is X choice words proof = absurd (false≢true is)
from_peak Lex is X choice words proof = absurd (false≢true is)

-- the kind of sums
pub IsOutcome-sums : (kind objective : Objective) (top : ℕ) → kind ≡ objective → top ≡ top_of objective → IsTrue (is_sum_objective objective) → (X : Problem) (outcome : Outcome) → IsFoldOutcome (bounded_sums top) bounded_difference plain_word (sum_entered kind) X outcome → IsOutcome objective X outcome
IsOutcome-sums kind objective top same stops is X outcome by =
    IsOutcome-from_fold (bounded_sums (top_of objective)) bounded_difference plain_word (sum_entered objective) objective X (λ choice words valid. from_sum objective is X choice words) outcome
    (subst (λ n. IsFoldOutcome (bounded_sums n) bounded_difference plain_word (sum_entered objective) X outcome) stops
    (subst (λ o. IsFoldOutcome (bounded_sums top) bounded_difference plain_word (sum_entered o) X outcome) same by))

-- the kind of maxima
pub IsOutcome-maxima : (kind objective : Objective) → kind ≡ objective → IsTrue (is_bottleneck objective) → (X : Problem) (outcome : Outcome) → IsFoldOutcome maxima maxima_difference plain_word (peak_entered kind) X outcome → IsOutcome objective X outcome
IsOutcome-maxima kind objective same is X outcome by =
    IsOutcome-from_fold maxima maxima_difference plain_word (peak_entered objective) objective X (λ choice words valid. from_peak objective is X choice words) outcome
    (subst (λ o. IsFoldOutcome maxima maxima_difference plain_word (peak_entered o) X outcome) same by)

-- the kind of sums with a grade before them
pub IsOutcome-grades : (top : ℕ) → top ≡ 2 ^ 120 → (X : Problem) (outcome : Outcome) → IsFoldOutcome (graded (bounded_sums top)) (graded_difference (bounded_sums top) bounded_difference) graded_word time_entered X outcome → IsOutcome TimeCost X outcome
IsOutcome-grades top stops X outcome by =
    IsOutcome-from_fold (graded (bounded_sums (2 ^ 120))) (graded_difference (bounded_sums (2 ^ 120)) bounded_difference) graded_word time_entered TimeCost X (λ choice words valid proof. proof) outcome
    (subst (λ n. IsFoldOutcome (graded (bounded_sums n)) (graded_difference (bounded_sums n) bounded_difference) graded_word time_entered X outcome) stops by)
