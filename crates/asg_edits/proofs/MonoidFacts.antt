-- Facts of a kind's monoid as facts of the objective's.
use Rattle.asg_edits.proofs.Common.{◌≡◌, ℕ, ◌^◌, ◌≤◌, List, IsTrue, Some, None, Option, sym, subst, IsAnswerAt, IsAnswerIn, IsBestAt, IsBestIn, IsChoiceAt, IsChoiceIn, IsPhases, EditFact, Problem, Objective, Sum, SumMax, SumPair, Capped, Bottleneck, BottleneckMax, TimeCost, Balanced, Lex, Cost, bounded_sums, bounded_difference, plain_word, is_sum_objective, peak_entered, sum_entered, time_entered, top_of, graded, graded_difference, graded_word, maxima, maxima_difference, Monoid, Word, IsRaisedFor, KeepsPhases, PhaseOf, Outcome, Below, Levels, Phases, Windows}
use Rattle.asg_model.specs.Objectives.{is_bottleneck}
use Rattle.asg_model.specs.ValidChoice.{IsValid}
use Rattle.asg_monoids.specs.ObjectiveMonoids.{Fact, InMonoidOf}
use Rattle.asg_proof.specs.FoldProofs.{ProvesFold, ProvesPhases}
use Rattle.asg_proof.specs.Proves.{Proves}
use Rattle.asg_proof.specs.declared.outcomes.Outcome.TheVariants.{Best, Nothing}
use Rattle.asg_proof.specs.declared.outcomes.Proof.{Proof}

-- ---- from the monoid of a kind

pub sum_fact : (objective : Objective) → IsTrue (is_sum_objective objective) → (top : ℕ) → top ≡ top_of objective → (P : Fact) → P ℕ (bounded_sums top) bounded_difference plain_word (sum_entered objective) → InMonoidOf objective P
sum_fact Sum is top stops P holds = subst (λ n. P ℕ (bounded_sums n) bounded_difference plain_word (sum_entered Sum)) stops holds
sum_fact SumMax is top stops P holds = subst (λ n. P ℕ (bounded_sums n) bounded_difference plain_word (sum_entered SumMax)) stops holds
sum_fact SumPair is top stops P holds = subst (λ n. P ℕ (bounded_sums n) bounded_difference plain_word (sum_entered SumPair)) stops holds
sum_fact (Capped cap) is top stops P holds = subst (λ n. P ℕ (bounded_sums n) bounded_difference plain_word (sum_entered (Capped cap))) stops holds
sum_fact _ is top stops P holds = absurd (cc)

pub peak_fact : (objective : Objective) → IsTrue (is_bottleneck objective) → (P : Fact) → P ℕ maxima maxima_difference plain_word (peak_entered objective) → InMonoidOf objective P
peak_fact Bottleneck is P holds = holds
peak_fact BottleneckMax is P holds = holds
peak_fact _ is P holds = absurd (cc)

pub time_fact : (top : ℕ) → top ≡ 2 ^ 120 → (P : Fact) → P (ℕ × ℕ) (graded (bounded_sums top)) (graded_difference (bounded_sums top) bounded_difference) graded_word time_entered → InMonoidOf TimeCost P
time_fact top stops P holds = subst (λ n. P (ℕ × ℕ) (graded (bounded_sums n)) (graded_difference (bounded_sums n) bounded_difference) graded_word time_entered) stops holds

-- ---- what an edit keeps

pub record EditParts (objective : Objective) (X Y : Problem) (words left : List (PhaseOf Word)) (before after : ℕ) : Type 0 where
  pub kept : KeepsPhases objective Y words left
  pub few : IsRaisedFor objective X Y → before ≡ 0 → after ≤ 1

pub edit_parts : (objective : Objective) (X Y : Problem) (words left : List (PhaseOf Word)) (before after : ℕ) → InMonoidOf objective (EditFact X Y words left before after) → EditParts objective X Y words left before after
edit_parts Sum X Y words left before after is = record { kept = is.kept; few = is.few }
edit_parts SumMax X Y words left before after is = record { kept = is.kept; few = is.few }
edit_parts SumPair X Y words left before after is = record { kept = is.kept; few = is.few }
edit_parts (Capped cap) X Y words left before after is = record { kept = is.kept; few = is.few }
edit_parts Bottleneck X Y words left before after is = record { kept = is.kept; few = is.few }
edit_parts BottleneckMax X Y words left before after is = record { kept = is.kept; few = is.few }
edit_parts TimeCost X Y words left before after is = record { kept = is.kept; few = is.few }
edit_parts Balanced X Y words left before after is = absurd is
edit_parts Lex X Y words left before after is = absurd is

-- ---- what is answered

abbrev pub AnswerFact : Problem → List (PhaseOf Word) → ℕ → List (Option ℕ) → Proof → Fact
AnswerFact X words unsure choice proof V M difference word_of enter = IsBestIn M difference word_of enter X words unsure choice proof

proves_by : (objective : Objective) (X : Problem) (choice : List (Option ℕ)) (words : List (PhaseOf Word)) (proof : Proof) → IsPhases words proof → ProvesPhases objective X choice words → Proves objective X choice proof
proves_by objective X choice words (Phases phases) same proves = subst (ProvesPhases objective X choice) (sym same) proves
proves_by objective X choice words (Below rows) same proves = absurd same
proves_by objective X choice words (Windows windows) same proves = absurd same
proves_by objective X choice words (Levels perm levels) same proves = absurd same

best_by : {V : Type 0} (M : Monoid V) (difference : V → V → V) (word_of : V → Word) (enter : Cost → V) (objective : Objective) (X : Problem) (words : List (PhaseOf Word)) (unsure : ℕ) (choice : List (Option ℕ)) (proof : Proof)
    → (ProvesFold M difference word_of enter X choice words → ProvesPhases objective X choice words) → IsBestIn M difference word_of enter X words unsure choice proof → IsBestAt objective X words unsure choice proof
best_by M difference word_of enter objective X words unsure choice proof prove is = record {
  proved = record { valid = is.valid; proved = proves_by objective X choice words proof is.phases (prove is.proved) };
  phases = is.phases;
  writable = is.writable;
  all = is.all;
}

pub best_at : (objective : Objective) (X : Problem) (words : List (PhaseOf Word)) (unsure : ℕ) (choice : List (Option ℕ)) (proof : Proof) → InMonoidOf objective (AnswerFact X words unsure choice proof) → IsBestAt objective X words unsure choice proof
best_at Sum X words unsure choice proof is = best_by _ _ _ _ Sum X words unsure choice proof (λ p. p) is
best_at SumMax X words unsure choice proof is = best_by _ _ _ _ SumMax X words unsure choice proof (λ p. p) is
best_at SumPair X words unsure choice proof is = best_by _ _ _ _ SumPair X words unsure choice proof (λ p. p) is
best_at (Capped cap) X words unsure choice proof is = best_by _ _ _ _ (Capped cap) X words unsure choice proof (λ p. p) is
best_at Bottleneck X words unsure choice proof is = best_by _ _ _ _ Bottleneck X words unsure choice proof (λ p. p) is
best_at BottleneckMax X words unsure choice proof is = best_by _ _ _ _ BottleneckMax X words unsure choice proof (λ p. p) is
best_at TimeCost X words unsure choice proof is = best_by _ _ _ _ TimeCost X words unsure choice proof (λ p. p) is
best_at Balanced X words unsure choice proof is = absurd is
best_at Lex X words unsure choice proof is = absurd is

-- ---- outcomes of each kind

pub sum_answer : (objective : Objective) → IsTrue (is_sum_objective objective) → (top : ℕ) → top ≡ top_of objective → (X : Problem) (words : List (PhaseOf Word)) (unsure : ℕ) (outcome : Outcome) → IsAnswerIn (bounded_sums top) bounded_difference plain_word (sum_entered objective) X words unsure outcome → IsAnswerAt objective X words unsure outcome
sum_answer objective is top stops X words unsure (Best choice proof) best = best_at objective X words unsure choice proof (sum_fact objective is top stops (AnswerFact X words unsure choice proof) best)
sum_answer objective is top stops X words unsure (Nothing rows) hall = hall

pub peak_answer : (objective : Objective) → IsTrue (is_bottleneck objective) → (X : Problem) (words : List (PhaseOf Word)) (unsure : ℕ) (outcome : Outcome) → IsAnswerIn maxima maxima_difference plain_word (peak_entered objective) X words unsure outcome → IsAnswerAt objective X words unsure outcome
peak_answer objective is X words unsure (Best choice proof) best = best_at objective X words unsure choice proof (peak_fact objective is (AnswerFact X words unsure choice proof) best)
peak_answer objective is X words unsure (Nothing rows) hall = hall

pub time_answer : (top : ℕ) → top ≡ 2 ^ 120 → (X : Problem) (words : List (PhaseOf Word)) (unsure : ℕ) (outcome : Outcome) → IsAnswerIn (graded (bounded_sums top)) (graded_difference (bounded_sums top) bounded_difference) graded_word time_entered X words unsure outcome → IsAnswerAt TimeCost X words unsure outcome
time_answer top stops X words unsure (Best choice proof) best = best_at TimeCost X words unsure choice proof (time_fact top stops (AnswerFact X words unsure choice proof) best)
time_answer top stops X words unsure (Nothing rows) hall = hall

-- ---- choices of each kind

abbrev ProofFact : Problem → List (PhaseOf Word) → List (Option ℕ) → Fact
ProofFact X words choice V M difference word_of enter = ProvesFold M difference word_of enter X choice words

proves_at : (objective : Objective) (X : Problem) (words : List (PhaseOf Word)) (choice : List (Option ℕ)) → InMonoidOf objective (ProofFact X words choice) → ProvesPhases objective X choice words
proves_at Sum X words choice is = is
proves_at SumMax X words choice is = is
proves_at SumPair X words choice is = is
proves_at (Capped cap) X words choice is = is
proves_at Bottleneck X words choice is = is
proves_at BottleneckMax X words choice is = is
proves_at TimeCost X words choice is = is
proves_at Balanced X words choice is = absurd is
proves_at Lex X words choice is = absurd is

choice_at : (objective : Objective) (X : Problem) (words : List (PhaseOf Word)) (choice : List (Option ℕ)) → IsValid X choice → InMonoidOf objective (ProofFact X words choice) → IsChoiceAt objective X (Some choice)
choice_at objective X words choice valid is = (Phases words, record { valid = valid; proved = proves_at objective X words choice is })

pub sum_choice : (objective : Objective) → IsTrue (is_sum_objective objective) → (top : ℕ) → top ≡ top_of objective → (X : Problem) (words : List (PhaseOf Word)) (choice : Option (List (Option ℕ))) → IsChoiceIn (bounded_sums top) bounded_difference plain_word (sum_entered objective) X words choice → IsChoiceAt objective X choice
sum_choice objective is top stops X words (Some choice) best = choice_at objective X words choice best.0 (sum_fact objective is top stops (ProofFact X words choice) best.1)
sum_choice objective is top stops X words None hall = hall

pub peak_choice : (objective : Objective) → IsTrue (is_bottleneck objective) → (X : Problem) (words : List (PhaseOf Word)) (choice : Option (List (Option ℕ))) → IsChoiceIn maxima maxima_difference plain_word (peak_entered objective) X words choice → IsChoiceAt objective X choice
peak_choice objective is X words (Some choice) best = choice_at objective X words choice best.0 (peak_fact objective is (ProofFact X words choice) best.1)
peak_choice objective is X words None hall = hall

pub time_choice : (top : ℕ) → top ≡ 2 ^ 120 → (X : Problem) (words : List (PhaseOf Word)) (choice : Option (List (Option ℕ))) → IsChoiceIn (graded (bounded_sums top)) (graded_difference (bounded_sums top) bounded_difference) graded_word time_entered X words choice → IsChoiceAt TimeCost X choice
time_choice top stops X words (Some choice) best = choice_at TimeCost X words choice best.0 (time_fact top stops (ProofFact X words choice) best.1)
time_choice top stops X words None hall = hall
