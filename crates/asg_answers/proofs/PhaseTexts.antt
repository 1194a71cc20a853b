-- The phases that prove a choice can be written.
use Rattle.asg_answers.proofs.Common.{ℕ, ◌^◌, ◌<◌, ◌≤◌, Bool, true, false, List, map, length, get_or, nat_lt, nat_le, All, Option, refl, subst, arith, ltb-true, leb-true, All-map, and_parts, admitted_values, HasStepText, HavePhaseText, HasWord, has_grades, most_side, Problem, Objective, Sum, SumMax, SumPair, Capped, Bottleneck, BottleneckMax, TimeCost, Balanced, Lex, Cost, Monoid, IsValue, Word, ProvesFold, ProvesPhases, ArePhases, PhaseOf, worded, AreFewPhases, IsPhaseOver}
use Rattle.asg_monoids.specs.BoundedSums.{bounded_sums, plain_word}
use Rattle.asg_monoids.specs.Grades.{graded, graded_word}
use Rattle.asg_monoids.specs.Maxima.{maxima}

-- each step of the words can be written
abbrev pub HaveStepTexts : Bool → List (PhaseOf Word) → Type 0
HaveStepTexts grades words = All (λ phase. All (HasStepText grades) phase.steps) words

-- where each value can be written, so can the steps of phases that prove a fold
fold_texts : {V : Type 0} (M : Monoid V) (difference : V → V → V) (word_of : V → Word) (enter : Cost → V) (grades : Bool) → ((x : V) → IsValue M x → HasStepText grades (word_of x))
    → (X : Problem) (choice : List (Option ℕ)) (words : List (PhaseOf Word)) → ProvesFold M difference word_of enter X choice words → HaveStepTexts grades words
fold_texts {V = V} M difference word_of enter grades texts X choice words proves = subst (HaveStepTexts grades) proves.written all
  where
    values : All (λ phase. All (IsValue M) phase.steps) proves.phases
    values = admitted_values M difference _ proves.phases _ proves.proved.admitted

    one : (phase : PhaseOf V) → All (IsValue M) phase.steps → All (HasStepText grades) (worded word_of phase).steps
    one phase are = All-map (HasStepText grades) word_of phase.steps (λ t d within. texts (get_or phase.steps t d) (are t d within))

    all : HaveStepTexts grades (map (worded word_of) proves.phases)
    all = All-map (λ (p : PhaseOf Word). All (HasStepText grades) p.steps) (worded word_of) proves.phases (λ k d within. one (get_or proves.phases k d) (values k d within))

-- numbers up to a top that is no greater than 2^120, and those below 2^64
pub sum_text : (top : ℕ) → top ≤ 2 ^ 120 → (x : ℕ) → IsValue (bounded_sums top) x → HasStepText false (plain_word x)
sum_text top few x value = (refl, omega (arith, leb-true x top value, few))

pub peak_text : (x : ℕ) → IsValue maxima x → HasStepText false (plain_word x)
peak_text x value = (refl, omega (arith, ltb-true x (2 ^ 64) value))

pub time_text : (x : ℕ × ℕ) → IsValue (graded (bounded_sums (2 ^ 120))) x → HasStepText true (graded_word x)
time_text x value =
    let parts = and_parts (nat_lt x.0 (2 ^ 64)) (nat_le x.1 (2 ^ 120)) value in
    (omega (arith, ltb-true x.0 (2 ^ 64) parts.0), omega (arith, leb-true x.1 (2 ^ 120) parts.1))

-- the steps of phases that prove a choice can be written for the objective
pub HaveStepTexts-proved : (objective : Objective) (X : Problem) (choice : List (Option ℕ)) (words : List (PhaseOf Word)) → HasWord objective → ProvesPhases objective X choice words
    → HaveStepTexts (has_grades objective) words
HaveStepTexts-proved Sum X choice words word proves = fold_texts _ _ _ _ false (sum_text (2 ^ 120) (omega arith)) X choice words proves
HaveStepTexts-proved SumMax X choice words word proves = fold_texts _ _ _ _ false (sum_text (2 ^ 120) (omega arith)) X choice words proves
HaveStepTexts-proved SumPair X choice words word proves = fold_texts _ _ _ _ false (sum_text (2 ^ 120) (omega arith)) X choice words proves
HaveStepTexts-proved (Capped cap) X choice words word proves = fold_texts _ _ _ _ false (sum_text cap (omega (arith, word.1))) X choice words proves
HaveStepTexts-proved Bottleneck X choice words word proves = fold_texts _ _ _ _ false peak_text X choice words proves
HaveStepTexts-proved BottleneckMax X choice words word proves = fold_texts _ _ _ _ false peak_text X choice words proves
HaveStepTexts-proved TimeCost X choice words word proves = fold_texts _ _ _ _ true time_text X choice words proves
HaveStepTexts-proved Balanced X choice words word proves = absurd proves
HaveStepTexts-proved Lex X choice words word proves = absurd proves

-- phases over a side that can be counted and whose steps can be written can be written
pub HavePhaseText-over : (grades : Bool) (side : ℕ) (words : List (PhaseOf Word)) → length words < 2 ^ 32 → All (IsPhaseOver side) words → ArePhases words → HaveStepTexts grades words → HavePhaseText grades words
HavePhaseText-over grades side words few each are texts = record {
  few = few;
  each = λ k d below.
      let over = each k d below in
      let kept = are k d below in
      record {
        steps = record { some = over.some; each = texts k d below };
        enters = record { some = omega (arith, over.enters, over.some, over.few); ids = kept.enters_below };
        leaves = record { some = omega (arith, over.leaves, over.some, over.few); ids = kept.leaves_below };
      };
}

-- so can few phases
pub HavePhaseText-few : (grades : Bool) (side : ℕ) (words : List (PhaseOf Word)) → side ≤ most_side → AreFewPhases side words → ArePhases words → HaveStepTexts grades words → HavePhaseText grades words
HavePhaseText-few grades side words within few are texts = HavePhaseText-over grades side words (omega (arith, few.few, within)) few.each are texts
