-- What admitted phases with a choice's fold prove.
use Rattle.asg_table_phases.proofs.Common.{◌≡◌, ℕ, ◌<◌, ◌≤◌, true, List, map, Option, refl, ◌∙◌, ⊎_elim, arith, cases_lt, length-map, admitted_over, words_over, Problem, square_side, Objective, Capped, Sum, SumMax, SumPair, Cost, bounded_sums, bounded_difference, plain_word, is_sum_objective, sum_entered, top_of, PhaseOf, worded, AreAdmittedPhases, index_of, square_cell, AreSized}
use Rattle.std.specs.Prelude.{◌^◌}
use Rattle.asg_table_phases.specs.TableRows.{bound_of}
use Rattle.asg_order.specs.declared.words.Word.{Word}
use Rattle.asg_order.specs.Bridge.{choice_fold}
use Rattle.asg_proof.specs.FoldProofs.{ProvesFold, ProvesPhases}
use Rattle.asg_proof.specs.PromisedProofs.{AreFewPhases}

-- what is proved by sums that stop where those of the objective do is proved of the objective
proved : (objective : Objective) → is_sum_objective objective ≡ true → (X : Problem) (choice : List (Option ℕ)) (words : List (PhaseOf Word)) → ProvesFold (bounded_sums (top_of objective)) bounded_difference plain_word (sum_entered objective) X choice words → ProvesPhases objective X choice words
proved Sum e X choice words proof = proof
proved SumMax e X choice words proof = proof
proved SumPair e X choice words proof = proof
proved (Capped cap) e X choice words proof = proof
proved _ e X choice words proof = absurd (cc)

-- sums are looked at up to 2^120 at most
pub bound_small : (objective : Objective) → bound_of objective ≤ 2 ^ 120
bound_small SumPair = omega arith
bound_small _ = omega arith

-- admitted phases of 1 to side steps, as words
pub few_phases : (top side : ℕ) (phases : List (PhaseOf ℕ)) (square : ℕ → ℕ → Option ℕ) → AreAdmittedPhases (bounded_sums top) bounded_difference side phases square → AreSized side phases → AreFewPhases side (map (worded plain_word) phases)
few_phases top side phases square all sizes = record {
  few = omega (arith, sizes.few, length-map phases (worded plain_word));
  each = words_over plain_word side phases
      (admitted_over (bounded_sums top) bounded_difference side phases square all
      (λ k d below. let size = sizes.each k d below in (size.some, size.few)));
}

-- what the lesser tops law says of folds
abbrev pub FoldsByLesser : Type 0
FoldsByLesser =
    (low high : ℕ) (word_of : ℕ → Word) (enter : Cost → ℕ) (X : Problem) (choice : List (Option ℕ)) (phases : List (PhaseOf ℕ))
    → low < high
    → index_of (bounded_sums high) phases ≤ low
    → index_of (bounded_sums high) phases ≡ choice_fold (bounded_sums low) enter X choice
    → AreAdmittedPhases (bounded_sums high) bounded_difference (square_side X) phases (square_cell X 0 enter)
    → ProvesFold (bounded_sums low) bounded_difference word_of enter X choice (map (worded word_of) phases)

-- phases that are admitted by sums that stop at a bound or above, whose index is the fold of a choice
pub proves_choice : FoldsByLesser → (bound : ℕ) (objective : Objective) → is_sum_objective objective ≡ true → (X : Problem) (choice : List (Option ℕ)) (phases : List (PhaseOf ℕ)) (sum : ℕ)
    → ((top : ℕ) → bound ≤ top → AreAdmittedPhases (bounded_sums top) bounded_difference (square_side X) phases (square_cell X 0 (sum_entered objective)))
    → ((top : ℕ) → bound ≤ top → index_of (bounded_sums top) phases ≡ sum)
    → sum ≤ top_of objective
    → sum ≡ choice_fold (bounded_sums (top_of objective)) (sum_entered objective) X choice
    → ProvesPhases objective X choice (map (worded plain_word) phases)
proves_choice lesser bound objective e X choice phases sum admitted index few is =
    let at : index_of (bounded_sums bound) phases ≡ sum = index bound (omega arith) in
    proved objective e X choice (map (worded plain_word) phases)
    (⊎_elim
    (λ (below : top_of objective < bound).
    lesser (top_of objective) bound plain_word (sum_entered objective) X choice phases below (omega (arith, at, few)) (at ∙ is) (admitted bound (omega arith)))
    (λ (above : bound ≤ top_of objective). record {
      phases = phases;
      written = refl;
      proved = record { admitted = admitted (top_of objective) above; index = index (top_of objective) above ∙ is };
    })
    (cases_lt (top_of objective) bound))
