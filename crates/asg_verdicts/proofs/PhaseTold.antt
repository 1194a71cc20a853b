-- What the verdict on phases tells.
use Rattle.asg_verdicts.proofs.Common.{◌≡◌, ℕ, suc, ◌+◌, ◌^◌, ◌<◌, true, ◌≢◌, ◌⊎◌, List, [], ◌∷◌, take, pos, Option, sym, refl, ap, ◌∙◌, subst, inl, inr, arith, fun_ext, Reduced, Problem, square_side, Objective, Sum, SumMax, SumPair, Capped, Bottleneck, BottleneckMax, TimeCost, Cost, bounded_sums, bounded_difference, plain_word, is_sum_objective, top_of, sum_entered, peak_entered, time_entered, choice_fold, Monoid, IsValue, IsOrderedMonoid, Word, StandsFor, StandsFrom, StandsOver, PhaseOf, index_of, Tells, phase_reasons, No, Yes, AreAdmittedFrom, AreReplayed, IsFirstBad, IsStart, HaveIndex, square_cell, cell_at}
use Rattle.asg_order.specs.Words.{HasWords}
use Rattle.asg_model.specs.Objectives.{is_bottleneck}
use Rattle.asg_monoids.specs.Grades.{graded, graded_difference, graded_word}
use Rattle.asg_monoids.specs.Maxima.{maxima, maxima_difference}
use Rattle.asg_proof.specs.laws.PhaseLists.{index_is_value}
use Rattle.asg_verdicts.specs.declared.verdicts.Reason.TheVariants.{BadPhase, IndexDiffers}
use Rattle.asg_verdicts.specs.declared.verdicts.Verdict.{Verdict}
use Rattle.asg_verdicts.specs.PhaseReasons.{HaveIndexBut, IsBadAt}
use Rattle.asg_verdicts.specs.laws.ByObjective.{no_other_from}
use Rattle.asg_replays.specs.laws.PhaseWords.{admitted-take, take-take}
use Rattle.asg_verdicts.specs.laws.Parts.{no_part, stops}
use Rattle.asg_verdicts.specs.laws.ToldReasons.{nowhere, overall}

-- ---- from a square

module _ {V : Type 0} (M : Monoid V) (laws : IsOrderedMonoid M) (difference : V → V → V) (word_of : V → Word) (side : ℕ) (square : ℕ → ℕ → Option V) (value : V) (words : List (PhaseOf Word)) (index : V) (have : HaveIndex M difference word_of side square index words) where
  abbrev AdmittedHere : List (PhaseOf Word) → Type 0
  AdmittedHere = AreAdmittedFrom M difference word_of side square

  none_is_bad : (n : ℕ) → ¬ IsBadAt AdmittedHere words n
  none_is_bad n bad = bad.1 (admitted-take M difference word_of side square (suc n) words have.admitted)

  -- all are admitted, and the index is the value
  proved_from : (value_of : Word → Option V) → HasWords M word_of value_of → index ≡ value → Tells (StandsFrom M difference word_of side square value words) phase_reasons Yes
  proved_from value_of spelled same =
      inr (no_part (IsBadAt AdmittedHere words) none_is_bad, inr (nowhere (no_other_from M difference word_of value_of spelled side square value words have.admitted (have.same ∙ same)), refl))

  -- all are admitted, and the index isn't the value
  differs_from : (index ≢ value) → Tells (StandsFrom M difference word_of side square value words) phase_reasons (No 7 (pos 0))
  differs_from differ =
      let other : HaveIndexBut M difference word_of side square value words = record { admitted = have.admitted; other = λ same. differ (sym have.same ∙ same) } in
      inr (no_part (IsBadAt AdmittedHere words) none_is_bad, inl (overall IndexDiffers other))

  -- the index is a value
  pub index_value : IsValue M index
  index_value = subst (λ i. IsValue M i) have.same (index_is_value M laws difference side have.admitted.phases square have.admitted.admitted)

  -- all are admitted, and the verdict tells whether the index is the value
  pub told_have : (value_of : Word → Option V) → HasWords M word_of value_of → (verdict : Verdict) → ((index ≡ value) × (verdict ≡ Yes)) ⊎ ((index ≢ value) × (verdict ≡ No 7 (pos 0)))
      → Tells (StandsFrom M difference word_of side square value words) phase_reasons verdict
  told_have value_of spelled verdict (inl same) =
      subst (λ v. Tells (StandsFrom M difference word_of side square value words) phase_reasons v) (sym same.1) (proved_from value_of spelled same.0)
  told_have value_of spelled verdict (inr differ) =
      subst (λ v. Tells (StandsFrom M difference word_of side square value words) phase_reasons v) (sym differ.1) (differs_from differ.0)

module _ {V : Type 0} (M : Monoid V) (laws : IsOrderedMonoid M) (difference : V → V → V) (word_of : V → Word) (start : Reduced V) (value : V) (words : List (PhaseOf Word)) where
  abbrev Admitted : List (PhaseOf Word) → Type 0
  Admitted = AreAdmittedFrom M difference word_of start.now.side (cell_at start.now)

  -- the first bad phase
  pub bad_from : (place : ℕ) (verdict : Verdict) → IsFirstBad M difference word_of start.now.side (cell_at start.now) words place → verdict ≡ No 6 (pos (place + 1))
      → Tells (StandsFrom M difference word_of start.now.side (cell_at start.now) value words) phase_reasons verdict
  bad_from place verdict first told =
      let earlier : (m : ℕ) → m < place → ¬ IsBadAt Admitted words m =
      λ m less bad. bad.1 (subst Admitted (take-take (suc m) place words (omega (arith, less)))
      (admitted-take M difference word_of start.now.side (cell_at start.now) (suc m) (take place words) first.before)) in
      stops (StandsFrom M difference word_of start.now.side (cell_at start.now) value words) (IsBadAt Admitted words) BadPhase refl (IndexDiffers ∷ []) verdict place (first.there, first.bad) earlier told

  -- phases that lead from the square, of which no step was taken, to another have its index
  pub replayed_index : start.index ≡ M.unit → (after : Reduced V) → AreReplayed M difference word_of words start after → HaveIndex M difference word_of start.now.side (cell_at start.now) after.index words
  replayed_index is_unit after all = record {
    admitted = record { phases = all.phases; written = all.written; admitted = all.admitted };
    same = sym
        (all.index ∙ ap (λ z. M.product z (index_of M all.phases)) is_unit
        ∙ laws.unit_neutral (index_of M all.phases) (index_is_value M laws difference start.now.side all.phases (cell_at start.now) all.admitted));
  }

  -- then the verdict tells whether it is the value
  pub told_index : start.index ≡ M.unit → (after : Reduced V) → AreReplayed M difference word_of words start after → (value_of : Word → Option V) → HasWords M word_of value_of → (verdict : Verdict)
      → ((after.index ≡ value) × (verdict ≡ Yes)) ⊎ ((after.index ≢ value) × (verdict ≡ No 7 (pos 0))) → Tells (StandsFrom M difference word_of start.now.side (cell_at start.now) value words) phase_reasons verdict
  told_index is_unit after all value_of spelled verdict either = told_have M laws difference word_of start.now.side (cell_at start.now) value words after.index (replayed_index is_unit after all) value_of spelled verdict either

-- ---- over an instance

-- what is told from the square of the instance is told over the instance
pub told_over : {V : Type 0} (M : Monoid V) (difference : V → V → V) (word_of : V → Word) (enter : Cost → V) (X : Problem) (start : Reduced V) (value : V) (choice : List (Option ℕ)) (words : List (PhaseOf Word)) (verdict : Verdict)
    → IsStart M enter X start → value ≡ choice_fold M enter X choice → Tells (StandsFrom M difference word_of start.now.side (cell_at start.now) value words) phase_reasons verdict
    → Tells (StandsOver M difference word_of enter X choice words) phase_reasons verdict
told_over {V} M difference word_of enter X start value choice words verdict at is told =
    let cells : cell_at start.now ≡ square_cell X M.unit enter = fun_ext (λ r. fun_ext (λ k. at.square.cells r k)) in
    subst (λ (z : V). Tells (StandsFrom M difference word_of (square_side X) (square_cell X M.unit enter) z words) phase_reasons verdict) is
    (subst (λ side. Tells (StandsFrom M difference word_of side (square_cell X M.unit enter) value words) phase_reasons verdict) at.square.labels.side
    (subst (λ square. Tells (StandsFrom M difference word_of start.now.side square value words) phase_reasons verdict) cells told))

-- ---- by the objective

module _ (X : Problem) (choice : List (Option ℕ)) (words : List (PhaseOf Word)) (verdict : Verdict) where
  sums_of : (objective : Objective) → is_sum_objective objective ≡ true
      → Tells (StandsOver (bounded_sums (top_of objective)) bounded_difference plain_word (sum_entered objective) X choice words) phase_reasons verdict → Tells (StandsFor objective X choice words) phase_reasons verdict
  sums_of Sum is told = told
  sums_of SumMax is told = told
  sums_of SumPair is told = told
  sums_of (Capped cap) is told = told
  sums_of _ is told = absurd (cc)

  peaks_of : (objective : Objective) → is_bottleneck objective ≡ true
      → Tells (StandsOver maxima maxima_difference plain_word (peak_entered objective) X choice words) phase_reasons verdict → Tells (StandsFor objective X choice words) phase_reasons verdict
  peaks_of Bottleneck is told = told
  peaks_of BottleneckMax is told = told
  peaks_of _ is told = absurd (cc)

  pub told_sums : (objective own : Objective) (top : ℕ) → is_sum_objective own ≡ true → own ≡ objective → top ≡ top_of objective
      → Tells (StandsOver (bounded_sums top) bounded_difference plain_word (sum_entered own) X choice words) phase_reasons verdict → Tells (StandsFor objective X choice words) phase_reasons verdict
  told_sums objective own top is same stops told =
      sums_of objective (ap is_sum_objective (sym same) ∙ is)
      (subst (λ t. Tells (StandsOver (bounded_sums t) bounded_difference plain_word (sum_entered objective) X choice words) phase_reasons verdict) stops
      (subst (λ o. Tells (StandsOver (bounded_sums top) bounded_difference plain_word (sum_entered o) X choice words) phase_reasons verdict) same told))

  pub told_peaks : (objective own : Objective) → is_bottleneck own ≡ true → own ≡ objective
      → Tells (StandsOver maxima maxima_difference plain_word (peak_entered own) X choice words) phase_reasons verdict → Tells (StandsFor objective X choice words) phase_reasons verdict
  told_peaks objective own is same told =
      peaks_of objective (ap is_bottleneck (sym same) ∙ is)
      (subst (λ o. Tells (StandsOver maxima maxima_difference plain_word (peak_entered o) X choice words) phase_reasons verdict) same told)

  pub told_times : (objective : Objective) (top : ℕ) → objective ≡ TimeCost → top ≡ 2 ^ 120
      → Tells (StandsOver (graded (bounded_sums top)) (graded_difference (bounded_sums top) bounded_difference) graded_word time_entered X choice words) phase_reasons verdict → Tells (StandsFor objective X choice words) phase_reasons verdict
  told_times objective top is stops told =
      subst (λ o. Tells (StandsFor o X choice words) phase_reasons verdict) (sym is)
      (subst (λ t. Tells (StandsOver (graded (bounded_sums t)) (graded_difference (bounded_sums t) bounded_difference) graded_word time_entered X choice words) phase_reasons verdict) stops told)
