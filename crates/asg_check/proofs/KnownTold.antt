-- What is told of phases that are known to be admitted.
use Rattle.asg_check.proofs.Common.{◌≡◌, ℕ, suc, true, List, [], Option, inr, refl, sym, ap, ◌∙◌, subst, Objective, Sum, SumMax, SumPair, Capped, Bottleneck, BottleneckMax, TimeCost, Problem, Tells, phase_reasons, Yes, no_part, nowhere, StandsFor, Best, Phases, Form}
use Rattle.std.specs.Prelude.{◌^◌}
use Rattle.asg_admit.specs.laws.PhaseValues.{admitted_values}
use Rattle.asg_check.specs.Certifies.{Certifies, CertifiesClaim}
use Rattle.asg_check.specs.KnownPhases.{AreKnown, HaveTheIndex, phases_of_claim, phases_of_proof}
use Rattle.asg_doc.specs.declared.documents.Claim.{Claim}
use Rattle.asg_doc.specs.declared.documents.Claim.TheVariants.{Nothing, Ranked}
use Rattle.asg_doc.specs.declared.documents.Document.{Document}
use Rattle.asg_model.specs.Objectives.{is_bottleneck}
use Rattle.asg_model.specs.Shapes.{square_side}
use Rattle.asg_model.specs.declared.parts.Cost.{Cost}
use Rattle.asg_monoids.specs.BoundedSums.{bounded_difference, bounded_sums, plain_word}
use Rattle.asg_monoids.specs.Entered.{is_sum_objective, peak_entered, sum_entered, time_entered, top_of}
use Rattle.asg_monoids.specs.Grades.{graded, graded_difference, graded_word}
use Rattle.asg_monoids.specs.Maxima.{maxima, maxima_difference}
use Rattle.asg_order.specs.Bridge.{choice_fold}
use Rattle.asg_order.specs.Monoid.{Monoid}
use Rattle.asg_order.specs.declared.words.Word.{Word}
use Rattle.asg_proof.specs.FoldProofs.{ProvesFold, ProvesPhases}
use Rattle.asg_proof.specs.Phases.{PhaseOf}
use Rattle.asg_proof.specs.Proves.{Proves}
use Rattle.asg_proof.specs.declared.outcomes.Proof.{Proof}
use Rattle.asg_proof.specs.declared.outcomes.Proof.TheVariants.{Below, Levels, Windows}
use Rattle.asg_square.specs.Cells.{square_cell}
use Rattle.asg_verdicts.specs.PhaseReasons.{AreAdmitted, AreAdmittedFor, IsBadAt}
use Rattle.asg_verdicts.specs.laws.ByObjective.{admitted_for, none_admitted, one_index_for, take_for}

-- admitted phases whose index is the fold of a choice prove it
pub proves_index : {V : Type 0} (M : Monoid V) (difference : V → V → V) (word_of : V → Word) (enter : Cost → V) (X : Problem) (choice : List (Option ℕ)) (words : List (PhaseOf Word)) (index : V) → HaveTheIndex M word_of index words → index ≡ choice_fold M enter X choice → AreAdmitted M difference word_of enter X words → ProvesFold M difference word_of enter X choice words
proves_index M difference word_of enter X choice words index have is a = record {
  phases = a.phases;
  written = a.written;
  proved = record {
    admitted = a.admitted;
    index = have a.phases (admitted_values M difference (square_side X) a.phases (square_cell X M.unit enter) a.admitted) a.written ∙ is;
  };
}

-- nothing stands against phases that prove the choice
pub proves_told : (objective : Objective) (X : Problem) (choice : List (Option ℕ)) (words : List (PhaseOf Word)) → ProvesPhases objective X choice words → Tells (StandsFor objective X choice words) phase_reasons Yes
proves_told objective X choice words proves =
    let admitted = admitted_for objective X words choice proves in
    inr (no_part (IsBadAt (AreAdmittedFor objective X) words) (λ n bad. bad.1 (take_for objective X words (suc n) admitted)), inr (nowhere (one_index_for objective X words choice proves), refl))

-- no phases are known of each instance
pub none_known : (objective : Objective) (X : Problem) → AreKnown objective X []
none_known objective X is = none_admitted objective X is

-- the phases of a document that certifies are known
pub certified_known : (objective : Objective) (X : Problem) (form : Form) (document : Document) → Certifies objective X form document → AreKnown objective X (phases_of_claim document.claim)
certified_known objective X form document certifies = by document.claim certifies.claim
  where
    by_proof : (proof : Proof) (choice : List (Option ℕ)) → Proves objective X choice proof → AreKnown objective X (phases_of_proof proof)
    by_proof (Phases words) choice proves is = admitted_for objective X words choice proves
    by_proof (Below rows) choice proves is = none_admitted objective X is
    by_proof (Windows windows) choice proves is = none_admitted objective X is
    by_proof (Levels perm levels) choice proves is = none_admitted objective X is

    by : (claim : Claim) → CertifiesClaim objective X claim → AreKnown objective X (phases_of_claim claim)
    by (Best answer proof) one is = by_proof proof one.choice one.proved is
    by (Nothing rows) one is = none_admitted objective X is
    by (Ranked count answers nodes) one is = none_admitted objective X is

-- what is proved over the monoid of a kind, for the objective
module _ (X : Problem) (choice : List (Option ℕ)) (words : List (PhaseOf Word)) where
  abbrev Proved : {V : Type 0} → Monoid V → (V → V → V) → (V → Word) → (Cost → V) → Type 0
  Proved M difference word_of enter = AreAdmitted M difference word_of enter X words → ProvesFold M difference word_of enter X choice words

  sums_of : (objective : Objective) → is_sum_objective objective ≡ true → Proved (bounded_sums (top_of objective)) bounded_difference plain_word (sum_entered objective) → AreAdmittedFor objective X words → ProvesPhases objective X choice words
  sums_of Sum is proved = proved
  sums_of SumMax is proved = proved
  sums_of SumPair is proved = proved
  sums_of (Capped cap) is proved = proved
  sums_of _ is proved = absurd (cc)

  peaks_of : (objective : Objective) → is_bottleneck objective ≡ true → Proved maxima maxima_difference plain_word (peak_entered objective) → AreAdmittedFor objective X words → ProvesPhases objective X choice words
  peaks_of Bottleneck is proved = proved
  peaks_of BottleneckMax is proved = proved
  peaks_of _ is proved = absurd (cc)

  pub sums_proved : (objective own : Objective) (top : ℕ) → is_sum_objective own ≡ true → own ≡ objective → top ≡ top_of objective → Proved (bounded_sums top) bounded_difference plain_word (sum_entered own) → AreAdmittedFor objective X words → ProvesPhases objective X choice words
  sums_proved objective own top is same stops proved =
      sums_of objective (ap is_sum_objective (sym same) ∙ is)
      (subst (λ t. Proved (bounded_sums t) bounded_difference plain_word (sum_entered objective)) stops
      (subst (λ o. Proved (bounded_sums top) bounded_difference plain_word (sum_entered o)) same proved))

  pub peaks_proved : (objective own : Objective) → is_bottleneck own ≡ true → own ≡ objective → Proved maxima maxima_difference plain_word (peak_entered own) → AreAdmittedFor objective X words → ProvesPhases objective X choice words
  peaks_proved objective own is same proved =
      peaks_of objective (ap is_bottleneck (sym same) ∙ is)
      (subst (λ o. Proved maxima maxima_difference plain_word (peak_entered o)) same proved)

  pub times_proved : (objective : Objective) (top : ℕ) → objective ≡ TimeCost → top ≡ 2 ^ 120 → Proved (graded (bounded_sums top)) (graded_difference (bounded_sums top) bounded_difference) graded_word time_entered → AreAdmittedFor objective X words → ProvesPhases objective X choice words
  times_proved objective top is stops proved =
      subst (λ o. AreAdmittedFor o X words → ProvesPhases o X choice words) (sym is)
      (subst (λ t. Proved (graded (bounded_sums t)) (graded_difference (bounded_sums t) bounded_difference) graded_word time_entered) stops proved)

-- what stays admitted over the monoid of a kind stays known for the objective
module _ (X Y : Problem) (words : List (PhaseOf Word)) where
  abbrev Stay : {V : Type 0} → Monoid V → (V → V → V) → (V → Word) → (Cost → V) → Type 0
  Stay M difference word_of enter = AreAdmitted M difference word_of enter X words → AreAdmitted M difference word_of enter Y words

  sums_go : (objective : Objective) → is_sum_objective objective ≡ true → Stay (bounded_sums (top_of objective)) bounded_difference plain_word (sum_entered objective) → AreKnown objective X words → AreKnown objective Y words
  sums_go Sum is stay known of = stay (known of)
  sums_go SumMax is stay known of = stay (known of)
  sums_go SumPair is stay known of = stay (known of)
  sums_go (Capped cap) is stay known of = stay (known of)
  sums_go _ is stay known of = absurd (cc)

  peaks_go : (objective : Objective) → is_bottleneck objective ≡ true → Stay maxima maxima_difference plain_word (peak_entered objective) → AreKnown objective X words → AreKnown objective Y words
  peaks_go Bottleneck is stay known of = stay (known of)
  peaks_go BottleneckMax is stay known of = stay (known of)
  peaks_go _ is stay known of = absurd (cc)

  pub sums_stay : (objective own : Objective) (top : ℕ) → is_sum_objective own ≡ true → own ≡ objective → top ≡ top_of objective → Stay (bounded_sums top) bounded_difference plain_word (sum_entered own) → AreKnown objective X words → AreKnown objective Y words
  sums_stay objective own top is same stops stay =
      sums_go objective (ap is_sum_objective (sym same) ∙ is)
      (subst (λ t. Stay (bounded_sums t) bounded_difference plain_word (sum_entered objective)) stops
      (subst (λ o. Stay (bounded_sums top) bounded_difference plain_word (sum_entered o)) same stay))

  pub peaks_stay : (objective own : Objective) → is_bottleneck own ≡ true → own ≡ objective → Stay maxima maxima_difference plain_word (peak_entered own) → AreKnown objective X words → AreKnown objective Y words
  peaks_stay objective own is same stay =
      peaks_go objective (ap is_bottleneck (sym same) ∙ is)
      (subst (λ o. Stay maxima maxima_difference plain_word (peak_entered o)) same stay)

  pub times_stay : (objective : Objective) (top : ℕ) → objective ≡ TimeCost → top ≡ 2 ^ 120 → Stay (graded (bounded_sums top)) (graded_difference (bounded_sums top) bounded_difference) graded_word time_entered → AreKnown objective X words → AreKnown objective Y words
  times_stay objective top is stops stay =
      subst (λ o. AreKnown o X words → AreKnown o Y words) (sym is)
      (λ known of. subst (λ t. Stay (graded (bounded_sums t)) (graded_difference (bounded_sums t) bounded_difference) graded_word time_entered) stops stay (known of))
