-- Lists of phases of one grade prove outcomes of `time-cost`.
use Rattle.asg_objectives.proofs.Common.{◌≡◌, ℕ, ◌^◌, ◌≤◌, List, length, All, Option, sym, ◌∙◌, subst, arith, LeadTo, Problem, square_side, bounded_sums, bounded_difference, time_entered, graded, graded_difference, choice_fold, Monoid, Word, ProvesTime, PhaseOf, AreAdmittedPhases, AreFewPhases, IsPhaseOver, square_cell, Grid, IsSquareOf, cell_at}

abbrev Sums : Monoid ℕ
Sums = bounded_sums (2 ^ 120)

abbrev Times : Monoid (ℕ × ℕ)
Times = graded Sums

abbrev less : ℕ × ℕ → ℕ × ℕ → ℕ × ℕ
less = graded_difference Sums bounded_difference

module _ (X : Problem) (Q : Grid (ℕ × ℕ)) (square : IsSquareOf X (0, 0) time_entered Q) (words : List (PhaseOf Word)) (index : ℕ × ℕ) (lead : LeadTo (2 ^ 120) Q.side (cell_at Q) words index)
  where
    admitted : AreAdmittedPhases Times less (square_side X) lead.have.admitted.phases (square_cell X (0, 0) time_entered)
    admitted =
        subst (λ n. AreAdmittedPhases Times less n lead.have.admitted.phases (square_cell X (0, 0) time_entered)) square.labels.side
        (subst (AreAdmittedPhases Times less Q.side lead.have.admitted.phases) (λ i r k. square.cells r k i) lead.have.admitted.admitted)

    -- the words prove the fold of a choice that is their index
    pub list_proves : (choice : List (Option ℕ)) → choice_fold Times time_entered X choice ≡ index → ProvesTime X choice words
    list_proves choice fold = record {
      phases = lead.have.admitted.phases;
      written = lead.have.admitted.written;
      proved = record { admitted = admitted; index = lead.have.same ∙ sym fold };
    }

    -- and these are few
    pub list_few : length words ≤ Q.side → AreFewPhases (square_side X) words
    list_few few = record {
      few = omega (arith, few, square.labels.side);
      each = subst (λ n. All (IsPhaseOver n) words) square.labels.side lead.sizes;
    }
