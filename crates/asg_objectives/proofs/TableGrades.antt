-- Phases of one grade that are admitted from the square of an instance prove outcomes of `time-cost`.
use Rattle.asg_objectives.proofs.Common.{◌≡◌, ℕ, ◌^◌, ◌≤◌, List, length, Option, sym, ◌∙◌, LeadTo, Problem, square_side, bounded_sums, time_entered, graded, choice_fold, Word, ProvesTime, PhaseOf, AreFewPhases, square_cell}

module _ (X : Problem) (words : List (PhaseOf Word)) (index : ℕ × ℕ) (lead : LeadTo (2 ^ 120) (square_side X) (square_cell X (0, 0) time_entered) words index) where
  -- the words prove the fold of a choice that is their index
  pub lead_proves : (choice : List (Option ℕ)) → choice_fold (graded (bounded_sums (2 ^ 120))) time_entered X choice ≡ index → ProvesTime X choice words
  lead_proves choice fold = record {
    phases = lead.have.admitted.phases;
    written = lead.have.admitted.written;
    proved = record { admitted = lead.have.admitted.admitted; index = lead.have.same ∙ sym fold };
  }

  -- and these are few
  pub lead_few : length words ≤ square_side X → AreFewPhases (square_side X) words
  lead_few few = record { few = few; each = lead.sizes }
