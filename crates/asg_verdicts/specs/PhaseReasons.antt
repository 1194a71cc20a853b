-- What stands against phases: one of them is bad, or their index is another value than a choice's
-- fold.
use Rattle.std.specs.Prelude.{◌≢◌, ℕ, suc, ◌<◌, List, length, take, Option}
use Rattle.asg_model.specs.declared.objectives.Objective.{Objective}
use Rattle.asg_model.specs.declared.parts.Cost.{Cost}
use Rattle.asg_model.specs.Problem.{Problem}
use Rattle.asg_model.specs.Shapes.{square_side}
use Rattle.asg_order.specs.declared.words.Word.{Word}
use Rattle.asg_order.specs.Bridge.{choice_fold}
use Rattle.asg_order.specs.Monoid.{Monoid}
use Rattle.asg_monoids.specs.ObjectiveMonoids.{InMonoidOf}
use Rattle.asg_square.specs.Cells.{square_cell}
use Rattle.asg_proof.specs.Phases.{PhaseOf, index_of}
use Rattle.asg_replays.specs.Replays.{AreAdmittedFrom}

-- the phases are admitted in turn from the square of the instance
abbrev pub AreAdmitted : {V : Type 0} → Monoid V → (V → V → V) → (V → Word) → (Cost → V) → Problem
    → List (PhaseOf Word) → Type 0
AreAdmitted M difference word_of enter X words =
    AreAdmittedFrom M difference word_of (square_side X) (square_cell X M.unit enter) words

-- the phases are admitted in turn from a square, and their index is another value than this
pub record HaveIndexBut {V : Type 0} (M : Monoid V) (difference : V → V → V) (word_of : V → Word)
    (side : ℕ) (square : ℕ → ℕ → Option V) (value : V) (words : List (PhaseOf Word)) : Type 0 where
  pub admitted : AreAdmittedFrom M difference word_of side square words
  pub other : index_of M admitted.phases ≢ value

-- the phases are admitted from the square of the instance, and their index is another value than
-- the fold of the choice
abbrev pub HaveOtherIndex : {V : Type 0} → Monoid V → (V → V → V) → (V → Word) → (Cost → V)
    → Problem → List (Option ℕ) → List (PhaseOf Word) → Type 0
HaveOtherIndex M difference word_of enter X choice words =
    HaveIndexBut M difference word_of (square_side X) (square_cell X M.unit enter)
    (choice_fold M enter X choice) words

-- the phases are admitted for the objective
abbrev pub AreAdmittedFor : Objective → Problem → List (PhaseOf Word) → Type 0
AreAdmittedFor objective X words =
    InMonoidOf objective
    (λ V M difference word_of enter. AreAdmitted M difference word_of enter X words)

-- the phases are admitted for the objective, and their index is another value than the choice's
-- fold
abbrev pub HaveOtherIndexFor : Objective → Problem → List (Option ℕ) → List (PhaseOf Word) → Type 0
HaveOtherIndexFor objective X choice words =
    InMonoidOf objective
    (λ V M difference word_of enter. HaveOtherIndex M difference word_of enter X choice words)

-- the phase at this place of the list is there, and those up to it aren't admitted
abbrev pub IsBadAt : (List (PhaseOf Word) → Type 0) → List (PhaseOf Word) → ℕ → Type 0
IsBadAt Admitted words n = (n < length words) × (Admitted (take (suc n) words) → ⊥)
