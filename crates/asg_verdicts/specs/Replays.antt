-- What stands against phases that are replayed.
use Rattle.std.specs.Prelude.{ℕ, List, Option}
use Rattle.asg_model.specs.declared.objectives.Objective.{Objective}
use Rattle.asg_model.specs.declared.parts.Cost.{Cost}
use Rattle.asg_model.specs.Problem.{Problem}
use Rattle.asg_model.specs.Shapes.{square_side}
use Rattle.asg_order.specs.declared.words.Word.{Word}
use Rattle.asg_order.specs.Bridge.{choice_fold}
use Rattle.asg_order.specs.Monoid.{Monoid}
use Rattle.asg_proof.specs.Phases.{PhaseOf}
use Rattle.asg_square.specs.Cells.{square_cell}
use Rattle.asg_replays.specs.Replays.{AreAdmittedFrom}
use Rattle.asg_verdicts.specs.declared.verdicts.Reason.{Reason}
use Rattle.asg_verdicts.specs.declared.verdicts.Reason.TheVariants.{BadPhase, IndexDiffers}
use Rattle.asg_verdicts.specs.PhaseReasons.{AreAdmittedFor, HaveIndexBut, HaveOtherIndexFor, IsBadAt}
use Rattle.asg_verdicts.specs.Spots.{AtParts, ForWhole, Spot}

-- what stands against phases that are to be admitted from a square and to have this index
abbrev pub StandsFrom : {V : Type 0} → Monoid V → (V → V → V) → (V → Word) → ℕ
    → (ℕ → ℕ → Option V) → V → List (PhaseOf Word) → Reason → Spot → Type 0
StandsFrom M difference word_of side square value words BadPhase =
    AtParts (IsBadAt (AreAdmittedFrom M difference word_of side square) words)
StandsFrom M difference word_of side square value words IndexDiffers =
    ForWhole (HaveIndexBut M difference word_of side square value words)
StandsFrom M difference word_of side square value words reason = λ spot. ⊥

-- what stands against the phases for a choice, over a monoid
abbrev pub StandsOver : {V : Type 0} → Monoid V → (V → V → V) → (V → Word) → (Cost → V) → Problem
    → List (Option ℕ) → List (PhaseOf Word) → Reason → Spot → Type 0
StandsOver M difference word_of enter X choice words =
    StandsFrom M difference word_of (square_side X) (square_cell X M.unit enter)
    (choice_fold M enter X choice) words

-- the same over the monoid of an objective
abbrev pub StandsFor : Objective → Problem → List (Option ℕ) → List (PhaseOf Word)
    → Reason → Spot → Type 0
StandsFor objective X choice words BadPhase =
    AtParts (IsBadAt (AreAdmittedFor objective X) words)
StandsFor objective X choice words IndexDiffers =
    ForWhole (HaveOtherIndexFor objective X choice words)
StandsFor objective X choice words reason = λ spot. ⊥
