-- What an edit keeps of the phases of a session, over a monoid.
use Rattle.std.specs.Prelude.{◌≡◌, ℕ, ◌≤◌, List}
use Rattle.asg_model.specs.declared.parts.Cost.{Cost}
use Rattle.asg_model.specs.Problem.{Problem}
use Rattle.asg_monoids.specs.ObjectiveMonoids.{Fact}
use Rattle.asg_order.specs.declared.words.Word.{Word}
use Rattle.asg_order.specs.Monoid.{Monoid}
use Rattle.asg_proof.specs.KeptWords.{KeepsFold}
use Rattle.asg_proof.specs.PhaseProofs.{IsRaised}
use Rattle.asg_proof.specs.Phases.{PhaseOf}

-- the phases that are kept are the longest prefix that is admitted, and where each row was sure of
-- its column, and live cells were raised or removed, at most one isn't
pub record KeepsIn {V : Type 0} (M : Monoid V) (difference : V → V → V) (word_of : V → Word)
    (enter : Cost → V) (X Y : Problem) (words left : List (PhaseOf Word))
    (before after : ℕ) : Type 0 where
  pub kept : KeepsFold M difference word_of enter Y words left
  pub few : IsRaised M enter X Y → before ≡ 0 → after ≤ 1

-- the same as a fact of a monoid
abbrev pub EditFact : Problem → Problem → List (PhaseOf Word) → List (PhaseOf Word) → ℕ → ℕ → Fact
EditFact X Y words left before after V M difference word_of enter =
    KeepsIn M difference word_of enter X Y words left before after
