-- What the solver of an algebraic objective gives.
use Rattle.std.specs.Prelude.{ℕ, List, Option}
use Rattle.asg_model.specs.declared.bands.Band.TheVariants.{Whole}
use Rattle.asg_model.specs.declared.parts.Cost.{Cost}
use Rattle.asg_model.specs.HallSet.{IsHall}
use Rattle.asg_model.specs.Problem.{Problem}
use Rattle.asg_model.specs.ValidChoice.{IsValid}
use Rattle.asg_order.specs.declared.words.Word.{Word}
use Rattle.asg_order.specs.Monoid.{Monoid}
use Rattle.asg_proof.specs.declared.outcomes.Outcome.{Outcome}
use Rattle.asg_proof.specs.declared.outcomes.Outcome.TheVariants.{Best, Nothing}
use Rattle.asg_proof.specs.declared.outcomes.Proof.{Proof}
use Rattle.asg_proof.specs.declared.outcomes.Proof.TheVariants.{Phases}
use Rattle.asg_proof.specs.FoldProofs.{ProvesFold}

-- phases prove the fold of the choice in the monoid; a proof of another kind doesn't
abbrev pub ProvesFoldBy : {V : Type 0} → Monoid V → (V → V → V) → (V → Word) → (Cost → V) → Problem
    → List (Option ℕ) → Proof → Type 0
ProvesFoldBy M difference word_of enter X choice (Phases words) =
    ProvesFold M difference word_of enter X choice words
ProvesFoldBy M difference word_of enter X choice _ = ⊥

-- a valid choice with phases that prove its fold in the monoid
pub record IsFoldBest {V : Type 0} (M : Monoid V) (difference : V → V → V) (word_of : V → Word)
    (enter : Cost → V) (X : Problem) (choice : List (Option ℕ)) (proof : Proof) : Type 0 where
  pub valid : IsValid X choice
  pub proved : ProvesFoldBy M difference word_of enter X choice proof

-- a valid choice with phases that prove its fold, or a Hall set of the whole instance
abbrev pub IsFoldOutcome : {V : Type 0} → Monoid V → (V → V → V) → (V → Word) → (Cost → V) → Problem
    → Outcome → Type 0
IsFoldOutcome M difference word_of enter X (Best choice proof) =
    IsFoldBest M difference word_of enter X choice proof
IsFoldOutcome M difference word_of enter X (Nothing rows) = IsHall X Whole rows
