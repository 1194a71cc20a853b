-- What a session answers, over a monoid and by the objective.
use Rattle.std.specs.Prelude.{◌≡◌, ℕ, ◌<◌, ◌^◌, All, List, Option, Some, None, length}
use Rattle.asg_model.specs.declared.bands.Band.TheVariants.{Whole}
use Rattle.asg_model.specs.declared.objectives.Objective.{Objective}
use Rattle.asg_model.specs.declared.parts.Cost.{Cost}
use Rattle.asg_model.specs.HallSet.{IsHall}
use Rattle.asg_model.specs.Problem.{Problem}
use Rattle.asg_model.specs.Shapes.{square_side}
use Rattle.asg_model.specs.ValidChoice.{IsValid}
use Rattle.asg_order.specs.declared.words.Word.{Word}
use Rattle.asg_order.specs.Monoid.{Monoid}
use Rattle.asg_proof.specs.FoldProofs.{ProvesFold}
use Rattle.asg_proof.specs.Outcomes.{IsProvedBest}
use Rattle.asg_proof.specs.Phases.{PhaseOf}
use Rattle.asg_proof.specs.PromisedProofs.{IsPhaseOver}
use Rattle.asg_proof.specs.declared.outcomes.Outcome.{Outcome}
use Rattle.asg_proof.specs.declared.outcomes.Outcome.TheVariants.{Best, Nothing}
use Rattle.asg_proof.specs.declared.outcomes.Proof.{Proof}
use Rattle.asg_proof.specs.declared.outcomes.Proof.TheVariants.{Phases}

-- phases that can be written: they can be counted in 32 bits, and each has 1 to side steps
pub record AreWritable (side : ℕ) (words : List (PhaseOf Word)) : Type 0 where
  pub few : length words < 2 ^ 32
  pub each : All (IsPhaseOver side) words

-- the proof is these phases
abbrev pub IsPhases : List (PhaseOf Word) → Proof → Type 0
IsPhases words (Phases phases) = phases ≡ words
IsPhases words _ = ⊥

-- over a monoid: a valid choice, whose fold the phases prove
pub record IsBestIn {V : Type 0} (M : Monoid V) (difference : V → V → V) (word_of : V → Word)
    (enter : Cost → V) (X : Problem) (words : List (PhaseOf Word)) (unsure : ℕ)
    (choice : List (Option ℕ)) (proof : Proof) : Type 0 where
  pub valid : IsValid X choice
  pub proved : ProvesFold M difference word_of enter X choice words
  pub phases : IsPhases words proof
  pub writable : AreWritable (square_side X) words
  pub all : unsure ≡ 0

-- what is answered over a monoid: a best choice with the phases, where each row has a column, or a
-- Hall set of the whole instance
abbrev pub IsAnswerIn : {V : Type 0} → Monoid V → (V → V → V) → (V → Word) → (Cost → V)
    → Problem → List (PhaseOf Word) → ℕ → Outcome → Type 0
IsAnswerIn M difference word_of enter X words unsure (Best choice proof) =
    IsBestIn M difference word_of enter X words unsure choice proof
IsAnswerIn M difference word_of enter X words unsure (Nothing rows) = IsHall X Whole rows

-- the same by the objective: a choice that is proved best by the phases
pub record IsBestAt (objective : Objective) (X : Problem) (words : List (PhaseOf Word)) (unsure : ℕ)
    (choice : List (Option ℕ)) (proof : Proof) : Type 0 where
  pub proved : IsProvedBest objective X choice proof
  pub phases : IsPhases words proof
  pub writable : AreWritable (square_side X) words
  pub all : unsure ≡ 0

abbrev pub IsAnswerAt : Objective → Problem → List (PhaseOf Word) → ℕ → Outcome → Type 0
IsAnswerAt objective X words unsure (Best choice proof) =
    IsBestAt objective X words unsure choice proof
IsAnswerAt objective X words unsure (Nothing rows) = IsHall X Whole rows

-- a choice alone over a monoid: it is valid, and phases prove its fold; or there is none, and rows
-- are a Hall set of the whole instance
abbrev pub IsChoiceIn : {V : Type 0} → Monoid V → (V → V → V) → (V → Word) → (Cost → V)
    → Problem → List (PhaseOf Word) → Option (List (Option ℕ)) → Type 0
IsChoiceIn M difference word_of enter X words (Some choice) =
    IsValid X choice × ProvesFold M difference word_of enter X choice words
IsChoiceIn M difference word_of enter X words None = (rows : List ℕ) × IsHall X Whole rows

-- the same by the objective: some proof proves the choice best
abbrev pub IsChoiceAt : Objective → Problem → Option (List (Option ℕ)) → Type 0
IsChoiceAt objective X (Some choice) = (proof : Proof) × IsProvedBest objective X choice proof
IsChoiceAt objective X None = (rows : List ℕ) × IsHall X Whole rows
