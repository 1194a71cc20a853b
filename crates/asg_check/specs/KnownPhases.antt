-- Phases that are known to be admitted from the square of an instance.
use Rattle.std.specs.Prelude.{◌≡◌, ℕ, ◌<◌, IsTrue, List, [], map, Option, Some}
use Rattle.asg_model.specs.declared.objectives.Objective.{Objective}
use Rattle.asg_model.specs.declared.parts.Cost.{Cost}
use Rattle.asg_model.specs.Objectives.{is_algebraic}
use Rattle.asg_model.specs.Problem.{Problem}
use Rattle.asg_model.specs.Shapes.{square_side}
use Rattle.asg_order.specs.declared.words.Word.{Word}
use Rattle.asg_order.specs.Monoid.{Monoid}
use Rattle.asg_proof.specs.declared.outcomes.Proof.{Proof}
use Rattle.asg_proof.specs.declared.outcomes.Proof.TheVariants.{Phases}
use Rattle.asg_proof.specs.Phases.{PhaseOf, index_of, worded}
use Rattle.asg_square.specs.Cells.{square_cell}
use Rattle.asg_square.specs.Labels.{column_label}
use Rattle.asg_admit.specs.KeptCells.{AllowsPhases}
use Rattle.asg_admit.specs.PhaseValues.{AreOfValues}
use Rattle.asg_verdicts.specs.PhaseReasons.{AreAdmittedFor}
use Rattle.asg_doc.specs.declared.documents.Claim.{Claim}
use Rattle.asg_doc.specs.declared.documents.Claim.TheVariants.{Best}

-- the phases are admitted in turn from the square of the instance, where the objective has a monoid
abbrev pub AreKnown : Objective → Problem → List (PhaseOf Word) → Type 0
AreKnown objective X words = IsTrue (is_algebraic objective) → AreAdmittedFor objective X words

-- the phases of a proof; none where it is of another kind
abbrev pub phases_of_proof : Proof → List (PhaseOf Word)
phases_of_proof (Phases words) = words
phases_of_proof proof = []

-- the phases of the proof of a claim; none where it has no proof
abbrev pub phases_of_claim : Claim → List (PhaseOf Word)
phases_of_claim (Best answer proof) = phases_of_proof proof
phases_of_claim claim = []

-- phases of values that have the words have this index
abbrev pub HaveTheIndex : {V : Type 0} → Monoid V → (V → Word) → V → List (PhaseOf Word) → Type 0
HaveTheIndex {V} M word_of index words =
    (phases : List (PhaseOf V)) → AreOfValues M phases → map (worded word_of) phases ≡ words
    → index_of M phases ≡ index

-- phases of values that have the words are allowed by the cell at a place
abbrev pub AllowsWords : {V : Type 0} → Monoid V → (V → V → V) → (V → Word)
    → List (PhaseOf Word) → ℕ → ℕ → Option V → Type 0
AllowsWords {V} M difference word_of words r k cell =
    (phases : List (PhaseOf V)) → AreOfValues M phases → map (worded word_of) phases ≡ words
    → AllowsPhases M difference phases r k cell

-- they are allowed by each cell of the square that stands for the row and the column at these places
abbrev pub AllowAtPlaces : {V : Type 0} → Monoid V → (V → V → V) → (V → Word) → (Cost → V)
    → Problem → List (PhaseOf Word) → ℕ → ℕ → Type 0
AllowAtPlaces M difference word_of enter X words r q =
    (k : ℕ) → r < square_side X → k < square_side X → column_label X k ≡ Some q
    → AllowsWords M difference word_of words r k (square_cell X M.unit enter r k)
