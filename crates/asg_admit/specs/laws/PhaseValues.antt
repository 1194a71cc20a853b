-- The steps of phases that are admitted in turn, and phases whose steps are words.
use Rattle.std.proofs.Common.{ℕ, ◌≤◌, List, [], ◌∷◌, length, get_or, map, Option, arith}
use Rattle.std.specs.Prelude.{All}
use Rattle.std.proofs.lemmas.List.{length-map}
use Rattle.std.proofs.lemmas.List.Elements.{All-nil, All-cons, All-head, All-map, All-tail}
use Rattle.asg_order.specs.Monoid.{Monoid, IsValue}
use Rattle.asg_proof.specs.Phases.{PhaseOf, after_phase, worded, AreAdmittedPhases}
use Rattle.asg_proof.specs.PromisedProofs.{IsPhaseOver}
use Rattle.asg_proof.specs.laws.PhaseSteps.{phase_has_values}
use Rattle.asg_admit.specs.PhaseValues.{AreOfValues}

module _ {V : Type 0} (M : Monoid V) (difference : V → V → V) (side : ℕ) where
  -- they are values
  pub admitted_values : (phases : List (PhaseOf V)) (square : ℕ → ℕ → Option V) → AreAdmittedPhases M difference side phases square → AreOfValues M phases
  admitted_values [] square all = All-nil (λ (phase : PhaseOf V). All (IsValue M) phase.steps)
  admitted_values (phase ∷ rest) square all =
      All-cons (λ (p : PhaseOf V). All (IsValue M) p.steps) phase rest
      (phase_has_values M difference side phase square all.0)
      (admitted_values rest (after_phase M difference phase square) all.1)

  -- phases of 1 to side steps are over the side
  pub admitted_over : (phases : List (PhaseOf V)) (square : ℕ → ℕ → Option V) → AreAdmittedPhases M difference side phases square → All (λ phase. (1 ≤ length phase.steps) × (length phase.steps ≤ side)) phases → All (IsPhaseOver side) phases
  admitted_over [] square all sizes = All-nil (IsPhaseOver side)
  admitted_over (phase ∷ rest) square all sizes =
      let Sized : PhaseOf V → Type 0 = λ p. (1 ≤ length p.steps) × (length p.steps ≤ side) in
      let size = All-head Sized phase rest sizes in
      All-cons (IsPhaseOver side) phase rest
      (record { some = size.0; few = size.1; enters = all.0.rows; leaves = all.0.columns })
      (admitted_over rest (after_phase M difference phase square) all.1 (All-tail Sized phase rest sizes))

-- phases over a side are so with each step in another form
pub words_over : {V W : Type 0} (word_of : V → W) (side : ℕ) (phases : List (PhaseOf V)) → All (IsPhaseOver side) phases → All (IsPhaseOver side) (map (worded word_of) phases)
words_over word_of side phases over =
    All-map (IsPhaseOver side) (worded word_of) phases
    (λ k d below.
    let phase = get_or phases k d in
    let was = over k d below in
    record {
      some = omega (arith, was.some, length-map phase.steps word_of);
      few = omega (arith, was.few, length-map phase.steps word_of);
      enters = was.enters;
      leaves = was.leaves;
    })
