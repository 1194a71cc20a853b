-- The parts of phases.
use Rattle.asg_doc_reader.proofs.Common.{Bool, List, All, refl, steps_part, enters_part, leaves_part, phase_part, HasPhaseText, and_then, IsReadable, IsReadable-chain, IsReadable-shape, Chain, Shape, Word, PhaseOf, ArePhases}
use Rattle.asg_doc_reader.proofs.Leaves.{steps_law, enters_law, leaves_law}

pub enters_leaves : Chain enters_part (λ _. leaves_part)
enters_leaves = record { first_law = enters_law; second_law = λ _ _. leaves_law }

pub steps_enters : (graded : Bool) → Chain (steps_part graded) (λ _. and_then enters_part (λ _. leaves_part))
steps_enters graded = record { first_law = steps_law graded; second_law = λ _ _. IsReadable-chain enters_leaves }

pub phase_shape : (graded : Bool) → Shape (and_then (steps_part graded) (λ _. and_then enters_part (λ _. leaves_part))) (phase_part graded)
phase_shape graded = record {
  make = λ t. record { steps = t.0; enters = t.1.0; leaves = t.1.1 };
  has = λ t h. record { steps = h.0; enters = h.1.0; leaves = h.1.1 };
  lines = λ t h. refl;
  back = λ p h. ((p.steps, (p.enters, p.leaves)), (h.steps, (h.enters, h.leaves)), refl);
}

pub phase_law : (graded : Bool) → IsReadable (phase_part graded)
phase_law graded = IsReadable-shape (phase_shape graded) (IsReadable-chain (steps_enters graded))

-- phases that have a text keep what phases keep
pub ArePhases-from_text : (graded : Bool) (phases : List (PhaseOf Word)) → All (HasPhaseText graded) phases → ArePhases phases
ArePhases-from_text graded phases each = λ k d within. record { enters_below = (each k d within).enters.ids; leaves_below = (each k d within).leaves.ids }
