-- The parts of levels.
use Rattle.asg_doc_reader.proofs.Common.{ℕ, false, List, ◌∷◌, ◌++◌, length, ℤ, codes, All, flat_map, refl, ap, arith, level_head_part, level_part, perm_part, phase_part, HasLevelText, level_head_text, phase_lines, Part, and_then, counted, IsReadable, IsReadable-chain, IsReadable-counted, IsReadable-shape, Chain, Shape, Word, PhaseOf, Level}
use Rattle.asg_proof.specs.LevelLists.{AreLevelParts}
use Rattle.asg_doc_reader.proofs.Leaves.{level_head_law, perm_law}
use Rattle.asg_doc_reader.proofs.PhaseParts.{phase_law, ArePhases-from_text}

-- the first line of a level, and as many phases as it says
abbrev phases_part : ℤ × (ℕ × ℕ) → Part (List (PhaseOf Word))
phases_part head = counted head.1.1 (phase_part false)

pub head_phases : Chain level_head_part phases_part
head_phases = record { first_law = level_head_law; second_law = λ head _. IsReadable-counted (phase_law false) head.1.1 }

unfoldable pub level_shape : Shape (and_then level_head_part phases_part) level_part
level_shape = record {
  make = λ t. record { cost = t.0.0; count = t.0.1.0; phases = t.1 };
  has = λ t h. record { cost_fits = h.0.0; count_fits = h.0.1.0; phases = record { few = omega (arith, h.0.1.1, h.1.0); each = h.1.1 } };
  lines = λ t h. ap (λ n. (codes "level " ++ level_head_text (t.0.0, (t.0.1.0, n))) ∷ flat_map (phase_lines false) t.1) h.1.0;
  back = λ level h. (((level.cost, (level.count, length level.phases)), level.phases), ((h.cost_fits, (h.count_fits, h.phases.few)), (refl, h.phases.each)), refl);
}

pub level_law : IsReadable level_part
level_law = IsReadable-shape level_shape (IsReadable-chain head_phases)

-- an assignment, and so many levels
pub perm_levels : (count : ℕ) → Chain perm_part (λ _. counted count level_part)
perm_levels count = record { first_law = perm_law; second_law = λ _ _. IsReadable-counted level_law count }

-- levels that have a text keep what levels keep
pub AreLevelParts-from_text : (levels : List Level) → All HasLevelText levels → AreLevelParts levels
AreLevelParts-from_text levels each = λ k d within.
    let level = each k d within in
    record { cost_fits = level.cost_fits; count_fits = level.count_fits; phases_are = ArePhases-from_text false _ level.phases.each }
