-- Lists of phases of one step by 1 on a square of cells that are 0 or 1.
use Rattle.std.specs.Prelude.{◌≡◌, ℕ, ◌<◌, List, length, map, Option}
use Rattle.asg_monoids.specs.BoundedSums.{bounded_difference, plain_word}
use Rattle.asg_order.specs.declared.words.Word.{Word}
use Rattle.asg_proof.specs.Levels.{is_zero, level_sums, numbers_of}
use Rattle.asg_proof.specs.Phases.{PhaseOf, worded, AreAdmittedPhases, after_phases, index_of}
use Rattle.asg_bit_rows.specs.BitTable.{BitTable, has_bit}
use Rattle.asg_levels.specs.UnitSteps.{AreDuals, bit_square}

-- the square of the bits after phases
abbrev pub square_after_units : BitTable → BitTable → List (PhaseOf Word) → ℕ → ℕ → Option ℕ
square_after_units zeros ones words = after_phases level_sums bounded_difference (numbers_of words) (bit_square zeros ones)

-- the words are those of phases that are admitted in turn from the square of the bits, with their
-- number as index
pub record AreUnits (side : ℕ) (zeros ones : BitTable) (words : List (PhaseOf Word)) : Type 0 where
  pub plain : map (worded plain_word) (numbers_of words) ≡ words
  pub admitted : AreAdmittedPhases level_sums bounded_difference side (numbers_of words) (bit_square zeros ones)
  pub index : index_of level_sums (numbers_of words) ≡ length words

-- and the counts are those of the square that they leave
pub record AreCountedUnits (side : ℕ) (zeros ones : BitTable) (ins outs : List ℕ) (words : List (PhaseOf Word)) : Type 0 where
  pub units : AreUnits side zeros ones words
  pub duals : AreDuals side (length words) zeros ones ins outs (square_after_units zeros ones words)

-- the bits are those of the cells that are 0 after the phases
pub record MarkZeros (side : ℕ) (zeros ones marks : BitTable) (words : List (PhaseOf Word)) : Type 0 where
  pub rows : marks.rows ≡ side
  pub columns : marks.columns ≡ side
  pub each : (r c : ℕ) → r < side → c < side → has_bit marks r c ≡ is_zero (square_after_units zeros ones words r c)
