-- The square of a level by rows of bits, and levels whose phases are admitted.
use Rattle.std.specs.Prelude.{◌≡◌, ℕ, ℤ, ◌<◌, ◌≤◌, ◌&&◌, not, Bool, Option, map}
use Rattle.asg_model.specs.Problem.{Problem}
use Rattle.asg_model.specs.Shapes.{square_side}
use Rattle.asg_monoids.specs.BoundedSums.{bounded_difference, plain_word}
use Rattle.asg_bit_rows.specs.BitTable.{has_bit}
use Rattle.asg_square.specs.Grid.{Grid, cell_at}
use Rattle.asg_proof.specs.declared.levels.Level.{Level}
use Rattle.asg_proof.specs.Levels.{is_between, left_for, level_square, level_sums, numbers_of}
use Rattle.asg_proof.specs.Phases.{worded, AreAdmittedPhases, index_of}
use Rattle.asg_levels.specs.UnitSteps.{bit_square}
use Rattle.asg_verdicts.specs.declared.level_bits.LevelBits.{LevelBits}
use Rattle.asg_verdicts.specs.declared.level_walks.Walk.{Walk}
use Rattle.asg_verdicts.specs.LevelWalks.{level_value, passes_cost}

-- what a cell of the square of a level holds, by its bits
abbrev pub bits_at : LevelBits → ℕ → ℕ → Option ℕ
bits_at bits = bit_square bits.zeros bits.ones

-- what it holds, by what is left and what it costs: none where the cost lies between two levels
abbrev pub value_of : Bool → Option ℤ → ℤ → Option ℤ → Option ℕ
value_of is_left before cost cell = level_value (is_left && not (passes_cost (is_between before cost) cell)) cost cell

-- what a cell holds for a level after those that a walk stands behind
abbrev pub value_in : Grid ℤ → Walk → Level → ℕ → ℕ → Option ℕ
value_in Q walk level r c = value_of (has_bit walk.left r c) walk.before level.cost (cell_at Q r c)

-- the bits are of the size of a square
pub record AreSizedBits (side : ℕ) (bits : LevelBits) : Type 0 where
  pub zero_rows : bits.zeros.rows ≡ side
  pub zero_columns : bits.zeros.columns ≡ side
  pub one_rows : bits.ones.rows ≡ side
  pub one_columns : bits.ones.columns ≡ side

-- only cells of a row from one column on and before another changed
abbrev pub KeepsOthers : LevelBits → LevelBits → ℕ → ℕ → ℕ → Type 0
KeepsOthers before after row from to =
    (r c : ℕ) → (r ≡ row → from ≤ c → c < to → ⊥) → bits_at after r c ≡ bits_at before r c

-- the phases of a level are admitted in turn from its square, with its count as their index
pub record HasPhases (X : Problem) (before : Option ℤ) (left : ℕ → ℕ → Bool) (level : Level) : Type 0 where
  pub plain : map (worded plain_word) (numbers_of level.phases) ≡ level.phases
  pub admitted : AreAdmittedPhases level_sums bounded_difference (square_side X) (numbers_of level.phases) (level_square X (left_for X before left level) level.cost)
  pub index : index_of level_sums (numbers_of level.phases) ≡ level.count
