-- Phases that are admitted from the kept cells of a square, and their index.
use Rattle.std.specs.Prelude.{◌≡◌, List}
use Rattle.asg_order.specs.declared.words.Word.{Word}
use Rattle.asg_order.specs.Monoid.{Monoid, IsValue}
use Rattle.asg_bit_rows.specs.BitTable.{BitTable}
use Rattle.asg_square.specs.Grid.{Grid, cell_at}
use Rattle.asg_square.specs.Masked.{masked_grid}
use Rattle.asg_proof.specs.Phases.{PhaseOf, index_of}
use Rattle.asg_replays.specs.Replays.{AreAdmittedFrom}

-- the words are those of phases that are admitted in turn from the kept cells of a square
abbrev pub AreAdmittedWithin : {V : Type 0} → Monoid V → (V → V → V) → (V → Word) → Grid V → BitTable
    → List (PhaseOf Word) → Type 0
AreAdmittedWithin M difference word_of Q kept words =
    AreAdmittedFrom M difference word_of Q.side (cell_at (masked_grid Q kept.words)) words

-- and their index after another is this
pub record HaveIndexAfter {V : Type 0} (M : Monoid V) (difference : V → V → V) (word_of : V → Word)
    (Q : Grid V) (kept : BitTable) (before : V) (words : List (PhaseOf Word)) (index : V) : Type 0 where
  pub admitted : AreAdmittedWithin M difference word_of Q kept words
  pub product : index ≡ M.product before (index_of M admitted.phases)
  pub is_value : IsValue M index
