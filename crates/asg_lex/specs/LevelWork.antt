-- The work at a level: its square by bits, and the phases so far.
use Rattle.std.specs.Prelude.{◌≡◌, ◌↔◌, ℕ, ◌*◌, ◌<◌, ◌≤◌, Option, List, length, map, All}
use Rattle.asg_model.specs.Limits.{most_side}
use Rattle.asg_monoids.specs.BoundedSums.{bounded_difference, plain_word}
use Rattle.asg_proof.specs.Levels.{level_sums, numbers_of}
use Rattle.asg_proof.specs.Phases.{ArePhases, worded, AreAdmittedPhases, after_phases, index_of}
use Rattle.asg_proof.specs.PromisedProofs.{IsUnitPhase}
use Rattle.asg_bit_rows.specs.BitTable.{BitTable, word_count}
use Rattle.asg_square.specs.Cells.{IsAssignment}
use Rattle.asg_lex.specs.declared.level_work.Work.{Work}
use Rattle.asg_live_cells.specs.declared.live_cells.Entry.{Entry}
use Rattle.asg_live_cells.specs.LiveCells.{entry_at}
use Rattle.asg_live_cells.specs.Marks.{IsMarked, IsNamed, MarksFewer}
use Rattle.asg_levels.specs.UnitSteps.{AreDuals, IsBitSquare, bit_square}
use Rattle.asg_lex.specs.MarkedCells.{MarksZeros}

-- the square of the level, and after the phases so far
abbrev pub first_square : Work → ℕ → ℕ → Option ℕ
first_square work = bit_square work.zeros work.ones

abbrev pub square_now : Work → ℕ → ℕ → Option ℕ
square_now work = after_phases level_sums bounded_difference (numbers_of work.phases.items) (first_square work)

-- phases of one step by 1 so far, admitted in turn from the square of the level, with their number
-- as index; the counts and the marks are those of the square that they leave
pub record IsUnderway (side : ℕ) (work : Work) : Type 0 where
  pub few : side ≤ most_side
  pub zeros : IsBitSquare side work.zeros
  pub ones : IsBitSquare side work.ones
  pub marked_rows : work.marks.bits.rows ≡ side
  pub marked_columns : work.marks.bits.columns ≡ side
  pub marks_side : work.marks.side ≡ side
  pub ins : length work.ins.items ≡ side
  pub outs : length work.outs.items ≡ 64 * word_count side
  pub phases_are : ArePhases work.phases.items
  pub units : All (IsUnitPhase side) work.phases.items
  pub plain : map (worded plain_word) (numbers_of work.phases.items) ≡ work.phases.items
  pub admitted : AreAdmittedPhases level_sums bounded_difference side (numbers_of work.phases.items) (first_square work)
  pub index : index_of level_sums (numbers_of work.phases.items) ≡ length work.phases.items
  pub duals : AreDuals side (length work.phases.items) work.zeros work.ones work.ins.items work.outs.items (square_now work)
  pub marks : MarksZeros side work.marks.bits (square_now work)

-- the square of the level has a perfect assignment
abbrev pub HasPerfect : ℕ → Work → Type 0
HasPerfect side work = (p : List ℕ) × IsAssignment (first_square work) side p

-- the square of the level stays
pub record GoesOn (before after : Work) : Type 0 where
  pub zeros : after.zeros ≡ before.zeros
  pub ones : after.ones ≡ before.ones
  pub side : after.marks.side ≡ before.marks.side

-- an entry from one place on and before another is of this row
abbrev pub IsNamedRow : List Entry → ℕ → ℕ → ℕ → Type 0
IsNamedRow entries from to r = (place : ℕ) × (from ≤ place) × (place < to) × ((entry_at entries place).row ≡ r)

-- rows of bits and lists of the size of a square
pub record AreSized (side : ℕ) (work : Work) : Type 0 where
  pub zero_rows : work.zeros.rows ≡ side
  pub zero_columns : work.zeros.columns ≡ side
  pub one_rows : work.ones.rows ≡ side
  pub one_columns : work.ones.columns ≡ side
  pub mark_rows : work.marks.bits.rows ≡ side
  pub mark_columns : work.marks.bits.columns ≡ side
  pub marks_side : work.marks.side ≡ side
  pub ins : length work.ins.items ≡ side
  pub outs : length work.outs.items ≡ 64 * word_count side

-- the cells of the entries from one place to another are no longer marked, and all others are as
-- before
abbrev pub LeavesOut : ℕ → BitTable → BitTable → List Entry → ℕ → ℕ → Type 0
LeavesOut side before after entries from to =
    (r c : ℕ) → IsMarked after side r c ↔ (IsMarked before side r c × (IsNamed entries from to r c → ⊥))

-- phases were taken at the cost of the entries from one place to another: their cells were 1, those
-- of all others that were marked 0
pub record TakesLevel (side : ℕ) (before after : Work) (entries : List Entry) (from to : ℕ) : Type 0 where
  pub underway : IsUnderway side after
  pub some : 0 < length after.phases.items
  pub few : length after.phases.items ≤ side
  pub ones : after.ones ≡ before.marks.bits
  pub zeros : MarksFewer before.marks.bits after.zeros entries from to
