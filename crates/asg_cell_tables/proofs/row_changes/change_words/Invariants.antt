use Rattle.asg_cell_tables.proofs.Common.{◌*◌, ◌/◌, ◌%◌, min, slice_index, is_bit_set, ChangesValues}
use Rattle.asg_cell_tables.proofs.row_changes.change_words.Given as goal

-- the values of the words so far
abbrev pub invariant-loop-number : goal.invariant-loop-number
invariant-loop-number g l = ChangesValues l.fn.values l.values l.start 0 (min (64 * l.number) l.side) (λ k. is_bit_set (slice_index l.words (k / 64)) (k % 64)) (goal.F-post g l.change)
