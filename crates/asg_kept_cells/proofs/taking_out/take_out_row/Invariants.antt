use Rattle.asg_kept_cells.proofs.Common.{◌*◌, TakesOutRow}
use Rattle.asg_kept_cells.proofs.taking_out.take_out_row.Given as goal

-- the cells of the words so far
abbrev pub invariant-words : goal.invariant-words
invariant-words g l = TakesOutRow l.kept l.row (64 * l.number) l.fn.square l.square
