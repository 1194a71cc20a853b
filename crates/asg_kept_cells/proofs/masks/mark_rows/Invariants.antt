use Rattle.asg_kept_cells.proofs.Common.{◌≡◌, IsFront, MarksRows, is_active, count_below}
use Rattle.asg_kept_cells.proofs.masks.mark_rows.Given as goal

-- the rows so far are marked
abbrev pub invariant-loop-row : goal.invariant-loop-row
invariant-loop-row g l = record {
  number : l.number ≡ count_below (is_active l.inst) l.row;
  marks : MarksRows l.inst l.choice l.square.column_labels l.square.side l.branch l.from l.to l.row l.initial.kept l.kept;
  front : IsFront l.inst l.last;
}
