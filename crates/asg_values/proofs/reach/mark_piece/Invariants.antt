use Rattle.asg_values.proofs.Common.{◌≡◌, length, most_columns}
use Rattle.asg_values.specs.Marks.{meets, AreMarked}
use Rattle.asg_values.proofs.reach.mark_piece.Given as goal

abbrev pub invariant-loop-column : goal.invariant-loop-column
invariant-loop-column l = record {
  marked : AreMarked (meets l.columns l.costs l.low l.high) l.first l.column l.initial.reached l.reached;
  size : length l.reached ≡ most_columns;
}
