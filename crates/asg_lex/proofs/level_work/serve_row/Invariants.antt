use Rattle.asg_lex.proofs.Common.{◌≡◌, ◌-◌, ◌≤◌, length, IsUnderway, GoesOn, IsMarked, AllAllowed}
use Rattle.asg_lex.proofs.level_work.serve_row.Given as goal

abbrev pub invariant-steps : goal.invariant-steps
invariant-steps l =
    record {
      same : l.matching ≡ l.fn.matching;
      tree_side : l.tree.side ≡ l.fn.tree.side;
      underway : IsUnderway (length l.fn.matching) l.work;
      on : GoesOn l.fn.work l.work;
      cells : AllAllowed (IsMarked l.work.marks.bits l.work.marks.side) l.fn.matching;
      few : length l.work.phases.items ≤ length l.fn.matching;
    }

-- each turn adds a phase
abbrev pub decreases-steps : goal.decreases-steps
decreases-steps l = length l.fn.matching - length l.work.phases.items
