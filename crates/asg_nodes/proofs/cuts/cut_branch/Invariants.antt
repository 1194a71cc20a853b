use Rattle.asg_nodes.proofs.Common.{◌≡◌, ◌≤◌, is_active, count_below, LosesCells}
use Rattle.asg_nodes.proofs.CutBranches.{cut_rows}
use Rattle.asg_nodes.proofs.cuts.cut_branch.Given as goal

-- the rows so far were cut
abbrev pub invariant-rows : goal.invariant-rows
invariant-rows g l =
    record {
      number : l.number ≡ count_below (is_active l.inst) l.row;
      few : l.number ≤ l.row;
      cut : LosesCells (cut_rows l.inst l.choice l.branch l.row) l.fn.square l.square;
    }
