use Rattle.asg_lex.proofs.Common.{◌≤◌}
use Rattle.asg_lex.proofs.guesses.lowered.Given as goal

-- no more rows are counted than were seen
abbrev pub invariant-loop-row : goal.invariant-loop-row
invariant-loop-row l =
    record {
      few : l.above ≤ l.row;
    }
