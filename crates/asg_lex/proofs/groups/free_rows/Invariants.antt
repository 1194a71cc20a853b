use Rattle.asg_lex.proofs.Common.{◌≡◌, ◌≤◌, length, FreesNamed}
use Rattle.asg_lex.proofs.groups.free_rows.Given as goal

-- the cells of the entries so far
abbrev pub invariant-loop-place : goal.invariant-loop-place
invariant-loop-place l =
    record {
      from : l.from ≤ l.place;
      side : length l.matching ≡ length l.fn.matching;
      freed : FreesNamed l.fn.matching l.matching l.entries l.from l.place;
    }
