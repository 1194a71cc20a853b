use Rattle.std.proofs.Common.{◌≡◌, ◌+◌, drop}
use Rattle.asg_text.specs.SolveLines.{solve_count}
use Rattle.asg_text.proofs.solve_lines.solve_count.Given as goal

-- those so far, and those from here on, are all
abbrev pub invariant-lines : goal.invariant-lines
invariant-lines l = l.count + solve_count (drop l.place l.lines) ≡ solve_count l.lines
