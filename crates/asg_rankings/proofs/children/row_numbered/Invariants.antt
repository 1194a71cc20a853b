use Rattle.asg_rankings.proofs.Common.{◌≡◌, ◌<◌, is_active, count_below}
use Rattle.asg_rankings.proofs.children.row_numbered.Given as goal

-- how many of the rows so far are active, which are fewer than the number
abbrev pub invariant-loop-row : goal.invariant-loop-row
invariant-loop-row l = (l.count ≡ count_below (is_active l.inst) l.row) × (l.count < l.number)
