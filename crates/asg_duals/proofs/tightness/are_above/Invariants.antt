use Rattle.asg_duals.proofs.Common.{ℕ, ◌<◌, Reaches}
use Rattle.asg_duals.proofs.tightness.are_above.Given as goal

-- the columns so far are at least the fall
abbrev pub invariant-columns : goal.invariant-columns
invariant-columns l = (c : ℕ) → c < l.column → Reaches l.values l.rises l.fall c
