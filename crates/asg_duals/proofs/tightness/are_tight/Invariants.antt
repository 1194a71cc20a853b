use Rattle.asg_duals.proofs.Common.{ℕ, ◌<◌, IsRowTight}
use Rattle.asg_duals.proofs.tightness.are_tight.Given as goal

-- the rows so far are tight
abbrev pub invariant-rows : goal.invariant-rows
invariant-rows l = (r : ℕ) → r < l.row → IsRowTight l.fn.square l.fn.duals l.row_of r
