use Rattle.asg_dual_bounds.proofs.Common.{◌≡◌, length}
use Rattle.asg_dual_bounds.proofs.answer_tests.write_rows.Given as goal

-- there are as many places
abbrev pub invariant-rows : goal.invariant-rows
invariant-rows l =
    length l.row_of ≡ length l.fn.row_of
