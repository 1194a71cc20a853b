use Rattle.asg_thresh.proofs.Common.{refl, IfOk-from_err}
use Rattle.asg_thresh.proofs.seeker.Seeker.seek.Goals as goal

pub returns-then-complete-clause-rows_stay : goal.returns-then-complete-clause-rows_stay
returns-then-complete-clause-rows_stay c = refl

pub returns-then-complete-clause-deficient : goal.returns-then-complete-clause-deficient
returns-then-complete-clause-deficient c = tt

pub returns-then-complete-clause-columns_stay : goal.returns-then-complete-clause-columns_stay
returns-then-complete-clause-columns_stay c = tt

pub returns-in_err-extend_from_slice-clause-assignment : goal.returns-in_err-extend_from_slice-clause-assignment
returns-in_err-extend_from_slice-clause-assignment c = IfOk-from_err c.from_residual.result _ c.from_residual.ensures.0

pub returns-in_err-extend_from_slice-clause-rows_stay : goal.returns-in_err-extend_from_slice-clause-rows_stay
returns-in_err-extend_from_slice-clause-rows_stay c = IfOk-from_err c.from_residual.result _ c.from_residual.ensures.0

pub returns-in_err-extend_from_slice-clause-deficient : goal.returns-in_err-extend_from_slice-clause-deficient
returns-in_err-extend_from_slice-clause-deficient c = IfOk-from_err c.from_residual.result _ c.from_residual.ensures.0

pub returns-in_err-extend_from_slice-clause-columns_stay : goal.returns-in_err-extend_from_slice-clause-columns_stay
returns-in_err-extend_from_slice-clause-columns_stay c = IfOk-from_err c.from_residual.result _ c.from_residual.ensures.0

pub returns-clause-assignment : goal.returns-clause-assignment
returns-clause-assignment c = tt

pub returns-clause-rows_stay : goal.returns-clause-rows_stay
returns-clause-rows_stay c = tt

pub returns-clause-columns_stay : goal.returns-clause-columns_stay
returns-clause-columns_stay c = refl
