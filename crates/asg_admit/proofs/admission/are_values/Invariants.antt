use Rattle.asg_admit.proofs.Common.{ℕ, ◌<◌, step_of, IsValue}
use Rattle.asg_admit.proofs.admission.are_values.Given as goal

-- the steps so far are values
abbrev pub invariant-loop-t : goal.invariant-loop-t
invariant-loop-t g l =
    let M = g.M.Ordered.monoid_of l.m in
    (t : ℕ) → t < l.t → IsValue M (step_of M l.steps t)
