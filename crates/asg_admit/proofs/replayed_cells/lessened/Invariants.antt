use Rattle.asg_admit.proofs.Common.{◌≡◌, ℕ, ◌<◌, ◌≤◌, cell_after, step_of, IsValue, IsLe}
use Rattle.asg_admit.proofs.replayed_cells.lessened.Given as goal

-- the cell after the steps so far, each of which it allowed
abbrev pub invariant-loop-t : goal.invariant-loop-t
invariant-loop-t g l =
    let M = g.M.Ordered.monoid_of l.m in
    let cell = λ (t : ℕ). cell_after M (g.M.DMonoid.difference l.m) (step_of M l.steps) l.enter l.leave l.fn.x t in
    record {
      is_value : IsValue M l.now;
      after : l.now ≡ cell l.t;
      allowed : (t : ℕ) → l.enter ≤ t → t < l.t → IsLe M (step_of M l.steps t) (cell t);
    }
