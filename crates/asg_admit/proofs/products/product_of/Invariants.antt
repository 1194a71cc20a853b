use Rattle.asg_admit.proofs.Common.{◌≡◌, between, step_of, IsValue}
use Rattle.asg_admit.proofs.products.product_of.Given as goal

-- the product of the steps so far
abbrev pub invariant-loop-t : goal.invariant-loop-t
invariant-loop-t g l =
    let M = g.M.Ordered.monoid_of l.m in
    record {
      is_value : IsValue M l.product;
      product : l.product ≡ between M (step_of M l.steps) l.from l.t;
    }
