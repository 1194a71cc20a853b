use Rattle.asg_order.proofs.Common.{◌≡◌, take, IsValue, fold_of}
use Rattle.asg_order.proofs.folds.fold.Given as goal

-- the product so far is that of the values so far, and a value
abbrev pub invariant-loop-value : goal.invariant-loop-value
invariant-loop-value g l =
    (l.product ≡ fold_of (g.M.Ordered.monoid_of l.m) (take l.value-index l.values)) × IsValue (g.M.Ordered.monoid_of l.m) l.product
