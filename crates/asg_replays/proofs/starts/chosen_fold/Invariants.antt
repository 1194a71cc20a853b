use Rattle.asg_replays.proofs.Common.{◌≡◌, map, filter_map, range_with_len, chosen_cost, IsValue, fold_of}
use Rattle.asg_replays.proofs.starts.chosen_fold.Given as goal

-- the product is that of the rows so far
abbrev pub invariant-loop-row : goal.invariant-loop-row
invariant-loop-row g l = record {
  product : l.product ≡ fold_of (g.K.M.Ordered.monoid_of (g.K.Kind.monoid l.kind)) (map (g.K.Kind.entered l.kind) (filter_map (chosen_cost l.inst l.choice) (range_with_len 0 l.row)));
  value : IsValue (g.K.M.Ordered.monoid_of (g.K.Kind.monoid l.kind)) l.product;
}
