use Rattle.asg_order.proofs.Rearrangements.{fold_of-IsPermutation}
use Rattle.asg_order.proofs.laws.rearranged.Goals as goal

pub returns : goal.returns
returns g c xs ys vs moved =
    fold_of-IsPermutation (g.M.Ordered.monoid_of c.args.m.now) (g.met.M.Ordered.laws c.args.m.now) xs ys moved vs
