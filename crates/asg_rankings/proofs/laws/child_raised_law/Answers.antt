use Rattle.asg_rankings.specs.laws.ChildFolds.{IsRaised-child}
use Rattle.asg_rankings.proofs.laws.child_raised_law.Goals as goal

pub returns : goal.returns
returns g c =
    let m = c.args.m.now in
    IsRaised-child (g.M.Ordered.monoid_of m) (g.met.M.Ordered.laws m)
