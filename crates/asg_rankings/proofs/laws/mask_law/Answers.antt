use Rattle.asg_rankings.specs.laws.MaskedSquares.{after_phases-child}
use Rattle.asg_rankings.proofs.laws.mask_law.Goals as goal

pub returns : goal.returns
returns g c =
    let m = c.args.m.now in
    after_phases-child (g.M.Ordered.monoid_of m) (g.M.DMonoid.difference m)
