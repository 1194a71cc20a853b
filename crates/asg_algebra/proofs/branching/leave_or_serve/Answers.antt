use Rattle.asg_algebra.proofs.Common.{sym, subst, stage_of}
use Rattle.asg_algebra.specs.Branches.{Branches}
use Rattle.asg_algebra.proofs.branching.leave_or_serve.Goals as goal

pub returns-in-Some-clause-branches : goal.returns-in-Some-clause-branches
returns-in-Some-clause-branches g c =
    let m = c.args.m.now in
    let square = g.S.RowSquare.as_reduced c.args.reduced.now in
    subst (λ limit. Branches (g.M.Ordered.monoid_of m) (g.M.DMonoid.difference m) (stage_of square c.args.matching.now c.args.region.now) (stage_of square c.leave_or_grow.new.matching c.leave_or_grow.new.region) limit c.args.trail c.args.root c.leave_or_grow.new.growth.tree.rows.items c.leave_or_grow.result)
    (sym c.in-Some.is) c.leave_or_grow.ensures.branches
