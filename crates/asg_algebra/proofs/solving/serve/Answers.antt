use Rattle.asg_algebra.proofs.Common.{is_some, sym, ap, ◌∙◌}
use Rattle.asg_algebra.proofs.SolvingLaws.{IsReduced-rest, IsServed-none}
use Rattle.asg_algebra.proofs.solving.serve.Goals as goal

pub returns-in-Some-clause-serves : goal.returns-in-Some-clause-serves
returns-in-Some-clause-serves g c =
    let m = c.args.m.now in
    let r = c.requires in
    let matching = c.args.matching.now in
    IsServed-none (g.M.Ordered.monoid_of m) (g.met.M.Ordered.laws m) (g.M.DMonoid.difference m) (g.S.RowSquare.as_reduced c.args.reduced.now) matching c.args.region.now c.args.trail (IsReduced-rest (g.M.Ordered.monoid_of m) (g.S.RowSquare.as_reduced c.args.reduced.now) matching r.rest) matching r.rest.columns r.rest.absorbed c.args.root
    (ap is_some (sym c.column_of.ensures.value ∙ c.in-Some.is))
