use Rattle.asg_algebra.proofs.Common.{None, sym, subst, last_of, EndsIn, HasSolved}
use Rattle.asg_algebra.proofs.given.solve_given.Goals as goal

pub returns-in-Ok-Some-clause-solved : goal.returns-in-Ok-Some-clause-solved
returns-in-Ok-Some-clause-solved g c =
    let m = c.args.m.now in
    let new = c.kept_end.new in
    subst (λ after. HasSolved (g.M.Ordered.monoid_of m) (g.M.DMonoid.difference m) c.args.reduced after c.args.matching.now new.matching c.args.region.now new.region None (last_of c.in-Ok-Some.ended))
    (sym c.into_reduced.ensures) (rw c.in-Ok-Some.field-0-is at c.in-Ok-Some.ensures.solved)

pub returns-in-Ok-Some-clause-ends : goal.returns-in-Ok-Some-clause-ends
returns-in-Ok-Some-clause-ends g c = λ rows.
    subst (λ after. EndsIn (g.M.Ordered.monoid_of c.args.m.now) after c.kept_end.new.matching rows c.in-Ok-Some.ended)
    (sym c.into_reduced.ensures) (rw c.in-Ok-Some.field-0-is at (c.in-Ok-Some.ensures.ends rows))
