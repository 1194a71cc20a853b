use Rattle.asg_algebra.proofs.Common.{[], sym, ap, ◌∙◌, subst, arith, Forest, IsReduced, Reduced}
use Rattle.asg_algebra.proofs.ContinuedLaws.{matched_none, matching_side, unmatched_side, IsTaken-found}
use Rattle.asg_algebra.proofs.continued.led_copy.Goals as goal

pub solve_given-requires-clause-reduced : goal.solve_given-requires-clause-reduced
solve_given-requires-clause-reduced g c =
    subst (IsReduced (g.M.Ordered.monoid_of c.args.m.now)) (sym c.in_ok-copy.ensures) c.requires.reduced

pub solve_given-requires-clause-matching_side : goal.solve_given-requires-clause-matching_side
solve_given-requires-clause-matching_side g c =
    matching_side c.args.reduced.now.now.side c.args.matching.now c.requires.none
    ∙ sym (ap (λ (d : Reduced _). d.now.side) c.in_ok-copy.ensures)

pub solve_given-requires-clause-empty : goal.solve_given-requires-clause-empty
solve_given-requires-clause-empty g c r k e = matched_none c.args.reduced.now.now.side c.args.matching.now c.requires.none r k e

pub solve_given-requires-clause-region_side : goal.solve_given-requires-clause-region_side
solve_given-requires-clause-region_side g c =
    ap (λ (f : Forest _). f.side) c.in_ok-region.ensures ∙ c.side-side.ensures.side ∙ sym (ap (λ (d : Reduced _). d.now.side) c.in_ok-copy.ensures)

pub solve_given-requires-clause-few : goal.solve_given-requires-clause-few
solve_given-requires-clause-few g c =
    omega (arith, c.requires.few, unmatched_side c.args.reduced.now.now.side c.args.matching.now c.requires.none)

pub solve_given-requires-clause-spare : goal.solve_given-requires-clause-spare
solve_given-requires-clause-spare g c = omega (arith, ap (λ (f : Forest _). f.spare) c.in_ok-region.ensures)

pub returns-in-Ok-Some : goal.returns-in-Ok-Some
returns-in-Ok-Some g c =
    let m = c.args.m.now in
    let is = c.in-Ok-Some.ensures in
    let solved = c.in-Ok-Some.solved in
    IsTaken-found (g.M.Ordered.monoid_of m) (g.M.DMonoid.difference m) c.args.reduced.now c.in_ok-copy.copy c.in-Ok-Some.field-0 solved
    c.args.matching.now c.solve_given.new.matching c.in_ok-region.region c.solve_given.new.region c.args.given.now
    c.in_ok-copy.ensures c.in-Ok-Some.field-0-is is.solved (is.ends []) is.list is.perfect
