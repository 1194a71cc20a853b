use Rattle.asg_algebra.proofs.Common.{sym, ap, ◌∙◌, subst, IsReduced, last_of, EndsIn, HasSolved, IsAbsorbed, AllAllowed, cell_at}
use Rattle.asg_algebra.proofs.square_solvers.solve_square.Goals as goal

pub solve-ended-requires-clause-reduced : goal.solve-ended-requires-clause-reduced
solve-ended-requires-clause-reduced g c =
    subst (IsReduced (g.M.Ordered.monoid_of c.args.m.now)) (sym c.in_ok-square.ensures) c.requires.reduced

pub solve-ended-requires-clause-matching_side : goal.solve-ended-requires-clause-matching_side
solve-ended-requires-clause-matching_side g c =
    c.requires.matching_side ∙ sym (ap (λ d. d.now.side) c.in_ok-square.ensures)

pub solve-ended-requires-clause-absorbed : goal.solve-ended-requires-clause-absorbed
solve-ended-requires-clause-absorbed g c =
    let M = g.M.Ordered.monoid_of c.args.m.now in
    subst (λ d. AllAllowed (IsAbsorbed M d.index (cell_at d.now)) c.args.matching.now) (sym c.in_ok-square.ensures) c.requires.absorbed

pub solve-ended-requires-clause-bench_side : goal.solve-ended-requires-clause-bench_side
solve-ended-requires-clause-bench_side g c =
    c.requires.bench_side ∙ sym (ap (λ d. d.now.side) c.in_ok-square.ensures)

pub solve-ended-requires-clause-region_side : goal.solve-ended-requires-clause-region_side
solve-ended-requires-clause-region_side g c =
    c.requires.region_side ∙ sym (ap (λ d. d.now.side) c.in_ok-square.ensures)

pub returns-clause-solved : goal.returns-clause-solved
returns-clause-solved g c =
    let M = g.M.Ordered.monoid_of c.args.m.now in
    let difference = g.M.DMonoid.difference c.args.m.now in
    let new = c.solve-ended.new in
    let after = g.M.Square.RowSquare.as_reduced new.square in
    let last = last_of c.solve-ended.result in
    subst (λ d. HasSolved M difference c.args.reduced d c.args.matching.now new.matching c.args.region.now new.region c.args.trail last) (sym c.into_reduced.ensures)
    (subst (λ d. HasSolved M difference d after c.args.matching.now new.matching c.args.region.now new.region c.args.trail last) c.in_ok-square.ensures c.solve-ended.ensures.solved)

pub returns-clause-ends : goal.returns-clause-ends
returns-clause-ends g c =
    let new = c.solve-ended.new in
    subst (λ d. EndsIn (g.M.Ordered.monoid_of c.args.m.now) d new.matching new.bench.rows c.solve-ended.result) (sym c.into_reduced.ensures) c.solve-ended.ensures.ends
