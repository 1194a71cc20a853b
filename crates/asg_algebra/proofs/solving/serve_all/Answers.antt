use Rattle.asg_algebra.proofs.Common.{sym, ◌∙◌, subst, arith, IsBench, HasSolved}
use Rattle.asg_algebra.proofs.SolvingLaws.{IsReduced-rest, IsSolving-start, IsSolving-next, solving_spare, solving_live, solving_side, HasSolved-from}
use Rattle.asg_algebra.proofs.solving.serve_all.Goals as goal

pub loop-root-init : goal.loop-root-init
loop-root-init g c =
    let M = g.M.Ordered.monoid_of c.args.m.now in
    let before = g.S.RowSquare.as_reduced c.args.reduced.now in
    let rest = c.requires.rest in
    record {
      solving = IsSolving-start M (g.met.M.Ordered.laws c.args.m.now) (g.M.DMonoid.difference c.args.m.now) before c.args.matching.now c.args.region.now c.args.trail (IsReduced-rest M before c.args.matching.now rest) rest.columns rest.absorbed;
      bench = c.requires.bench;
    }

pub serve-requires-clause-spare : goal.serve-requires-clause-spare
serve-requires-clause-spare g c free =
    solving_spare c.loop-root.invariant.solving (omega (arith, c.loop-root-test.true, c.side-root-end.ensures.side)) c.requires.spare free

pub serve-requires-clause-live : goal.serve-requires-clause-live
serve-requires-clause-live g c = solving_live c.loop-root.invariant.solving c.requires.live

pub serve-requires-clause-region_side : goal.serve-requires-clause-region_side
serve-requires-clause-region_side g c =
    let s = c.loop-root.invariant.solving in solving_side s ∙ c.requires.region_side ∙ sym s.lead.labels.side

pub returns-in-Lacks-clause-solved : goal.returns-in-Lacks-clause-solved
returns-in-Lacks-clause-solved g c =
    let same = c.in-Lacks.ensures.serves.0 in
    subst (λ A. A) (λ i. HasSolved (g.M.Ordered.monoid_of c.args.m.now) (g.M.DMonoid.difference c.args.m.now) (g.S.RowSquare.as_reduced c.args.reduced.now) ((sym same.same_square) i) c.args.matching.now ((sym same.same_matching) i) c.args.region.now ((sym same.same_forest) i) c.args.trail ((sym same.same_trail) i))
    (HasSolved-from c.loop-root.invariant.solving c.requires.live)

pub loop-root-preserved : goal.loop-root-preserved
loop-root-preserved g c =
    let s = c.loop-root.invariant.solving in
    let new = c.serve.new in
    let is = IsReduced-rest (g.M.Ordered.monoid_of c.args.m.now) (g.S.RowSquare.as_reduced c.args.reduced.now) c.args.matching.now c.requires.rest in
    record {
      solving = IsSolving-next s (g.met.M.Ordered.laws c.args.m.now) is (omega (arith, c.loop-root-test.true, c.side-root-end.ensures.side)) (g.S.RowSquare.as_reduced new.reduced) new.matching new.region c.in-Has.next c.in-Has.ensures.serves;
      bench = subst (λ n. IsBench n new.growth) s.lead.labels.side c.serve.ensures.bench;
    }

pub returns-clause-solved : goal.returns-clause-solved
returns-clause-solved g c = HasSolved-from c.loop-root.invariant.solving c.requires.live
