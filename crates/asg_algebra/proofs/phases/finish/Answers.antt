use Rattle.asg_algebra.proofs.Common.{◌<◌, ◌≤◌, length, sym, refl, subst, arith, few_rows, place_read, search_place}
use Rattle.asg_algebra.proofs.FinishLaws.{finished_phase, finished}
use Rattle.asg_algebra.proofs.phases.finish.Goals as goal

pub flip-requires-clause-place_within : goal.flip-requires-clause-place_within
flip-requires-clause-place_within g c =
    let m = c.args.m.now in
    let laws = g.met.M.Ordered.laws m in
    let has = g.met.M.DMonoid.difference_laws m in
    let b = c.args.growth.now in
    let r = c.requires in
    let s = r.search in
    let at = place_read laws has s refl r.ready.least c.index-place.result.now c.index-place.ensures in
    subst (λ p. p < length b.tree.rows.items) (sym at) (search_place laws has s refl r.ready.least)

pub keep-requires-clause-admitted : goal.keep-requires-clause-admitted
keep-requires-clause-admitted g c =
    let m = c.args.m.now in
    let laws = g.met.M.Ordered.laws m in
    let has = g.met.M.DMonoid.difference_laws m in
    let r = c.requires in
    let s = r.search in
    let at = place_read laws has s refl r.ready.least c.index-place.result.now c.index-place.ensures in
    (finished_phase laws has s r.ready at c.flip.ensures).0

pub keep-requires-clause-few : goal.keep-requires-clause-few
keep-requires-clause-few g c =
    let m = c.args.m.now in
    let laws = g.met.M.Ordered.laws m in
    let has = g.met.M.DMonoid.difference_laws m in
    let old = g.S.RowSquare.as_reduced c.args.reduced.now in
    let b = c.args.growth.now in
    let r = c.requires in
    let s = r.search in
    let few : length b.steps.items ≤ old.now.side = omega (arith, s.few_steps, b.steps.ok.0, few_rows laws has s) in
    omega (arith, few, b.steps.ok.0)

pub returns-clause-serves : goal.returns-clause-serves
returns-clause-serves g c =
    let m = c.args.m.now in
    let laws = g.met.M.Ordered.laws m in
    let has = g.met.M.DMonoid.difference_laws m in
    let old = g.S.RowSquare.as_reduced c.args.reduced.now in
    let b = c.args.growth.now in
    let r = c.requires in
    let s = r.search in
    let at = place_read laws has s refl r.ready.least c.index-place.result.now c.index-place.ensures in
    let few : length b.steps.items ≤ old.now.side = omega (arith, s.few_steps, b.steps.ok.0, few_rows laws has s) in
    finished laws has old (g.S.RowSquare.as_reduced c.keep.new.reduced) s r.reduced few r.ready at c.flip.ensures c.keep.ensures.phase c.keep.ensures.pushed
