use Rattle.asg_algebra.proofs.Common.{◌/◌, ◌%◌, ◌<◌, ◌≢◌, length, get_or, All, AllPairs, sym, refl, ap, ◌∙◌, subst, arith, IsPlanted, IsRoomy, few_rows, place_read, search_place}
use Rattle.asg_algebra.proofs.BranchLaws.{branched, left_at}
use Rattle.asg_algebra.proofs.FinishLaws.{planted_search, stuck_deficient}
use Rattle.asg_algebra.proofs.branching.serve_branch.Goals as goal

pub grow_within-requires-clause-search : goal.grow_within-requires-clause-search
grow_within-requires-clause-search g c =
    let m = c.args.m.now in
    let M = g.M.Ordered.monoid_of m in
    let r = c.requires in
    let planted = subst (λ n. IsPlanted M n c.plant-sum.new.growth c.plant-sum.result c.args.root) r.bench.roomy.enters_side c.plant-sum.ensures in
    planted_search (g.met.M.Ordered.laws m) (g.met.M.DMonoid.difference_laws m) r.small planted r.rest r.root r.root_free

pub index-place-requires : goal.index-place-requires
index-place-requires g c =
    let p = c.in-Exit.ensures.probes in
    let k = c.in-Exit.column in
    omega (arith, p.0.unseen.below (k / 64) (k % 64) p.1.least.among, p.0.roomy.parents_side)

pub flip-requires-clause-place_within : goal.flip-requires-clause-place_within
flip-requires-clause-place_within g c =
    let m = c.args.m.now in
    let laws = g.met.M.Ordered.laws m in
    let has = g.met.M.DMonoid.difference_laws m in
    let b = c.grow_within.new.growth in
    let p = c.in-Exit.ensures.probes in
    let at = place_read laws has p.0 refl p.1.least c.index-place.result.now c.index-place.ensures in
    subst (λ q. q < length b.tree.rows.items) (sym at) (search_place laws has p.0 refl p.1.least)

pub flip-requires-clause-column_below : goal.flip-requires-clause-column_below
flip-requires-clause-column_below g c =
    let p = c.in-Exit.ensures.probes in
    let k = c.in-Exit.column in
    omega (arith, p.0.unseen.below (k / 64) (k % 64) p.1.least.among, p.0.underway.searching.growing.matching_side)

pub push-requires-clause-few : goal.push-requires-clause-few
push-requires-clause-few g c =
    let m = c.args.m.now in
    let laws = g.met.M.Ordered.laws m in
    let has = g.met.M.DMonoid.difference_laws m in
    let p = c.in-Exit.ensures.probes in
    omega (arith, p.0.few_steps, few_rows laws has p.0, c.requires.region_side)

pub push-requires-in-Beyond-clause-few : goal.push-requires-in-Beyond-clause-few
push-requires-in-Beyond-clause-few g c =
    let m = c.args.m.now in
    let laws = g.met.M.Ordered.laws m in
    let has = g.met.M.DMonoid.difference_laws m in
    let p = c.in-Beyond.ensures.probes in
    omega (arith, p.1, p.2.few_steps, few_rows laws has p.2, c.requires.region_side)

pub returns-in-Stuck-clause-branches : goal.returns-in-Stuck-clause-branches
returns-in-Stuck-clause-branches g c =
    let m = c.args.m.now in
    let p = c.in-Stuck.ensures.probes in
    (refl, stuck_deficient (g.met.M.Ordered.laws m) (g.met.M.DMonoid.difference_laws m) p.0 p.1)

pub returns-in-Exit-clause-branches : goal.returns-in-Exit-clause-branches
returns-in-Exit-clause-branches g c =
    let m = c.args.m.now in
    let M = g.M.Ordered.monoid_of m in
    let laws = g.met.M.Ordered.laws m in
    let has = g.met.M.DMonoid.difference_laws m in
    let p = c.in-Exit.ensures.probes in
    let at = place_read laws has p.0 refl p.1.least c.index-place.result.now c.index-place.ensures in
    branched laws has (g.S.RowSquare.as_reduced c.args.reduced.now) p.0 p.1 at c.flip.ensures c.op.result
    (c.op.ensures.product ∙ ap (λ z. M.product z c.grow_within.new.sum) c.index-index.ensures) c.push.ensures.pushed c.args.root
    (sym (c.in-Exit.ensures.first ∙ ap (λ xs. get_or xs 0 0) c.plant-sum.ensures.rows))

pub returns-in-Exit-clause-bench : goal.returns-in-Exit-clause-bench
returns-in-Exit-clause-bench g c =
    let side = (g.S.RowSquare.as_reduced c.args.reduced.now).now.side in
    let p = c.in-Exit.ensures.probes in
    record {
      roomy = subst (λ n. IsRoomy n c.push.new.growth) c.requires.region_side c.push.ensures.roomy;
      below = subst (λ t. All (λ r. r < side) t.rows.items) (sym c.push.ensures.tree) p.0.underway.scanned.below;
      apart = subst (λ t. AllPairs ◌≢◌ t.rows.items) (sym c.push.ensures.tree) p.0.underway.searching.growing.tree.apart;
    }

pub returns-in-Beyond-clause-branches : goal.returns-in-Beyond-clause-branches
returns-in-Beyond-clause-branches g c =
    let m = c.args.m.now in
    let M = g.M.Ordered.monoid_of m in
    let laws = g.met.M.Ordered.laws m in
    let has = g.met.M.DMonoid.difference_laws m in
    let p = c.in-Beyond.ensures.probes in
    left_at laws has (g.S.RowSquare.as_reduced c.args.reduced.now) p.0 p.1 p.2 c.args.limit p.3 c.op-in-Beyond.result
    (c.op-in-Beyond.ensures.product ∙ ap (λ z. M.product z c.grow_within.new.sum) c.index-index.ensures) c.push-in-Beyond.ensures.pushed
