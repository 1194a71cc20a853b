use Rattle.asg_algebra.proofs.Common.{◌<◌, ◌≢◌, get_or, All, AllPairs, sym, refl, ap, ◌∙◌, subst, IsPlanted}
use Rattle.asg_algebra.proofs.FinishLaws.{planted_search, stuck_deficient}
use Rattle.asg_algebra.proofs.phases.augment.Goals as goal

pub grow-requires-clause-search : goal.grow-requires-clause-search
grow-requires-clause-search g c =
    let m = c.args.m.now in
    let M = g.M.Ordered.monoid_of m in
    let laws = g.met.M.Ordered.laws m in
    let has = g.met.M.DMonoid.difference_laws m in
    let r = c.requires in
    let planted = subst (λ n. IsPlanted M n c.plant-sum.new.growth c.plant-sum.result c.args.root) r.roomy.enters_side c.plant-sum.ensures in
    planted_search laws has r.small planted r.rest r.root r.root_free

pub returns-in-None-clause-serves : goal.returns-in-None-clause-serves
returns-in-None-clause-serves g c =
    let m = c.args.m.now in
    let laws = g.met.M.Ordered.laws m in
    let has = g.met.M.DMonoid.difference_laws m in (
      record { same_trail = refl; same_square = refl; same_matching = refl; same_forest = refl },
      stuck_deficient laws has c.grow.ensures.search c.in-None.ensures.stuck,
    )

pub returns-in-Some-clause-serves : goal.returns-in-Some-clause-serves
returns-in-Some-clause-serves g c =
    c.finish.ensures.serves c.args.root (sym (c.grow.ensures.first ∙ ap (λ xs. get_or xs 0 0) c.plant-sum.ensures.rows))

pub finish-requires-clause-ready : goal.finish-requires-clause-ready
finish-requires-clause-ready g c = c.in-Some.ensures.exit

pub finish-requires-clause-free : goal.finish-requires-clause-free
finish-requires-clause-free g c = c.in-Some.ensures.free

pub finish-requires-clause-spare : goal.finish-requires-clause-spare
finish-requires-clause-spare g c = c.requires.spare

pub finish-requires-clause-live : goal.finish-requires-clause-live
finish-requires-clause-live g c = c.requires.live

pub finish-requires-clause-region_side : goal.finish-requires-clause-region_side
finish-requires-clause-region_side g c = c.requires.region_side

pub finish-requires-clause-reduced : goal.finish-requires-clause-reduced
finish-requires-clause-reduced g c = record { cells = c.requires.rest.values; index = c.requires.rest.index_is_value }

pub returns-in-None-clause-roomy : goal.returns-in-None-clause-roomy
returns-in-None-clause-roomy g c = c.grow.ensures.search.roomy

pub returns-in-None-clause-below : goal.returns-in-None-clause-below
returns-in-None-clause-below g c = c.grow.ensures.search.underway.scanned.below

pub returns-in-None-clause-apart : goal.returns-in-None-clause-apart
returns-in-None-clause-apart g c = c.grow.ensures.search.underway.searching.growing.tree.apart

pub returns-in-Some-clause-roomy : goal.returns-in-Some-clause-roomy
returns-in-Some-clause-roomy g c = c.finish.ensures.roomy

pub returns-in-Some-clause-below : goal.returns-in-Some-clause-below
returns-in-Some-clause-below g c =
    let side = (g.S.RowSquare.as_reduced c.args.reduced.now).now.side in
    subst (λ t. All (λ r. r < side) t.rows.items) (sym c.finish.ensures.tree) c.grow.ensures.search.underway.scanned.below

pub returns-in-Some-clause-apart : goal.returns-in-Some-clause-apart
returns-in-Some-clause-apart g c = subst (λ t. AllPairs ◌≢◌ t.rows.items) (sym c.finish.ensures.tree) c.grow.ensures.search.underway.searching.growing.tree.apart
