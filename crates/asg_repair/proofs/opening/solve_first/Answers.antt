use Rattle.asg_repair.proofs.Common.{◌≡◌, ◌+◌, ◌≤◌, length, sym, ap, ◌∙◌, subst, IsReduced, AreAbsorbed, enters_values}
use Rattle.asg_repair.proofs.OpenedLemmas.{root_reduced, root_matching, root_opened}
use Rattle.asg_repair.proofs.opening.solve_first.Goals as goal

pub prune_work-requires-clause-reduced : goal.prune_work-requires-clause-reduced
prune_work-requires-clause-reduced g c =
    let kind = c.args.kind.now in
    let m = g.K.Kind.monoid kind in
    let M = g.K.M.Ordered.monoid_of m in
    let live = enters_values M (g.K.Kind.entered kind) (g.K.Kind.objective kind) (g.K.Kind.reach kind) c.args.inst.now c.requires.reach c.rows-rows.ensures.instance c.requires.passes (g.met.K.Kind.enters_value kind) in
    let reduced = root_reduced M (g.met.K.M.Ordered.laws m) (g.K.M.DMonoid.difference m) (g.K.Kind.entered kind) c.args.inst.now live c.side-side.result c.in_ok-root.root c.in_ok-root.ensures in
    subst (λ k. IsReduced (g.K.M.Ordered.monoid_of k) c.in_ok-opened.opened.work.reduced) (sym c.monoid-m.ensures)
    (subst (IsReduced M) (sym c.in_ok-opened.ensures.reduced) reduced)

pub prune_work-requires-clause-side : goal.prune_work-requires-clause-side
prune_work-requires-clause-side g c =
    let kind = c.args.kind.now in
    let m = g.K.Kind.monoid kind in
    let M = g.K.M.Ordered.monoid_of m in
    let live = enters_values M (g.K.Kind.entered kind) (g.K.Kind.objective kind) (g.K.Kind.reach kind) c.args.inst.now c.requires.reach c.rows-rows.ensures.instance c.requires.passes (g.met.K.Kind.enters_value kind) in
    let root = c.in_ok-root.root in
    let over = root_matching M (g.met.K.M.Ordered.laws m) (g.K.M.DMonoid.difference m) (g.K.Kind.entered kind) c.args.inst.now live c.side-side.result root c.in_ok-root.ensures in
    let size : length c.in_ok-opened.opened.work.matching ≡ length root.matching = λ i. length (c.in_ok-opened.ensures.matching i) in
    let side : c.in_ok-opened.opened.work.reduced.now.side ≡ root.reduced.now.side = λ i. (c.in_ok-opened.ensures.reduced i).now.side in
    size ∙ over ∙ sym side

pub returns : goal.returns
returns g c =
    let kind = c.args.kind.now in
    let m = g.K.Kind.monoid kind in
    let M = g.K.M.Ordered.monoid_of m in
    let live = enters_values M (g.K.Kind.entered kind) (g.K.Kind.objective kind) (g.K.Kind.reach kind) c.args.inst.now c.requires.reach c.rows-rows.ensures.instance c.requires.passes (g.met.K.Kind.enters_value kind) in
    let opened = c.in_ok-opened.ensures in
    let pruned = c.prune_work.ensures in
    let work = c.prune_work.new.work in
    let columns : length work.columns.items ≡ length c.in_ok-opened.opened.work.columns.items = λ i. length (pruned.columns i).items in
    let room : length work.room.items ≡ length c.in_ok-opened.opened.work.room.items = λ i. length (pruned.room i).items in
    root_opened M (g.met.K.M.Ordered.laws m) (g.K.M.DMonoid.difference m) (g.K.Kind.entered kind) c.args.inst.now live c.side-side.result c.in_ok-root.root c.in_ok-root.ensures
    (record { work = work; phases = c.in_ok-opened.opened.phases })
    (pruned.reduced ∙ opened.reduced) (pruned.bench ∙ opened.bench)
    (columns ∙ opened.columns ∙ c.side-side.ensures.side)
    (room ∙ opened.room ∙ ap (λ n. n + 1) c.side-side.ensures.side)
    opened.region opened.region_side
    (subst (λ n. n ≤ c.in_ok-opened.opened.phases.region.spare) c.side-side.ensures.side opened.spare)
    opened.last opened.told
    (subst (λ k. AreAbsorbed (g.K.M.Ordered.monoid_of k) work.reduced work.matching) c.monoid-m.ensures pruned.absorbed)
