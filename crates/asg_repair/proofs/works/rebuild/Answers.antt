use Rattle.asg_repair.proofs.Common.{sym, ap, ◌∙◌, subst, IsAbsorbed, LeadsTo, IsLed, phases_in, AllAllowed, cell_at}
use Rattle.asg_kept_phases.specs.PhasesAlong.{phases_along}
use Rattle.asg_repair.proofs.SessionLemmas.{IsLed-leads, absorbed-led}
use Rattle.asg_repair.proofs.works.rebuild.Given.{Over}
use Rattle.asg_repair.proofs.works.rebuild.Goals as goal

-- the phases led to the square before it was pruned
led_before : (g : Over) (c : goal.After-prune_work g) → let m = g.K.Kind.monoid c.args.kind.now in IsLed (g.K.M.Ordered.monoid_of m) (g.K.M.DMonoid.difference m) (g.K.Kind.entered c.args.kind.now) c.args.inst.now (phases_in c.args.phases.now) c.settle_trails.new.reduced
led_before g c =
    let m = g.K.Kind.monoid c.args.kind.now in
    let M = g.K.M.Ordered.monoid_of m in
    let d = g.K.M.DMonoid.difference m in
    let X = c.args.inst.now in
    let enter = g.K.Kind.entered c.args.kind.now in
    let F = c.args.phases.now.region in
    let way = c.requires.chain.told c.requires.told in
    let along = ap (phases_along F) c.deref.ensures.value ∙ way.along in
    let leads = subst (λ list. LeadsTo M d list c.refill.new.reduced c.settle_trails.new.reduced) along
    (subst (λ k. LeadsTo (g.K.M.Ordered.monoid_of k) (g.K.M.DMonoid.difference k) (phases_along F c.deref.result.now) c.refill.new.reduced c.settle_trails.new.reduced) c.monoid-m.ensures c.settle_trails.ensures.leads) in
    IsLed-leads M (g.met.K.M.Ordered.laws m) d enter X (phases_in c.args.phases.now) c.refill.new.reduced c.settle_trails.new.reduced c.refill.ensures c.requires.admitted leads

pub returns-clause-led : goal.returns-clause-led
returns-clause-led g c =
    let m = g.K.Kind.monoid c.args.kind.now in
    subst (IsLed (g.K.M.Ordered.monoid_of m) (g.K.M.DMonoid.difference m) (g.K.Kind.entered c.args.kind.now) c.args.inst.now (phases_in c.args.phases.now)) (sym c.prune_work.ensures.reduced) (led_before g c)

pub returns-clause-fewer : goal.returns-clause-fewer
returns-clause-fewer g c all =
    let m = g.K.Kind.monoid c.args.kind.now in
    let M = g.K.M.Ordered.monoid_of m in
    let absorbed = absorbed-led M (g.K.M.DMonoid.difference m) (g.K.Kind.entered c.args.kind.now) c.args.inst.now (phases_in c.args.phases.now) c.settle_trails.new.reduced (led_before g c) c.args.work.now.matching all in
    c.prune_work.ensures.fewer (subst (λ n. AllAllowed (IsAbsorbed (g.K.M.Ordered.monoid_of n) c.settle_trails.new.reduced.index (cell_at c.settle_trails.new.reduced.now)) c.args.work.now.matching) (sym c.monoid-m.ensures) absorbed)
