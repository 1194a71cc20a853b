use Rattle.asg_repair.proofs.Common.{sym, ◌∙◌, phases_in}
use Rattle.asg_repair.proofs.SessionLemmas.{AreAbsorbed-pruned, absorbed-led}
use Rattle.asg_repair.proofs.works.lead.Goals as goal

pub returns-else-not-is_led-clause-absorbed : goal.returns-else-not-is_led-clause-absorbed
returns-else-not-is_led-clause-absorbed g c =
    let m = g.K.Kind.monoid c.args.kind.now in
    let M = g.K.M.Ordered.monoid_of m in
    let work = c.args.work.now in
    let both = c.requires.together.1 in
    let led = both.is_led c.if-not-is_led.false in
    AreAbsorbed-pruned M work.reduced work.matching (c.requires.sized.matching_side ∙ sym c.requires.sized.square.side) c.requires.sized.is_matching
    (absorbed-led M (g.K.M.DMonoid.difference m) (g.K.Kind.entered c.args.kind.now) c.args.inst.now (phases_in c.args.phases.now) work.reduced led work.matching (both.absorbed (both.is_whole c.if-not-is_led.false)))
