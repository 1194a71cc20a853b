use Rattle.asg_pool.proofs.Common.{sym, phase_at}
use Rattle.asg_pool.proofs.PathLemmas.{parent_is}
use Rattle.asg_pool.proofs.RecordLemmas.{IsUnwound-next}
use Rattle.asg_pool.proofs.records.Records.unwind.Goals as goal

pub records-preserved : goal.records-preserved
records-preserved g c =
    let slots = c.args.links.now.slots in
    let k = c.in-Some.k in
    let s = c.args.self.now in
    let parent = sym (parent_is slots k c.link-next.result c.link-next.ensures) in
    IsUnwound-next slots c.requires.rooted (phase_at s.steps s.enters s.leaves) c.args.last k c.records.phases.items
    c.records.next c.link-next.result.parent c.push.new.self.items c.in_ok-phase.field-0 c.in-Some.is parent c.in_ok-push.ensures.items c.in_ok-phase.ensures c.records.invariant
