use Rattle.asg_pool.proofs.Common.{depth_at, phase_at}
use Rattle.asg_pool.proofs.RecordLemmas.{IsUnwound}
use Rattle.asg_pool.proofs.records.Records.unwind.Given as goal

abbrev pub invariant-records : goal.invariant-records
invariant-records g l = IsUnwound l.links.slots (phase_at l.self.steps l.self.enters l.self.leaves) l.fn.last l.next l.phases.items

-- the next record has fewer phases
abbrev pub decreases-records : goal.decreases-records
decreases-records g l = depth_at l.links.slots l.next
