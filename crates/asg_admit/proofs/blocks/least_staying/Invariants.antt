use Rattle.asg_admit.proofs.Common.{IsLeastStaying, held_at, place_of}
use Rattle.asg_admit.proofs.blocks.least_staying.Given as goal

-- the least of the columns so far
abbrev pub invariant-loop-column : goal.invariant-loop-column
invariant-loop-column g l =
    let M = g.M.Ordered.monoid_of l.m in
    IsLeastStaying M (λ k. held_at M l.room l.held (place_of l.end l.leaves k)) l.leaves l.from l.column l.least
