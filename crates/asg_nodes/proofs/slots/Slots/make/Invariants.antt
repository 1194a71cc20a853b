use Rattle.asg_nodes.proofs.Common.{◌≡◌, ◌≤◌, length, vec_capacity, All}
use Rattle.asg_nodes.proofs.slots.Slots.make.Given as goal

-- so many free slots, each for the side
abbrev pub invariant-slots : goal.invariant-slots
invariant-slots g l =
    record {
      count : length l.free.items ≡ l.counter;
      room : l.room ≤ vec_capacity l.free;
      sides : All (λ slot. length slot.matching ≡ l.side) l.free.items;
    }
