use Rattle.asg_nodes.proofs.Common.{◌-◌, ◌≤◌, length, take, drop, All, AreUpTo, IsLess}
use Rattle.asg_nodes.proofs.slots.place_for.Given as goal

-- the place lies between the two
abbrev pub invariant-places : goal.invariant-places
invariant-places g l =
    let M = g.M.Ordered.monoid_of l.m in
    let used = l.slots.used in
    record {
      order : l.low ≤ l.high;
      within : l.high ≤ length used;
      upto : AreUpTo M l.index (take l.low used);
      above : All (λ slot. IsLess M l.index slot.index) (drop l.high used);
    }

abbrev pub decreases-places : goal.decreases-places
decreases-places g l = l.high - l.low
