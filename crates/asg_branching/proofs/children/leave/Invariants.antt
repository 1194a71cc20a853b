use Rattle.asg_branching.proofs.Common.{◌≡◌, ℕ, ◌+◌, ◌-◌, ◌<◌, ◌≤◌, IsGrowing, given_of, placed, Cost, entry_at, child_number, rules_of, Open}
use Rattle.asg_branching.proofs.children.leave.Given as goal

-- the children so far were made, and each is open
abbrev pub invariant-branches : goal.invariant-branches
invariant-branches g l =
    record {
      from : 1 ≤ l.branch;
      upto : l.branch ≤ placed l.inst + 1;
      given : given_of l.search ≡ given_of l.fn.search;
      number : l.search.given ≡ l.fn.search.given;
      slots : l.search.slots ≡ l.fn.search.slots;
      parent : (unit : g.row.M-Value.Denot) → entry_at unit l.search.tree.entries.items l.node ≡ entry_at unit l.fn.search.tree.entries.items l.node;
      growing : (enter : Cost → g.row.M-Value.Denot) (count : ℕ) → (let R = rules_of (g.M.Ordered.monoid_of l.m) (g.M.DMonoid.difference l.m) enter in IsGrowing R l.inst count 0 l.fn.search → IsGrowing R l.inst count (l.branch - 1) l.search);
      all_open : (i : ℕ) → 1 ≤ i → i < l.branch → (entry_at (g.M.Ordered.monoid_of l.m).unit l.search.tree.entries.items (child_number (placed l.inst) (l.search.given - 1) i)).state ≡ Open;
    }
