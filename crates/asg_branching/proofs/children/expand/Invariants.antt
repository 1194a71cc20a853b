use Rattle.asg_branching.proofs.Common.{◌≡◌, ℕ, IsGrowing, IsExpanding, fixed_for, given_of, is_active, count_below, Cost, rules_of}
use Rattle.asg_branching.proofs.children.expand.Given as goal

-- the children of the rows so far were made
abbrev pub invariant-rows : goal.invariant-rows
invariant-rows g l =
    record {
      number : l.made ≡ count_below (is_active l.inst) l.row;
      given : given_of l.search ≡ given_of l.fn.search;
      expanding : (enter : Cost → g.row.M-Value.Denot) (count : ℕ) → (let R = rules_of (g.M.Ordered.monoid_of l.m) (g.M.DMonoid.difference l.m) enter in IsGrowing R l.inst count 0 l.fn.search → IsExpanding R l.inst count l.made (fixed_for l.inst l.made l.search) l.search);
    }
