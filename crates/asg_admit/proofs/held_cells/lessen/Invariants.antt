use Rattle.asg_admit.proofs.Common.{◌≡◌, ℕ, ◌<◌, ◌≤◌, length, option_map, held_at}
use Rattle.asg_admit.proofs.held_cells.lessen.Given as goal

-- what is held at the places so far was lessened
abbrev pub invariant-loop-place : goal.invariant-loop-place
invariant-loop-place g l =
    let M = g.M.Ordered.monoid_of l.m in
    let d = g.M.DMonoid.difference l.m in
    record {
      room : length l.room ≡ length l.fn.room;
      lessened : (s : ℕ) → s < l.place → held_at M l.room l.held s ≡ option_map (λ y. d y l.product) (held_at M l.fn.room l.held s);
      others : (s : ℕ) → l.place ≤ s → held_at M l.room l.held s ≡ held_at M l.fn.room l.held s;
    }
