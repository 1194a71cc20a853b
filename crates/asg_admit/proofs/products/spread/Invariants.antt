use Rattle.asg_admit.proofs.Common.{◌≡◌, ℕ, ◌+◌, ◌≤◌, length, slice_index_or, between, step_of}
use Rattle.asg_admit.proofs.products.spread.Given as goal

-- the products ahead so far
abbrev pub invariant-loop-ahead : goal.invariant-loop-ahead
invariant-loop-ahead g l =
    let M = g.M.Ordered.monoid_of l.m in
    record {
      room : length l.room ≡ length l.fn.room;
      ahead : (j : ℕ) → l.from ≤ j → j ≤ l.ahead → slice_index_or l.room j M.unit ≡ between M (step_of M l.steps) l.from j;
    }

-- all products ahead, and those behind so far
abbrev pub invariant-loop-back : goal.invariant-loop-back
invariant-loop-back g l =
    let M = g.M.Ordered.monoid_of l.m in
    record {
      room : length l.room ≡ length l.fn.room;
      ahead : (j : ℕ) → l.from ≤ j → j ≤ length l.steps → slice_index_or l.room j M.unit ≡ between M (step_of M l.steps) l.from j;
      behind : (j : ℕ) → l.from ≤ j + l.back → j ≤ l.from → slice_index_or l.room j M.unit ≡ between M (step_of M l.steps) j l.from;
    }
