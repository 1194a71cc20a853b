use Rattle.asg_model.proofs.Common.{◌≡◌, ℕ, ◌-◌, drop, get_or, All, cost_at, absent, table_cost}
use Rattle.asg_model.proofs.row_rooms.RowRoom.read.Given as goal

-- the costs of the last cells so far
abbrev pub invariant-loop-done : goal.invariant-loop-done
invariant-loop-done l =
    (r c : ℕ) → All (λ cell. cell.0.0 ≡ r) l.cells
    → table_cost l.self.seconds c (get_or l.self.firsts c absent) ≡ cost_at (drop (l.count - l.done) l.cells) r c
