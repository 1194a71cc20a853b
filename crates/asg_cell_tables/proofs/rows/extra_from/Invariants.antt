use Rattle.asg_cell_tables.proofs.Common.{◌≡◌, ℕ, ◌<◌, ◌≤◌, get_or, None}
use Rattle.asg_cell_tables.proofs.rows.extra_from.Given as goal

-- no label so far from this place on
abbrev pub invariant-loop-c : goal.invariant-loop-c
invariant-loop-c l = (l.from ≤ l.c) × ((k : ℕ) → l.from ≤ k → k < l.c → get_or l.labels k None ≡ None)
