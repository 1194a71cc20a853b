use Rattle.asg_kept_cells.proofs.Common.{ℕ, ◌<◌, ◌≢◌, get_or}
use Rattle.asg_kept_cells.proofs.hall_tests.is_fresh.Given as goal

-- none so far is that at the place
abbrev pub invariant-loop-earlier : goal.invariant-loop-earlier
invariant-loop-earlier l = (k : ℕ) → k < l.earlier → get_or l.ids k 0 ≢ get_or l.ids l.place 0
