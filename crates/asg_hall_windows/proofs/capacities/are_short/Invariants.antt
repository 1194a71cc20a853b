use Rattle.asg_hall_windows.proofs.Common.{ℕ, ◌+◌, ◌<◌, length, get_or, Band, Window, ReachesMarked, reached_capacity, slack}
use Rattle.asg_hall_windows.proofs.capacities.are_short.Given as goal

abbrev pub invariant-loop-place : goal.invariant-loop-place
invariant-loop-place l = (w : ℕ) (d : Window) (band : Band) → w < l.place → ReachesMarked l.inst band (get_or l.windows w d).rows l.reached w → reached_capacity l.inst band (get_or l.windows w d).rows + slack l.inst < length (get_or l.windows w d).rows
