use Rattle.asg_window.proofs.Common.{◌+◌, ◌-◌, IsAscent}
use Rattle.asg_window.proofs.gaps.lessen.Given as goal

abbrev pub invariant-bands : goal.invariant-bands
invariant-bands l = IsAscent l.cells.square.now l.cells.entries.now l.seeker l.ascent

abbrev pub decreases-bands : goal.decreases-bands
decreases-bands l = (4294967296 - l.ascent.low) + l.ascent.spread
