use Rattle.asg_thresh.proofs.Common.{◌-◌, ◌≤◌, no_grade, IsBracket}
use Rattle.asg_thresh.specs.Seekers.{HaveSide}
use Rattle.asg_thresh.proofs.thresholds.narrow.Given as goal

abbrev pub invariant-limits : goal.invariant-limits
invariant-limits l =
    record {
      high : l.high ≤ no_grade;
      side : HaveSide l.side l.seeker;
      bracket : IsBracket l.grades l.side l.low l.high l.seeker.perm.items l.seeker.rows.items;
    }

abbrev pub decreases-limits : goal.decreases-limits
decreases-limits l = l.high - l.low
