use Rattle.asg_window.proofs.Common.{◌≡◌, ◌-◌, ◌≤◌}
use Rattle.asg_window.specs.Seekers.{IsSeeker}
use Rattle.asg_window.proofs.gaps.rise.Given as goal

abbrev pub invariant-bounds : goal.invariant-bounds
invariant-bounds l =
    record {
      high : 1 ≤ l.high;
      seeker : IsSeeker l.cells.square.now l.cells.entries.now l.seeker;
      low : l.seeker.band.low ≡ 1;
    }

abbrev pub decreases-bounds : goal.decreases-bounds
decreases-bounds l = 4294967296 - l.high
