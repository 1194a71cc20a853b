use Rattle.asg_replays.proofs.Common.{◌≡◌, length, take, counted_from}
use Rattle.asg_replays.proofs.replays.marks_from.Given as goal

-- the marks so far are counted from the place on
abbrev pub invariant-loop-place : goal.invariant-loop-place
invariant-loop-place l = record {
  end : l.place-end ≡ length l.marks;
  later : l.later.items ≡ counted_from l.from (take l.place l.marks);
}
