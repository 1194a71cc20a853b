use Rattle.asg_hall_windows.proofs.Common.{ℕ, ◌<◌, get_or, Window, AreNamed, KeepsMarks}
use Rattle.asg_hall_windows.proofs.named.name_all.Given as goal

abbrev pub invariant-loop-place : goal.invariant-loop-place
invariant-loop-place l = record {
  kept : KeepsMarks l.initial.named l.named;
  named : (w : ℕ) (d : Window) → w < l.place → AreNamed l.inst (get_or l.windows w d).rows w l.named;
}
