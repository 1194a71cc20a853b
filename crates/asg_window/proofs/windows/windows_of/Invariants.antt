use Rattle.asg_window.proofs.Common.{◌≡◌, ◌≤◌, length}
use Rattle.asg_window.proofs.WindowSteps.{AreHeld}
use Rattle.asg_window.proofs.windows.windows_of.Given as goal

-- the grades so far are held, and those below the reach, by no more windows than grades
abbrev pub invariant-loop-number : goal.invariant-loop-number
invariant-loop-number l =
    record {
      end : l.number-end ≡ length l.grades;
      held : AreHeld l.inst l.square l.gaps l.grades l.spread l.windows.items l.number l.place l.reach;
      few : length l.windows.items ≤ l.number;
    }
