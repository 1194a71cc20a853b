use Rattle.asg_window.proofs.Common.{◌≡◌, length}
use Rattle.asg_window.proofs.DistinctLemmas.{AreGradesBefore}
use Rattle.asg_window.proofs.distinct.distinct_grades.Given as goal

-- the grades so far, of which the last is the greatest
abbrev pub invariant-loop-place : goal.invariant-loop-place
invariant-loop-place l =
    record {
      end : l.place-end ≡ length l.entries;
      before : AreGradesBefore l.entries l.place l.last l.grades.items;
    }
