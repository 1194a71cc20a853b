use Rattle.asg_grade_lists.proofs.Common.{◌≡◌, ◌-◌, length, drop, AreOfGrade}
use Rattle.asg_grade_lists.proofs.amounts.put_others.Given as goal

-- the phases from here on were taken in
abbrev pub invariant-phases : goal.invariant-phases
invariant-phases l = record {
  put : AreOfGrade l.grade (length l.fn.totals.rows) (drop (length l.phases - l.back) l.phases) l.totals;
  side : length l.totals.rows ≡ length l.fn.totals.rows;
  room : length l.room ≡ length l.fn.room;
}
