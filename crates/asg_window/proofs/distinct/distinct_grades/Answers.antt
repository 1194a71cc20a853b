use Rattle.asg_window.proofs.Common.{◌+◌, ◌<◌, ◌≤◌, length, sym, refl, ap, ◌∙◌, subst, arith, entry_at, entry_of}
use Rattle.asg_window.proofs.DistinctLemmas.{AreGradesBefore, grades_none, grades_push, grades_skip}
use Rattle.asg_window.proofs.distinct.distinct_grades.Goals as goal
use Rattle.asg_window.proofs.distinct.distinct_grades.Goals.{then-last-grade+in_ok-push, else-last-grade}

pub loop-place-preserved : goal.loop-place-preserved
loop-place-preserved c =
    let entries = c.args.entries.now in
    let inv = c.loop-place.invariant in
    let within : c.loop-place.place < length entries = omega (arith, c.loop-place-test.true, inv.end, c.loop-place.auto.place-end) in
    elim c.if-last-grade.branch [
      | then-last-grade+in_ok-push w ↦
          record {
            end = inv.end;
            before = subst (λ n. AreGradesBefore entries (c.loop-place.place + 1) n c.if-last-grade.grades.items) (sym w.last-is)
                (subst (AreGradesBefore entries (c.loop-place.place + 1) (entry_at entries c.loop-place.place).grade) (sym (ap (λ v. v.items) w.grades-is ∙ w.in_ok-push.ensures.items))
                (grades_push entries c.loop-place.place c.loop-place.last c.loop-place.grades.items c.requires.ascending within inv.before w.if-last-grade.true));
          }
      | else-last-grade w ↦
          record {
            end = inv.end;
            before = subst (λ n. AreGradesBefore entries (c.loop-place.place + 1) n c.if-last-grade.grades.items) (sym w.last-is)
                (subst (AreGradesBefore entries (c.loop-place.place + 1) c.loop-place.last) (sym (ap (λ v. v.items) w.grades-is))
                (grades_skip entries c.loop-place.place c.loop-place.last c.loop-place.grades.items c.requires.ascending within inv.before (c.requires.live c.loop-place.place (entry_of 0 0 0) within) w.if-last-grade.false));
          }
    ]

pub loop-place-init : goal.loop-place-init
loop-place-init c =
    record { end = refl; before = subst (AreGradesBefore c.args.entries.now 0 0) (sym c.new-grades.ensures.items) (grades_none c.args.entries.now) }

pub returns : goal.returns
returns c =
    let inv = c.loop-place.invariant in
    let all : length c.args.entries.now ≤ c.loop-place.place = omega (arith, c.loop-place-test.false, inv.end, c.loop-place.auto.place-end) in
    let before = inv.before in
    record {
      ascending = before.ascending;
      each = before.each;
      every = λ k h. before.every k (omega (arith, h, all));
    }
