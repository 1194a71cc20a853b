use Rattle.asg_thresh.proofs.Common.{◌≤◌, get_or, arith, below_more, grade_at}
use Rattle.asg_thresh.proofs.thresholds.greatest_grade.Goals as goal
use Rattle.asg_thresh.proofs.thresholds.greatest_grade.Goals.{then-grade-greatest, else-grade-greatest}

pub loop-row-preserved : goal.loop-row-preserved
loop-row-preserved c =
    let inv = c.loop-row.invariant in
    let grades = c.args.grades.now in
    let side = c.args.side in
    let perm = c.args.perm.now in
    let row = c.loop-row.row in
    elim c.if-grade-greatest.branch [
      | then-grade-greatest w ↦
          record {
            upto = below_more (λ r. grade_at grades side r (get_or perm r 0) ≤ c.if-grade-greatest.greatest) row
                (λ r h. let before = inv.upto r h in omega (arith, before, w.greatest-is, w.if-grade-greatest.true))
                (omega (arith, w.greatest-is));
            least = λ limit a. let cell = (a.cells row (omega (arith, a.over))).grade in omega (arith, cell, w.greatest-is);
          }
      | else-grade-greatest w ↦
          record {
            upto = below_more (λ r. grade_at grades side r (get_or perm r 0) ≤ c.if-grade-greatest.greatest) row
                (λ r h. let before = inv.upto r h in omega (arith, before, w.greatest-is))
                (omega (arith, w.greatest-is, w.if-grade-greatest.false));
            least = λ limit a. let before = inv.least limit a in omega (arith, before, w.greatest-is);
          }
    ]
