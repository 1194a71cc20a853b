use Rattle.asg_thresh.proofs.Common.{ℕ, ◌<◌, ◌≤◌, All, sym, subst, arith, All-contains, OnFalse_at, OnTrue_at, IsDeficient, grade_at, IsUpTo, IsUnder, IsAssignmentUpTo}
use Rattle.asg_thresh.proofs.CellLemmas.{IsDeficient-fewer}
use Rattle.asg_thresh.proofs.thresholds.narrow.Goals as goal

pub limits-smaller-then-branch : goal.limits-smaller-then-branch
limits-smaller-then-branch c =
    let found = OnTrue_at c.if-branch.true c.in_ok-seek.ensures.assignment in
    let least = c.greatest_grade-high.ensures.least c.middle-limit.result (subst (IsAssignmentUpTo c.args.grades.now c.args.side c.middle-limit.result) (sym c.as_slice.ensures.value) found) in
    omega (arith, least, c.middle-limit.ensures.low, c.middle-limit.ensures.high, c.limits-test.true)

pub limits-preserved-then-branch : goal.limits-preserved-then-branch
limits-preserved-then-branch c =
    let inv = c.limits.invariant in
    let found = OnTrue_at c.if-branch.true c.in_ok-seek.ensures.assignment in
    let stay = OnTrue_at c.if-branch.true c.in_ok-seek.ensures.rows_stay in
    let least = c.greatest_grade-high.ensures.least c.middle-limit.result (subst (IsAssignmentUpTo c.args.grades.now c.args.side c.middle-limit.result) (sym c.as_slice.ensures.value) found) in
    record {
      high = omega (arith, least, c.middle-limit.ensures.high, inv.high);
      side = c.in_ok-seek.ensures.side;
      bracket = record {
        assignment = λ _. subst (IsAssignmentUpTo c.args.grades.now c.args.side c.greatest_grade-high.result) c.as_slice.ensures.value c.greatest_grade-high.ensures.assignment;
        deficient = subst (IsDeficient (IsUnder c.args.grades.now c.args.side c.limits.low) c.args.side) (sym stay) inv.bracket.deficient;
      };
    }

pub limits-preserved : goal.limits-preserved
limits-preserved c =
    let inv = c.limits.invariant in
    let grades = c.args.grades.now in
    let side = c.args.side in
    let limit = c.middle-limit.result in
    let next = c.next_grade-low.result in
    let short = OnFalse_at c.if-branch.false c.in_ok-seek.ensures.deficient in
    let stay = OnFalse_at c.if-branch.false c.in_ok-seek.ensures.columns_stay in
    let each = subst (All (λ r. (d : ℕ) → d < side → grade_at grades side r d < next → grade_at grades side r d ≤ limit)) c.as_slice-else-branch.ensures.value c.next_grade-low.ensures.each in
    record {
      high = inv.high;
      side = c.in_ok-seek.ensures.side;
      bracket = record {
        assignment = λ h. subst (IsAssignmentUpTo grades side c.limits.high) (sym stay) (inv.bracket.assignment h);
        deficient = IsDeficient-fewer (IsUpTo grades side limit) (IsUnder grades side next) side c.seek.new.self.rows.items
            (λ r d of under. record {
              row = under.row;
              column = under.column;
              grade = All-contains (λ s. (e : ℕ) → e < side → grade_at grades side s e < next → grade_at grades side s e ≤ limit) c.seek.new.self.rows.items r each of d under.column under.grade;
            })
            short;
      };
    }

pub returns-clause-least : goal.returns-clause-least
returns-clause-least c =
    let inv = c.limits.invariant in
    let grades = c.args.grades.now in
    let side = c.args.side in
    record {
      assignment = inv.bracket.assignment;
      deficient = IsDeficient-fewer (IsUnder grades side c.limits.low) (IsUnder grades side c.limits.high) side c.limits.seeker.rows.items
          (λ r d of under. record { row = under.row; column = under.column; grade = let less = under.grade in omega (arith, less, c.limits-test.false) })
          inv.bracket.deficient;
    }
