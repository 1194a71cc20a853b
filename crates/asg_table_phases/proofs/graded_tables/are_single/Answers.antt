use Rattle.asg_table_phases.proofs.Common.{◌≡◌, ◌+◌, ◌<◌, ◌≤◌, length, get_or, false, sum_by_more, ap, subst, ⊎_elim, cases_lt, arith, capacity_at, first_copy}
use Rattle.asg_model.specs.declared.parts.Column.{Column}
use Rattle.asg_square.specs.laws.Copies.{capacity_is}
use Rattle.asg_table_phases.proofs.GradedEnds.{single}
use Rattle.asg_table_phases.proofs.graded_tables.are_single.Goals as goal

pub columns-preserved : goal.columns-preserved
columns-preserved c =
    let X = c.args.inst.now in
    let i = c.columns.invariant in
    let d = c.columns.column in
    let none : Column = record { id = 0; cap = 0; usable = false } in
    let columns = c.columns-columns.ensures.columns in
    let within : d < length X.columns = rw columns at c.columns-test.true in
    let same : (get_or c.columns-columns.result.now d none).cap ≡ (get_or X.columns d none).cap = ap (λ xs. (get_or xs d none).cap) columns in
    let capacity : capacity_at X d ≡ (get_or X.columns d none).cap = capacity_is X d none within in
    let more : first_copy X (d + 1) ≡ first_copy X d + (get_or X.columns d none).cap = sum_by_more (λ (column : Column). column.cap) X.columns d none within in
    let one : (get_or X.columns d none).cap ≡ 1 = omega (arith, same, c.if-columns-column-ne1.false) in
    record {
      within = omega (arith, within);
      next = omega (arith, more, i.next, one);
      first = λ e below.
          ⊎_elim
          (λ (early : e < d). i.first e early)
          (λ (last : d ≤ e).
          let is : d ≡ e = omega (arith, last, below) in
          subst (λ n. first_copy X n ≡ n) is i.next)
          (cases_lt e d);
      one = λ e below.
          ⊎_elim
          (λ (early : e < d). i.one e early)
          (λ (last : d ≤ e).
          let is : d ≡ e = omega (arith, last, below) in
          subst (λ n. capacity_at X n ≡ 1) is (omega (arith, capacity, one)))
          (cases_lt e d);
    }

pub returns : goal.returns
returns c = λ _.
    let X = c.args.inst.now in
    let i = c.columns.invariant in
    let past : length X.columns ≤ c.columns.column = rw c.columns-columns.ensures.columns at c.columns-test.false in
    single X (λ d below. i.first d (omega (arith, below, past))) (λ d below. i.one d (omega (arith, below, past)))
