use Rattle.asg_phase_totals.proofs.Common.{length, sym, ap, ◌∙◌, arith, Totals, count_is}
use Rattle.asg_phase_totals.proofs.phase_totals.PhaseTotals.clear.Goals as goal

pub returns-clause-totals : goal.returns-clause-totals
returns-clause-totals g c =
    let N = g.N.SumNumber in
    let law = g.met.N.SumNumber.numbers_law in
    let s = c.self.inside in
    let rows = c.clear.new.numbers.items in
    let columns = c.clear-2.new.numbers.items in
    record {
      rows = λ r h. c.clear.ensures.each r (omega (arith, h, c.clear.ensures.count, count_is law rows));
      columns = λ k h. c.clear-2.ensures.each k (omega (arith, h, c.clear.ensures.count, count_is law rows, c.self.invariant.count, count_is law s.rows.items, count_is law s.columns.items));
      sum = c.zero-self-inside.ensures;
      right = tt;
    }

pub returns-clause-side : goal.returns-clause-side
returns-clause-side g c =
    let N = g.N.SumNumber in
    let law = g.met.N.SumNumber.numbers_law in
    let s = c.self.inside in
    count_is law c.clear.new.numbers.items
    ∙ c.clear.ensures.count
    ∙ sym (count_is law s.rows.items)
    ∙ ap (λ (t : Totals). length t.rows) c.self.view_is

pub invariant_of-self : goal.invariant_of-self
invariant_of-self g c =
    let N = g.N.SumNumber in
    let law = g.met.N.SumNumber.numbers_law in
    let s = c.self.inside in
    let rows = c.clear.new.numbers.items in
    let columns = c.clear-2.new.numbers.items in
    let row_count = count_is law rows in
    let column_count = count_is law columns in
    let row_count_before = count_is law s.rows.items in
    let column_count_before = count_is law s.columns.items in
    record {
      few = omega (arith, row_count, c.clear.ensures.count, row_count_before, c.self.invariant.few);
      count = omega (arith, row_count, column_count, c.clear.ensures.count, c.clear-2.ensures.count, row_count_before, column_count_before, c.self.invariant.count);
      rows_within = λ r h. let none = c.clear.ensures.each r (omega (arith, h, row_count, c.clear.ensures.count)) in omega (arith, none);
      columns_within = λ k h. let none = c.clear-2.ensures.each k (omega (arith, h, row_count, c.clear.ensures.count, row_count_before, column_count_before, c.self.invariant.count)) in omega (arith, none);
      sum_within = omega (arith, c.zero-self-inside.ensures);
    }
