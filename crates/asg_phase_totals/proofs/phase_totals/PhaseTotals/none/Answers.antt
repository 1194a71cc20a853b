use Rattle.asg_phase_totals.proofs.Common.{◌≡◌, length, ◌∙◌, arith, count_is}
use Rattle.asg_phase_totals.proofs.phase_totals.PhaseTotals.none.Goals as goal

pub invariant_of-result : goal.invariant_of-result
invariant_of-result g c =
    let N = g.N.SumNumber in
    let law = g.met.N.SumNumber.numbers_law in
    let rows = c.clear.new.numbers.items in
    let columns = c.clear-2.new.numbers.items in
    let row_count : length (N.numbers rows) ≡ c.args.side = count_is law rows ∙ omega (arith, c.clear.ensures.count, c.in_ok-rows.ensures.len) in
    let column_count : length (N.numbers columns) ≡ c.args.side = count_is law columns ∙ omega (arith, c.clear-2.ensures.count, c.in_ok-columns.ensures.len) in
    let row_length = count_is law rows in
    let column_length = count_is law columns in
    record {
      few = omega (arith, row_count, c.requires);
      count = omega (arith, row_count, column_count);
      rows_within = λ r h. let none = c.clear.ensures.each r (omega (arith, h, row_length, c.clear.ensures.count)) in omega (arith, none);
      columns_within = λ k h. let none = c.clear-2.ensures.each k (omega (arith, h, row_count, column_count, column_length, c.clear-2.ensures.count)) in omega (arith, none);
      sum_within = omega (arith, c.zero-3.ensures);
    }

pub returns-clause-totals : goal.returns-clause-totals
returns-clause-totals g c =
    let N = g.N.SumNumber in
    let law = g.met.N.SumNumber.numbers_law in
    let rows = c.clear.new.numbers.items in
    let columns = c.clear-2.new.numbers.items in
    let row_count : length (N.numbers rows) ≡ c.args.side = count_is law rows ∙ omega (arith, c.clear.ensures.count, c.in_ok-rows.ensures.len) in
    let column_count : length (N.numbers columns) ≡ c.args.side = count_is law columns ∙ omega (arith, c.clear-2.ensures.count, c.in_ok-columns.ensures.len) in
    let row_length = count_is law rows in
    let column_length = count_is law columns in
    record {
      rows = λ r h. c.clear.ensures.each r (omega (arith, h, row_length, c.clear.ensures.count));
      columns = λ k h. c.clear-2.ensures.each k (omega (arith, h, row_count, column_count, column_length, c.clear-2.ensures.count));
      sum = c.zero-3.ensures;
      right = tt;
    }

pub returns-clause-side : goal.returns-clause-side
returns-clause-side g c =
    let N = g.N.SumNumber in
    let rows = c.clear.new.numbers.items in
    count_is g.met.N.SumNumber.numbers_law rows ∙ omega (arith, c.clear.ensures.count, c.in_ok-rows.ensures.len)
