use Rattle.asg_dual_bounds.proofs.Common.{sym, ◌∙◌, arith}
use Rattle.asg_dual_bounds.proofs.TableLemmas.{number_in-within}
use Rattle.asg_dual_bounds.proofs.bounds.is_above.Goals as goal

pub are_floored-requires : goal.are_floored-requires
are_floored-requires c = c.are_counts.ensures.room c.if-not-are_counts.false ∙ sym (c.are_counts.ensures.rises c.if-not-are_counts.false)

pub are_rows_above-requires-clause-falls : goal.are_rows_above-requires-clause-falls
are_rows_above-requires-clause-falls c = c.are_counts.ensures.falls c.if-not-are_counts.false

pub are_rows_above-requires-clause-rises : goal.are_rows_above-requires-clause-rises
are_rows_above-requires-clause-rises c = c.are_counts.ensures.rises c.if-not-are_counts.false

pub are_rows_above-requires-clause-low : goal.are_rows_above-requires-clause-low
are_rows_above-requires-clause-low c = c.are_floored.ensures.count ∙ c.are_counts.ensures.room c.if-not-are_counts.false

pub are_rows_above-requires-clause-clipped : goal.are_rows_above-requires-clause-clipped
are_rows_above-requires-clause-clipped c = c.are_floored.ensures.low c.if-not-are_floored.false

pub returns : goal.returns
returns c h objective X part of =
    let table = c.args.table.now in
    let rises = c.are_counts.ensures.rises c.if-not-are_counts.false in
    record {
      rows = c.are_counts.ensures.falls c.if-not-are_counts.false ∙ of.rows;
      columns = rises ∙ of.columns;
      cells = λ r k x is allowed.
          let there = sym (of.numbers r k) ∙ is in
          c.are_rows_above.ensures h r (number_in-within table r k x c.are_counts.ensures.table there).0 k x there;
      floored = λ k below. c.are_floored.ensures.floored c.if-not-are_floored.false k (omega (arith, below, rises, of.columns));
    }
