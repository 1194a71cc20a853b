use Rattle.asg_dual_bounds.proofs.Common.{length, ap, ◌∙◌, arith}
use Rattle.asg_dual_bounds.proofs.TableLemmas.{filled_more, table_is}
use Rattle.asg_dual_bounds.proofs.number_tables.NumberTable.of.Goals as goal

pub fill_row-requires-clause-there : goal.fill_row-requires-clause-there
fill_row-requires-clause-there c = omega (arith, c.rows-test.true, ap length c.rows-rows.ensures.rows)

pub fill_row-requires-clause-columns : goal.fill_row-requires-clause-columns
fill_row-requires-clause-columns c = ap length c.columns-columns.ensures.columns

pub rows-preserved : goal.rows-preserved
rows-preserved c = record {
  whole = c.fill_row.ensures.count ∙ c.rows.invariant.whole;
  low = c.fill_row.ensures.low;
  filled = filled_more c.args.objective c.args.inst.now (length c.columns-columns.result.now) c.rows.row c.rows.slots.items c.fill_row.new.slots.items c.rows.invariant.filled c.fill_row.ensures.row c.fill_row.ensures.before;
}

pub returns : goal.returns
returns c =
    table_is c.args.objective c.args.inst.now (length c.rows-rows.result.now) (length c.columns-columns.result.now) c.rows.slots.items (ap length c.rows-rows.ensures.rows) (ap length c.columns-columns.ensures.columns) c.rows.invariant.whole
    (λ r k h w. c.rows.invariant.filled r k (omega (arith, h, c.rows-test.false)) w)
