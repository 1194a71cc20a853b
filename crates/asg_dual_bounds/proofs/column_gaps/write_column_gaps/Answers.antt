use Rattle.asg_dual_bounds.proofs.Common.{◌≡◌, ◌+◌, ◌-◌, ◌∙◌, arith, length-set, IsColumnGapAt, duals_of}
use Rattle.asg_dual_bounds.proofs.GapLemmas.{column_gap_at, gaps_down, leasts_more}
use Rattle.asg_dual_bounds.proofs.column_gaps.write_column_gaps.Goals as goal

pub rows-preserved : goal.rows-preserved
rows-preserved c =
    let table = c.args.table.now in
    let duals = duals_of c.args.duals.falls.now c.args.duals.rises.now c.args.duals.floor in
    let k = c.rows-rows.result - 1 - c.rows.done in
    let at : k + (c.rows.done + 1) ≡ table.rows = omega (arith, c.rows-rows.ensures.rows, c.rows-test.true) in
    record {
      wide = c.lessen_by_row.ensures.count ∙ c.rows.invariant.wide;
      leasts = leasts_more table c.rows.done k duals.falls c.clip.new.low c.rows.leasts c.lessen_by_row.new.leasts at c.rows.invariant.leasts c.lessen_by_row.ensures.less c.lessen_by_row.ensures.row;
      count = length-set c.rows.gaps k c.column_gap.result ∙ c.rows.invariant.count;
      gaps = gaps_down (λ i gap. IsColumnGapAt table c.args.answer.now i duals gap) table.rows c.rows.done k c.column_gap.result c.rows.gaps at (omega (arith, at, c.rows.invariant.count, c.requires.gaps)) c.rows.invariant.gaps
          (column_gap_at table c.args.answer.now c.rows.done k duals c.clip.new.low c.rows.leasts c.column_gap.result at c.clip.ensures.low c.rows.invariant.leasts (omega (arith, c.requires.rises, c.requires.columns k (omega (arith, at)))) c.column_gap.ensures.least c.column_gap.ensures.few c.column_gap.ensures.floored);
    }

pub returns-clause-gaps : goal.returns-clause-gaps
returns-clause-gaps c = λ j below from. c.rows.invariant.gaps j below (omega (arith, from, c.rows-test.false, c.rows-rows.ensures.rows))
