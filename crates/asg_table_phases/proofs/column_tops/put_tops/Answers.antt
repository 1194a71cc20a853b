use Rattle.asg_table_phases.proofs.Common.{◌≡◌, ◌+◌, ◌<◌, ◌≤◌, length, get_or, false, sum_by_more, ap, ◌∙◌, arith, All-get_or, capacity_at, first_copy}
use Rattle.asg_model.proofs.Kit.{length-set}
use Rattle.asg_model.specs.declared.parts.Column.{Column}
use Rattle.asg_square.specs.laws.Copies.{capacity_is}
use Rattle.asg_table_phases.proofs.ColumnCopies.{all_end, copied_there, more_tops}
use Rattle.asg_table_phases.proofs.column_tops.put_tops.Goals as goal

pub columns-preserved : goal.columns-preserved
columns-preserved c =
    let X = c.args.inst.now in
    let i = c.columns.invariant in
    let d = c.columns.column in
    let none : Column = record { id = 0; cap = 0; usable = false } in
    let columns = c.columns-columns.ensures.columns in
    let within : d < length X.columns = rw columns at c.columns-test.true in
    let same : (get_or c.columns-columns.result.now d none).cap ≡ (get_or X.columns d none).cap = ap (λ xs. (get_or xs d none).cap) columns in
    let capacity : capacity_at X d ≡ (get_or X.columns d none).cap = capacity_is X d none within in
    let wide = All-get_or (λ (column : Column). (1 ≤ column.cap) × (column.cap ≤ 1000)) X.columns d none within c.columns-columns.ensures.instance.well_formed.capacities in
    let more : first_copy X (d + 1) ≡ first_copy X d + (get_or X.columns d none).cap = sum_by_more (λ (column : Column). column.cap) X.columns d none within in
    let few = c.columns-columns.ensures.instance.well_formed.few_columns in
    record {
      within = omega (arith, within);
      count = length-set c.columns.tops d c.top_between.result ∙ i.count;
      few = omega (arith, i.few, same, wide.1);
      first = omega (arith, i.first, same, more);
      tops = more_tops X c.args.numbers.now c.columns.tops d c.top_between.result (omega (arith, within, few, i.count)) i.tops
          (λ k from below inside. c.top_between.ensures k (omega (arith, from, i.first)) (omega (arith, below, i.first, same, capacity)) inside);
    }

pub returns : goal.returns
returns c =
    let X = c.args.inst.now in
    let i = c.columns.invariant in
    let past : length X.columns ≤ c.columns.column = rw c.columns-columns.ensures.columns at c.columns-test.false in
    record {
      tops = λ k d inside label. i.tops k d (let there = copied_there X k d label in omega (arith, there, past)) inside label;
      copies = all_end X c.columns.column c.columns.first past i.first;
    }
