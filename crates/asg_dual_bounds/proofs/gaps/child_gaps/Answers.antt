use Rattle.asg_dual_bounds.proofs.Common.{length, slice_index, sym, ◌∙◌, subst, arith, get_or-set_other, length-set, IsColumnGapAt, part_of, duals_of}
use Rattle.asg_dual_bounds.proofs.GapLemmas.{child_gap, pick_gap}
use Rattle.asg_dual_bounds.proofs.gaps.child_gaps.Goals as goal

pub first_gap-requires-clause-column : goal.first_gap-requires-clause-column
first_gap-requires-clause-column c =
    c.write_column_gaps.ensures.gaps c.args.part.row (omega (arith, c.if-part-rows.false, c.rows-else-gaps-rows.ensures.rows)) (omega arith)

pub later_gaps-requires-clause-gaps : goal.later_gaps-requires-clause-gaps
later_gaps-requires-clause-gaps c = λ j below more.
    let duals = duals_of c.args.duals.falls.now c.args.duals.rises.now c.args.duals.floor in
    subst (λ gap. IsColumnGapAt c.args.table.now c.args.answer.now j duals gap)
    (sym (get_or-set_other c.write_column_gaps.new.gaps c.args.part.row j c.first_gap.result 0 (λ same. omega (arith, same, more))))
    (c.write_column_gaps.ensures.gaps j below (omega (arith, more)))

pub returns-clause-gaps : goal.returns-clause-gaps
returns-clause-gaps c tested objective X of above k at below =
    let duals = duals_of c.args.duals.falls.now c.args.duals.rises.now c.args.duals.floor in
    let column = c.are_columns.ensures.below c.if-not-are_columns.false k (omega (arith, below, c.rows-2.ensures.rows)) in
    child_gap objective X (part_of c.args.part.columns.now c.args.part.row c.args.part.banned.now) c.args.answer.now k c.args.table.now duals (slice_index c.later_gaps.new.gaps k) c.are_counts.ensures.table of above at (omega (arith, column, c.columns.ensures.columns))
    (pick_gap c.args.table.now c.args.answer.now c.args.part.banned.now duals c.args.part.row k c.first_gap.result c.write_column_gaps.new.gaps c.later_gaps.new.gaps (omega (arith, c.write_column_gaps.ensures.count, c.if-gaps-rows.false, c.if-part-rows.false, c.rows.ensures.rows, c.rows-else-gaps-rows.ensures.rows)) at below c.first_gap.ensures.gap c.later_gaps.ensures.before c.later_gaps.ensures.gaps)

pub write_column_gaps-requires-clause-row : goal.write_column_gaps-requires-clause-row
write_column_gaps-requires-clause-row c = omega (arith, c.if-part-rows.false, c.rows-else-gaps-rows.ensures.rows)

pub write_column_gaps-requires-clause-answer : goal.write_column_gaps-requires-clause-answer
write_column_gaps-requires-clause-answer c = c.are_columns.ensures.count c.if-not-are_columns.false ∙ c.rows-2.ensures.rows

pub write_column_gaps-requires-clause-columns : goal.write_column_gaps-requires-clause-columns
write_column_gaps-requires-clause-columns c = λ r h.
    let below = c.are_columns.ensures.below c.if-not-are_columns.false r (omega (arith, h, c.rows-2.ensures.rows)) in
    omega (arith, below, c.columns-2.ensures.columns)

pub write_column_gaps-requires-clause-falls : goal.write_column_gaps-requires-clause-falls
write_column_gaps-requires-clause-falls c = c.are_counts.ensures.falls c.if-not-are_counts.false

pub write_column_gaps-requires-clause-rises : goal.write_column_gaps-requires-clause-rises
write_column_gaps-requires-clause-rises c = c.are_counts.ensures.rises c.if-not-are_counts.false

pub write_column_gaps-requires-clause-room : goal.write_column_gaps-requires-clause-room
write_column_gaps-requires-clause-room c = c.are_counts.ensures.room c.if-not-are_counts.false

pub write_column_gaps-requires-clause-leasts : goal.write_column_gaps-requires-clause-leasts
write_column_gaps-requires-clause-leasts c = c.if-leasts-columns.false ∙ c.columns.ensures.columns

pub write_column_gaps-requires-clause-gaps : goal.write_column_gaps-requires-clause-gaps
write_column_gaps-requires-clause-gaps c = c.if-gaps-rows.false ∙ c.rows.ensures.rows

pub first_gap-requires-clause-row : goal.first_gap-requires-clause-row
first_gap-requires-clause-row c = omega (arith, c.if-part-rows.false, c.rows-else-gaps-rows.ensures.rows)

pub first_gap-requires-clause-answer : goal.first_gap-requires-clause-answer
first_gap-requires-clause-answer c = c.are_columns.ensures.count c.if-not-are_columns.false ∙ c.rows-2.ensures.rows

pub first_gap-requires-clause-falls : goal.first_gap-requires-clause-falls
first_gap-requires-clause-falls c = c.are_counts.ensures.falls c.if-not-are_counts.false

pub first_gap-requires-clause-rises : goal.first_gap-requires-clause-rises
first_gap-requires-clause-rises c = c.are_counts.ensures.rises c.if-not-are_counts.false

pub first_gap-requires-clause-room : goal.first_gap-requires-clause-room
first_gap-requires-clause-room c = c.write_column_gaps.ensures.room ∙ c.are_counts.ensures.room c.if-not-are_counts.false

pub later_gaps-requires-clause-row : goal.later_gaps-requires-clause-row
later_gaps-requires-clause-row c = omega (arith, c.if-part-rows.false, c.rows-else-gaps-rows.ensures.rows)

pub later_gaps-requires-clause-answer : goal.later_gaps-requires-clause-answer
later_gaps-requires-clause-answer c = c.are_columns.ensures.count c.if-not-are_columns.false ∙ c.rows-2.ensures.rows

pub later_gaps-requires-clause-falls : goal.later_gaps-requires-clause-falls
later_gaps-requires-clause-falls c = c.are_counts.ensures.falls c.if-not-are_counts.false

pub later_gaps-requires-clause-rises : goal.later_gaps-requires-clause-rises
later_gaps-requires-clause-rises c = c.are_counts.ensures.rises c.if-not-are_counts.false

pub later_gaps-requires-clause-room : goal.later_gaps-requires-clause-room
later_gaps-requires-clause-room c = c.first_gap.ensures.count ∙ c.write_column_gaps.ensures.room ∙ c.are_counts.ensures.room c.if-not-are_counts.false

pub later_gaps-requires-clause-count : goal.later_gaps-requires-clause-count
later_gaps-requires-clause-count c = length-set c.write_column_gaps.new.gaps c.args.part.row c.first_gap.result ∙ c.write_column_gaps.ensures.count ∙ c.if-gaps-rows.false ∙ c.rows.ensures.rows

pub returns-clause-count : goal.returns-clause-count
returns-clause-count c = c.later_gaps.ensures.count ∙ length-set c.write_column_gaps.new.gaps c.args.part.row c.first_gap.result ∙ c.write_column_gaps.ensures.count
