use Rattle.asg_dual_bounds.proofs.Common.{slice_index, sym, ◌∙◌, subst, arith, IsRowAboveBut, part_of, duals_of}
use Rattle.asg_dual_bounds.proofs.BoundLemmas.{child_above}
use Rattle.asg_dual_bounds.proofs.bounds.is_above_child.Goals as goal

pub returns : goal.returns
returns c h objective X of was =
    let k = c.args.k in
    let after = duals_of c.args.after.falls.now c.args.after.rises.now c.args.after.floor in
    let before = duals_of c.args.before.falls.now c.args.before.rises.now c.args.before.floor in
    child_above objective X (part_of c.args.part.columns.now c.args.part.row c.args.part.banned.now) c.args.answer.now k c.args.table.now before after c.are_counts.ensures.table of was (omega (arith, c.if-k-part.false)) (c.are_counts.ensures.falls c.if-not-are_counts.false) (c.are_counts.ensures.rises c.if-not-are_counts.false) (c.are_raised.ensures c.if-not-are_raised.false) (c.are_cells_above.ensures c.if-not-are_cells_above.false)
    (subst (λ banned. IsRowAboveBut c.args.table.now k (slice_index after.falls k) after.rises (slice_index c.args.answer.now k) banned) c.banned_in-banned.ensures (c.is_own_row_above.ensures h))
    (c.are_rows_kept.ensures c.if-not-are_rows_kept.false)

pub are_raised-requires : goal.are_raised-requires
are_raised-requires c = c.are_counts-2.ensures.rises c.if-not-are_counts-2.false ∙ sym (c.are_counts.ensures.rises c.if-not-are_counts.false)

pub clip-requires : goal.clip-requires
clip-requires c = c.are_counts.ensures.room c.if-not-are_counts.false ∙ sym (c.are_counts.ensures.rises c.if-not-are_counts.false)

pub are_cells_above-requires-clause-count : goal.are_cells_above-requires-clause-count
are_cells_above-requires-clause-count c = omega (arith, c.if-answer-rows.false, c.rows.ensures.rows, c.if-k-answer.false)

pub are_cells_above-requires-clause-columns : goal.are_cells_above-requires-clause-columns
are_cells_above-requires-clause-columns c = c.if-answer-rows.false ∙ c.rows.ensures.rows

pub are_cells_above-requires-clause-falls : goal.are_cells_above-requires-clause-falls
are_cells_above-requires-clause-falls c = c.are_counts.ensures.falls c.if-not-are_counts.false

pub are_cells_above-requires-clause-rises : goal.are_cells_above-requires-clause-rises
are_cells_above-requires-clause-rises c = c.are_counts.ensures.rises c.if-not-are_counts.false

pub are_rows_kept-requires-clause-before : goal.are_rows_kept-requires-clause-before
are_rows_kept-requires-clause-before c = c.are_counts-2.ensures.falls c.if-not-are_counts-2.false

pub are_rows_kept-requires-clause-falls : goal.are_rows_kept-requires-clause-falls
are_rows_kept-requires-clause-falls c = c.are_counts.ensures.falls c.if-not-are_counts.false

pub are_rows_kept-requires-clause-rises : goal.are_rows_kept-requires-clause-rises
are_rows_kept-requires-clause-rises c = c.are_counts.ensures.rises c.if-not-are_counts.false

pub are_rows_kept-requires-clause-low : goal.are_rows_kept-requires-clause-low
are_rows_kept-requires-clause-low c = c.clip.ensures.count ∙ c.are_counts.ensures.room c.if-not-are_counts.false

pub are_rows_kept-requires-clause-clipped : goal.are_rows_kept-requires-clause-clipped
are_rows_kept-requires-clause-clipped c = c.clip.ensures.low

pub is_own_row_above-requires-clause-row : goal.is_own_row_above-requires-clause-row
is_own_row_above-requires-clause-row c = omega (arith, c.if-answer-rows.false, c.rows.ensures.rows, c.if-k-answer.false)

pub is_own_row_above-requires-clause-rises : goal.is_own_row_above-requires-clause-rises
is_own_row_above-requires-clause-rises c = c.are_counts.ensures.rises c.if-not-are_counts.false

pub is_own_row_above-requires-clause-low : goal.is_own_row_above-requires-clause-low
is_own_row_above-requires-clause-low c = c.clip.ensures.count ∙ c.are_counts.ensures.room c.if-not-are_counts.false

pub is_own_row_above-requires-clause-clipped : goal.is_own_row_above-requires-clause-clipped
is_own_row_above-requires-clause-clipped c = c.clip.ensures.low
