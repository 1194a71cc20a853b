use Rattle.asg_text.proofs.Common.{◌++◌, slice_index_or, ap, ◌∙◌, absent, table_cost, next_text, cell_text}
use Rattle.asg_text.proofs.RectLines.{one_more_token}
use Rattle.asg_text.proofs.rect_texts.put_cells.Goals as goal

pub loop-column-preserved : goal.loop-column-preserved
loop-column-preserved c =
    one_more_token (λ d. cell_text (table_cost c.args.parts.now.seconds.now d (slice_index_or c.args.parts.now.firsts.now d absent))) c.args.text.now.items c.loop-column.column c.loop-column.text.items _ c.loop-column.invariant
    (c.in_ok-put_next.ensures ∙ ap (λ cell. c.loop-column.text.items ++ next_text c.loop-column.column (cell_text cell)) c.cost.ensures)
