use Rattle.asg_text.proofs.Common.{◌≡◌, ◌++◌, map, slice_index_or, join_with_byte, range_with_len, absent, table_cost, cell_text}
use Rattle.asg_text.proofs.rect_texts.put_cells.Given as goal

abbrev pub invariant-loop-column : goal.invariant-loop-column
invariant-loop-column l =
    l.text.items ≡ l.fn.text.items ++ join_with_byte 32 (map (λ c. cell_text (table_cost l.parts.seconds.now c (slice_index_or l.parts.firsts.now c absent))) (range_with_len 0 l.column))
