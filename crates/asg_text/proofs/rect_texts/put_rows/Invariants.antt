use Rattle.asg_text.proofs.Common.{◌≡◌, ◌++◌, flat_map, range_with_len, row_line}
use Rattle.asg_text.proofs.rect_texts.put_rows.Given as goal

abbrev pub invariant-loop-row : goal.invariant-loop-row
invariant-loop-row l = l.text.items ≡ l.fn.text.items ++ flat_map (row_line l.inst) (range_with_len 0 l.row)
