use Rattle.asg_text.proofs.Common.{row_line}
use Rattle.asg_text.proofs.RectLines.{one_more_row}
use Rattle.asg_text.proofs.rect_texts.put_rows.Goals as goal

pub loop-row-preserved : goal.loop-row-preserved
loop-row-preserved c =
    one_more_row (row_line c.args.inst.now) c.args.text.now.items c.loop-row.row c.loop-row.text.items _ c.loop-row.invariant c.in_ok-put_row.ensures
