use Rattle.asg_text.proofs.Common.{length, ap}
use Rattle.asg_text.proofs.RectLines.{row_put}
use Rattle.asg_text.proofs.rect_texts.put_row.Goals as goal

pub returns : goal.returns
returns c =
    row_put c.args.inst.now c.args.row c.in-Some.parts.firsts.now c.in-Some.parts.seconds.now c.in-Some.ensures.parts c.args.text.now.items c.put_cells.new.text.items _ _
    (ap length c.columns.ensures.columns) c.in_ok-put_cells.ensures c.in_ok-push.ensures.items
