use Rattle.asg_doc.proofs.Common.{length, ap, mark_text, Wrote-append, Wrote-as}
use Rattle.asg_doc.proofs.ListTexts.{node_whole}
use Rattle.asg_doc.proofs.node_writer.emit_node_head.Goals as goal

pub returns : goal.returns
returns g c =
    let node = c.args.node.now in
    Wrote-as (node_whole node.parent node.branch (mark_text node.mark (length node.own)))
    (Wrote-append c.emit.ensures
    (Wrote-append c.emit_next.ensures
    (Wrote-append c.emit_next-2.ensures
    (Wrote-append c.emit-2.ensures
    (Wrote-append (Wrote-as (ap (mark_text node.mark) c.len.ensures.count) c.emit_mark.ensures) c.emit-3.ensures)))))
