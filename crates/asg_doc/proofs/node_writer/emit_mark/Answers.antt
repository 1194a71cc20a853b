use Rattle.asg_doc.proofs.Common.{sym, ap, ◌∙◌, mark_text, Wrote-as, Empty}
use Rattle.asg_doc.proofs.node_writer.emit_mark.Goals as goal

pub returns-in-Empty : goal.returns-in-Empty
returns-in-Empty g c =
    Wrote-as (ap (λ mark. mark_text mark c.args.count) (ap Empty c.as_slice.ensures.items ∙ sym c.in-Empty.is)) (c.emit_empty.ensures c.args.count)
