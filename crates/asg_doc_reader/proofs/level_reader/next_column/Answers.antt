use Rattle.asg_doc_reader.proofs.Common.{next_cut}
use Rattle.asg_doc_reader.proofs.Leaves.{column_word}
use Rattle.asg_doc_reader.proofs.level_reader.next_column.Goals as goal

pub returns-in_err-column_of : goal.returns-in_err-column_of
returns-in_err-column_of c = rw c.from_residual-in_err-column_of.ensures (λ column rest lists.
    c.in_err-column_of.ensures column lists.has
    (next_cut column_word c.args.text.now c.in_ok-after.field-0.now c.cut.result.0.now c.cut.result.1.now column rest c.in_ok-after.ensures c.cut.ensures.whole c.cut.ensures.front c.cut.ensures.rest lists))
