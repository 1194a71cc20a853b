use Rattle.asg_doc_reader.proofs.Common.{next_cut}
use Rattle.asg_doc_reader.proofs.Leaves.{bound_word}
use Rattle.asg_doc_reader.proofs.cost_reader.next_cost.Goals as goal

pub returns-in_err-bound_of : goal.returns-in_err-bound_of
returns-in_err-bound_of c = rw c.from_residual-in_err-bound_of.ensures (λ cost rest lists.
    c.in_err-bound_of.ensures cost lists.has
    (next_cut bound_word c.args.text.now c.in_ok-after.field-0.now c.cut.result.0.now c.cut.result.1.now cost rest c.in_ok-after.ensures c.cut.ensures.whole c.cut.ensures.front c.cut.ensures.rest lists))
