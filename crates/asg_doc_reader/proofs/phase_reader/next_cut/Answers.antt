use Rattle.asg_doc_reader.proofs.Common.{next_cut}
use Rattle.asg_doc_reader.proofs.Leaves.{step_word}
use Rattle.asg_doc_reader.proofs.phase_reader.next_cut.Goals as goal

pub returns-in_err-step_of : goal.returns-in_err-step_of
returns-in_err-step_of c = rw c.from_residual-in_err-step_of.ensures (λ step rest lists.
    c.in_err-step_of.ensures step lists.has
    (next_cut (step_word c.args.has_grades) c.args.text.now c.in_ok-after.field-0.now c.cut.result.0.now c.cut.result.1.now step rest c.in_ok-after.ensures c.cut.ensures.whole c.cut.ensures.front c.cut.ensures.rest lists))
