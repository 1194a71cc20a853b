use Rattle.asg_doc_reader.proofs.Common.{branch_spelling}
use Rattle.asg_doc_reader.proofs.NodeParts.{both_spelled, no_front, no_second}
use Rattle.asg_doc_reader.proofs.node_reader.node_head_of.Goals as goal

pub returns-in_err-below : goal.returns-in_err-below
returns-in_err-below c =
    no_second branch_spelling c.args.text.now c.in-Some.parent c.in-Some.rest.now c.in_err-below.field-0.0 c.from_residual.result c.from_residual.ensures.1 c.in-Some.ensures c.in_err-below.ensures

pub returns-in_default : goal.returns-in_default
returns-in_default c = no_front branch_spelling c.args.text.now c.in_default.ensures

pub returns : goal.returns
returns c = both_spelled branch_spelling c.args.text.now c.in-Some.parent c.in-Some.rest.now _ c.in-Some.ensures c.in_ok-below.ensures
