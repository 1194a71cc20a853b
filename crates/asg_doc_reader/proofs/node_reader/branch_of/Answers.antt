use Rattle.asg_doc_reader.proofs.Common.{mark_spelling}
use Rattle.asg_doc_reader.proofs.NodeParts.{both_spelled, no_front, no_second}
use Rattle.asg_doc_reader.proofs.node_reader.branch_of.Goals as goal

pub returns-in_err-marked : goal.returns-in_err-marked
returns-in_err-marked c =
    no_second mark_spelling c.args.text.now c.in-Some.branch c.in-Some.rest.now c.in_err-marked.field-0.0 c.from_residual.result c.from_residual.ensures.1 c.in-Some.ensures c.in_err-marked.ensures

pub returns-in_default : goal.returns-in_default
returns-in_default c = no_front mark_spelling c.args.text.now c.in_default.ensures

pub returns : goal.returns
returns c = both_spelled mark_spelling c.args.text.now c.in-Some.branch c.in-Some.rest.now _ c.in-Some.ensures c.in_ok-marked.ensures
