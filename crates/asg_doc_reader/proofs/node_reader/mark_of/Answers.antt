use Rattle.asg_doc_reader.proofs.NodeParts.{no_answered}
use Rattle.asg_doc_reader.proofs.node_reader.mark_of.Goals as goal

pub returns-in_default-pair : goal.returns-in_default-pair
returns-in_default-pair c = no_answered c.args.text.now c.in-Some.counts.now c.in-Some.ensures c.in_default-pair.ensures
