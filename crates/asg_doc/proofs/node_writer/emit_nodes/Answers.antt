use Rattle.asg_doc.proofs.Common.{sym, ap, subst, HasNodeText, ended, node_lines, Wrote-append, Wrote-as, Wrote-nothing}
use Rattle.asg_doc.proofs.ListTexts.{lines_more}
use Rattle.asg_doc.proofs.node_writer.emit_nodes.Goals as goal

pub nodes-init : goal.nodes-init
nodes-init g c = Wrote-nothing _ _ _ _

pub nodes-preserved : goal.nodes-preserved
nodes-preserved g c =
    Wrote-as (lines_more (node_lines c.args.has_grades) c.args.nodes.now c.nodes.node-index c.node-item.result c.nodes-test.true)
    (Wrote-append c.nodes.invariant (Wrote-as (ap (λ node. ended (node_lines c.args.has_grades node)) c.node-item.is) c.emit_node.ensures))

pub emit_node-requires : goal.emit_node-requires
emit_node-requires g c =
    subst (HasNodeText c.args.has_grades) (sym c.node-item.is) (c.requires c.nodes.node-index c.node-item.result c.nodes-test.true)
