use Rattle.asg_rank.proofs.Common.{◌≡◌, ◌+◌, length, sym, ap, subst, arith, IsTold}
use Rattle.asg_rank.proofs.NodeSteps.{AreFirstNodes, entry_here, nodes_first, nodes_more, nodes_all}
use Rattle.asg_rank.proofs.written_nodes.push_nodes.Goals as goal

pub nodes-init : goal.nodes-init
nodes-init g c =
    let m = c.args.m.now in
    subst (AreFirstNodes (g.M.Ordered.monoid_of m).unit (g.M.Written.word_of m) c.args.tree.now 0) (sym c.requires.none)
    (nodes_first (g.M.Ordered.monoid_of m).unit (g.M.Written.word_of m) c.args.tree.now)

pub push_node-requires : goal.push_node-requires
push_node-requires g c =
    let M = g.M.Ordered.monoid_of c.args.m.now in
    let T = c.args.tree.now in
    let i = c.nodes.here-index in
    let test = c.nodes-test.true in
    let size = ap length c.deref-here-items.ensures.value in
    let here = entry_here M.unit T.entries.items c.deref-here-items.result.now i c.here-item.result c.deref-here-items.ensures.value c.here-item.is test in
    subst (IsTold M T) here (c.requires.told (i + 1) (omega arith) (omega (arith, test, size)))

pub nodes-preserved : goal.nodes-preserved
nodes-preserved g c =
    let unit = (g.M.Ordered.monoid_of c.args.m.now).unit in
    let word_of = g.M.Written.word_of c.args.m.now in
    let T = c.args.tree.now in
    let i = c.nodes.here-index in
    let here = entry_here unit T.entries.items c.deref-here-items.result.now i c.here-item.result c.deref-here-items.ensures.value c.here-item.is c.nodes-test.true in
    nodes_more unit word_of T i c.nodes.nodes.items c.push_node.new.nodes.items c.nodes.invariant c.here-item.result here c.in_ok-push_node.ensures

pub returns-clause-written : goal.returns-clause-written
returns-clause-written g c =
    let m = c.args.m.now in
    let T = c.args.tree.now in
    let size = ap length c.deref-here-items.ensures.value in
    let all : c.nodes.here-index ≡ length T.entries.items = omega (arith, c.nodes-test.false, size, c.nodes.auto) in
    nodes_all (g.M.Ordered.monoid_of m).unit (g.M.Written.word_of m) T c.nodes.here-index c.nodes.nodes.items all c.nodes.invariant

pub returns-clause-parts : goal.returns-clause-parts
returns-clause-parts g c = c.nodes.invariant.kept
