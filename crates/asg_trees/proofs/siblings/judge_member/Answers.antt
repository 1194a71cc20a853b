use Rattle.asg_trees.proofs.Common.{subst, IsMaskOf, node_at, tree_by}
use Rattle.asg_trees.proofs.DownLemmas.{stands_above}
use Rattle.asg_trees.proofs.NodeFacts.{labels-from_node}
use Rattle.asg_trees.proofs.siblings.judge_member.Goals as goal

pub move_mask-requires-clause-labels : goal.move_mask-requires-clause-labels
move_mask-requires-clause-labels g c =
    labels-from_node c.args.tree.now.inst.now c.args.tree.now.answers.now c.args.tree.now.nodes.now (node_at c.args.tree.now.nodes.now c.args.n).parent c.args.reduced.now.now c.requires.stands.labels

pub tally_node-requires-clause-above : goal.tally_node-requires-clause-above
tally_node-requires-clause-above g c =
    let T = tree_by g.K.M.Ordered.monoid_of g.K.M.DMonoid.difference g.K.M.Written.word_of g.K.Kind.monoid g.K.Kind.entered c.args.kind.now c.args.tree.now in
    let X = c.args.tree.now.inst.now in
    let node = node_at c.args.tree.now.nodes.now c.args.n in
    let kept = c.move_mask.new.kept in
    let mask = subst (λ f. IsMaskOf X f node.branch kept) c.requires.choice (subst (λ b. IsMaskOf X c.args.choice.now b kept) c.branch_of-branch.ensures c.move_mask.ensures.mask) in
    stands_above T c.args.n c.requires.from c.requires.places c.args.reduced.now.now c.args.reduced.now.index kept c.requires.stands mask

pub returns-clause-mask : goal.returns-clause-mask
returns-clause-mask g c = subst (λ b. IsMaskOf c.args.tree.now.inst.now c.args.choice.now b c.move_mask.new.kept) c.branch_of-branch.ensures c.move_mask.ensures.mask
