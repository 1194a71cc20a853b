use Rattle.asg_trees.proofs.Common.{ℕ, List, length, Option, ap, ◌∙◌, tree_by}
use Rattle.asg_trees.proofs.NodeFacts.{labels-from_node}
use Rattle.asg_trees.proofs.TallyLemmas.{answer_over, answer_within}
use Rattle.asg_trees.proofs.siblings.judge_children.Goals as goal

pub answer_at-requires-clause-there : goal.answer_at-requires-clause-there
answer_at-requires-clause-there g c =
    let T = tree_by g.K.M.Ordered.monoid_of g.K.M.DMonoid.difference g.K.M.Written.word_of g.K.Kind.monoid g.K.Kind.entered c.args.kind.now c.args.tree.now in
    (answer_within T c.args.parent c.requires.at.sound c.requires.answered).0

pub answer_at-requires-clause-given : goal.answer_at-requires-clause-given
answer_at-requires-clause-given g c =
    let T = tree_by g.K.M.Ordered.monoid_of g.K.M.DMonoid.difference g.K.M.Written.word_of g.K.Kind.monoid g.K.Kind.entered c.args.kind.now c.args.tree.now in
    (answer_within T c.args.parent c.requires.at.sound c.requires.answered).1

pub make_mask-requires-clause-labels : goal.make_mask-requires-clause-labels
make_mask-requires-clause-labels g c =
    labels-from_node c.args.tree.now.inst.now c.args.tree.now.answers.now c.args.tree.now.nodes.now c.args.parent c.args.reduced.now.now c.requires.at.stands.labels

pub make_mask-requires-clause-choice : goal.make_mask-requires-clause-choice
make_mask-requires-clause-choice g c =
    let T = tree_by g.K.M.Ordered.monoid_of g.K.M.DMonoid.difference g.K.M.Written.word_of g.K.Kind.monoid g.K.Kind.entered c.args.kind.now c.args.tree.now in
    ap (λ (f : List (Option ℕ)). length f) c.in_ok-choice.ensures ∙ answer_over T c.requires.ready.valid c.args.parent c.requires.at.sound c.requires.answered

pub judge_members-requires-clause-over : goal.judge_members-requires-clause-over
judge_members-requires-clause-over g c =
    let T = tree_by g.K.M.Ordered.monoid_of g.K.M.DMonoid.difference g.K.M.Written.word_of g.K.Kind.monoid g.K.Kind.entered c.args.kind.now c.args.tree.now in
    ap (λ (f : List (Option ℕ)). length f) c.in_ok-choice.ensures ∙ answer_over T c.requires.ready.valid c.args.parent c.requires.at.sound c.requires.answered
