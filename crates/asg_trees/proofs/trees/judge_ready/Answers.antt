use Rattle.asg_trees.proofs.Common.{◌+◌, length, sym, refl, subst, HasPlace, TellsTree, tree_by, TreeVerdict}
use Rattle.asg_trees.proofs.TallyLemmas.{tally_none, told}
use Rattle.asg_trees.proofs.trees.judge_ready.Goals as goal

pub whole_mask-requires : goal.whole_mask-requires
whole_mask-requires g c = c.requires.ready.few

pub judge_root-requires-clause-fair : goal.judge_root-requires-clause-fair
judge_root-requires-clause-fair g c =
    let T = tree_by g.K.M.Ordered.monoid_of g.K.M.DMonoid.difference g.K.M.Written.word_of g.K.Kind.monoid g.K.Kind.entered c.args.kind.now c.args.tree.now in
    let first = c.first_misplaced in
    let nodes = c.args.tree.now.nodes.now in
    tally_none T (record { fault = first.result; left = length nodes + 1 }) first.ensures.from first.ensures.upto
    (λ n from below. subst (λ k. HasPlace k nodes n) c.placed.ensures (first.ensures.before n from below))
    (λ within sound. first.ensures.here within (subst (λ k. HasPlace k nodes first.result) (sym c.placed.ensures) sound.has_place))
    refl

pub returns : goal.returns
returns g c =
    let T = tree_by g.K.M.Ordered.monoid_of g.K.M.DMonoid.difference g.K.M.Written.word_of g.K.Kind.monoid g.K.Kind.entered c.args.kind.now c.args.tree.now in
    let lacking = c.first_lacking-lacking in
    subst (λ (v : TreeVerdict). TellsTree T.monoid T.difference T.word_of T.enter T.problem T.count T.answers T.nodes v)
    (sym c.concluded.ensures)
    (told T c.in_ok-tally.tally c.in_ok-tally.ensures c.requires.some lacking.result lacking.ensures.some lacking.ensures.none)
