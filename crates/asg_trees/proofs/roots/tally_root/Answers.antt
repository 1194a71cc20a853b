use Rattle.asg_trees.proofs.Common.{◌≡◌, IfSome, Some, None, Option, sym, subst, inl, arith, IfOk-weaker, HaveIndexAfter, node_at, HaveIndex, cell_at, IsTalliedBy, TalliesNode, tree_by, Tally}
use Rattle.asg_trees.proofs.DownLemmas.{known_after, root_above}
use Rattle.asg_trees.proofs.TallyLemmas.{tally_fewer, tally_more}
use Rattle.asg_trees.proofs.roots.tally_root.Goals as goal

pub tally_node-requires-clause-upto : goal.tally_node-requires-clause-upto
tally_node-requires-clause-upto g c = omega (arith, c.if-so_far-le1.false, c.requires.fair.upto)

pub tally_node-requires-clause-places : goal.tally_node-requires-clause-places
tally_node-requires-clause-places g c = λ n from upto. c.requires.fair.places n from (omega (arith, upto, c.if-so_far-le1.false))

pub tally_node-requires-clause-above : goal.tally_node-requires-clause-above
tally_node-requires-clause-above g c =
    let kind = c.args.kind.now in
    let T = tree_by g.K.M.Ordered.monoid_of g.K.M.DMonoid.difference g.K.M.Written.word_of g.K.Kind.monoid g.K.Kind.entered c.args.kind.now c.args.tree.now in
    let m = g.K.Kind.monoid kind in
    root_above T (g.met.K.M.Ordered.laws m) (g.K.M.Written.value_of m) (g.met.K.M.Written.word_laws m) c.args.root.now c.requires.start c.args.kept.now c.requires.kept (c.requires.fair.places 1 (omega arith) c.if-so_far-le1.false)

known_some : {V : Type 0} (P Q : V → Type 0) (known : Option V) → ((index : V) → P index → Q index) → IfSome known P → IfSome known Q
known_some P Q None each h = tt
known_some P Q (Some index) each h = each index h

pub tally_node-requires-clause-known : goal.tally_node-requires-clause-known
tally_node-requires-clause-known g c =
    let kind = c.args.kind.now in
    let T = tree_by g.K.M.Ordered.monoid_of g.K.M.DMonoid.difference g.K.M.Written.word_of g.K.Kind.monoid g.K.Kind.entered c.args.kind.now c.args.tree.now in
    let m = g.K.Kind.monoid kind in
    let start = c.args.root.now in
    let kept = c.args.kept.now in
    let own = (node_at c.args.tree.now.nodes.now 1).own in
    known_some (λ index. HaveIndex T.monoid T.difference T.word_of start.now.side (cell_at start.now) index own) (HaveIndexAfter T.monoid T.difference T.word_of start.now kept start.index own) c.args.known
    (known_after T (g.met.K.M.Ordered.laws m) (g.K.M.Written.value_of m) (g.met.K.M.Written.word_laws m) start c.requires.start kept c.requires.kept own)
    c.requires.known

pub returns-then-so_far-le1 : goal.returns-then-so_far-le1
returns-then-so_far-le1 g c =
    let T = tree_by g.K.M.Ordered.monoid_of g.K.M.DMonoid.difference g.K.M.Written.word_of g.K.Kind.monoid g.K.Kind.entered c.args.kind.now c.args.tree.now in
    tally_fewer T (λ n. ⊥) (λ n. n ≡ 1) c.args.so_far c.requires.fair (λ n low high j. omega (arith, low, high, c.if-so_far-le1.true))

pub returns : goal.returns
returns g c =
    let T = tree_by g.K.M.Ordered.monoid_of g.K.M.DMonoid.difference g.K.M.Written.word_of g.K.Kind.monoid g.K.Kind.entered c.args.kind.now c.args.tree.now in
    let so_far = c.args.so_far in
    IfOk-weaker c.tally_node.result (TalliesNode T 1 so_far) (IsTalliedBy T (λ n. n ≡ 1))
    (λ (tally : Tally) (told : TalliesNode T 1 so_far tally).
    subst (IsTalliedBy T (λ n. n ≡ 1)) (sym told.same)
    (tally_more T (λ n. ⊥) (λ n. n ≡ 1) so_far c.requires.fair 1 (omega arith) c.if-so_far-le1.false
    (λ n low high j. inl j) told.judgement told.judges))
    c.tally_node.ensures
