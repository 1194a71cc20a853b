use Rattle.asg_trees.proofs.Common.{IfSome, sym, refl, ◌∙◌, subst, arith, HasSize, HaveIndexAfter, node_at, node_trail, marked_tree, JudgesMark, tree_by}
use Rattle.asg_trees.proofs.DownLemmas.{trail_of}
use Rattle.asg_trees.proofs.MarkLemmas.{judged}
use Rattle.asg_trees.proofs.NodeFacts.{side-of_node}
use Rattle.asg_trees.proofs.tallies.tally_node.Goals as goal

pub judge_mark-requires-clause-side : goal.judge_mark-requires-clause-side
judge_mark-requires-clause-side g c =
    c.requires.above.labels.side ∙ side-of_node c.args.tree.now.inst.now c.args.tree.now.answers.now c.args.tree.now.nodes.now c.args.n

pub judge_mark-requires-clause-size : goal.judge_mark-requires-clause-size
judge_mark-requires-clause-size g c =
    subst (λ n. HasSize n c.args.kept.now) (sym (c.requires.above.labels.side ∙ side-of_node c.args.tree.now.inst.now c.args.tree.now.answers.now c.args.tree.now.nodes.now c.args.n)) c.requires.size

pub judge_mark-requires-clause-known : goal.judge_mark-requires-clause-known
judge_mark-requires-clause-known g c =
    subst (λ o. IfSome c.args.known (HaveIndexAfter (g.K.M.Ordered.monoid_of o) (g.K.M.DMonoid.difference o) (g.K.M.Written.word_of o) c.args.square.now c.args.kept.now c.args.before (node_at c.args.tree.now.nodes.now c.args.n).own)) (sym c.monoid.ensures)
    c.requires.known

pub returns : goal.returns
returns g c =
    let kind = c.args.kind.now in
    let T = tree_by g.K.M.Ordered.monoid_of g.K.M.DMonoid.difference g.K.M.Written.word_of g.K.Kind.monoid g.K.Kind.entered c.args.kind.now c.args.tree.now in
    let m = g.K.Kind.monoid kind in
    let n = c.args.n in
    let nodes = c.args.tree.now.nodes.now in
    let Q = c.args.square.now in
    let kept = c.args.kept.now in
    let told = subst (λ o. JudgesMark (g.K.M.Ordered.monoid_of o) (g.K.M.DMonoid.difference o) (g.K.M.Written.word_of o) (marked_tree c.args.tree.now) Q kept c.args.before n (node_at nodes n).mark c.in_ok-judgement.judgement) c.monoid.ensures c.in_ok-judgement.ensures in
    record {
      judgement = c.in_ok-judgement.judgement;
      judges = judged T c.args.tree.now c.requires.ready (g.met.K.M.Ordered.laws m) (g.K.M.Written.value_of m) (g.met.K.M.Written.word_laws m)
          (λ X r k. c.square_law.ensures.presence X (g.K.M.Ordered.monoid_of m).unit (g.K.Kind.entered kind) r k)
          n (node_trail nodes (node_at nodes n).parent) (trail_of T n c.requires.from c.requires.places) Q kept c.args.before c.requires.above
          c.args.tree.now.last c.requires.ready.last (c.requires.places n c.requires.from (omega arith))
          (node_at nodes n).mark refl c.in_ok-judgement.judgement told;
      same = c.tallied.ensures;
    }
