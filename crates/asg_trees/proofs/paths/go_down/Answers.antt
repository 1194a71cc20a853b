use Rattle.asg_trees.proofs.Common.{◌≤◌, length, sym, ap, ◌∙◌, subst, arith, IsReduced, Reduced, HasSize, IsMaskOf, answer_number, node_answer, node_at, AreAdmittedFrom, AreReplayed, cell_at, tree_by}
use Rattle.asg_trees.proofs.DownLemmas.{gone_down, own_admitted, taken_square}
use Rattle.asg_trees.proofs.NodeFacts.{labels-from_node}
use Rattle.asg_trees.proofs.TallyLemmas.{answer_within}
use Rattle.asg_trees.proofs.paths.go_down.Goals as goal

pub answer_at-requires-clause-there : goal.answer_at-requires-clause-there
answer_at-requires-clause-there g c =
    let T = tree_by g.K.M.Ordered.monoid_of g.K.M.DMonoid.difference g.K.M.Written.word_of g.K.Kind.monoid g.K.Kind.entered c.args.kind.now c.args.tree.now in
    let place = (c.requires.places c.args.n (omega (arith, c.requires.from)) (omega arith)).below c.requires.from in
    subst (λ p. 1 ≤ answer_number (node_at c.args.tree.now.nodes.now p).mark) (sym c.parent_of.ensures)
    (answer_within T (node_at c.args.tree.now.nodes.now c.args.n).parent c.requires.at.sound place.answered).0

pub answer_at-requires-clause-given : goal.answer_at-requires-clause-given
answer_at-requires-clause-given g c =
    let T = tree_by g.K.M.Ordered.monoid_of g.K.M.DMonoid.difference g.K.M.Written.word_of g.K.Kind.monoid g.K.Kind.entered c.args.kind.now c.args.tree.now in
    let place = (c.requires.places c.args.n (omega (arith, c.requires.from)) (omega arith)).below c.requires.from in
    subst (λ p. answer_number (node_at c.args.tree.now.nodes.now p).mark ≤ length c.args.tree.now.answers.now) (sym c.parent_of.ensures)
    (answer_within T (node_at c.args.tree.now.nodes.now c.args.n).parent c.requires.at.sound place.answered).1

pub make_mask-requires-clause-labels : goal.make_mask-requires-clause-labels
make_mask-requires-clause-labels g c =
    labels-from_node c.args.tree.now.inst.now c.args.tree.now.answers.now c.args.tree.now.nodes.now (node_at c.args.tree.now.nodes.now c.args.n).parent c.args.reduced.now.now c.requires.at.stands.labels

pub take_out-requires : goal.take_out-requires
take_out-requires g c =
    let labels = labels-from_node c.args.tree.now.inst.now c.args.tree.now.answers.now c.args.tree.now.nodes.now (node_at c.args.tree.now.nodes.now c.args.n).parent c.args.reduced.now.now c.requires.at.stands.labels in
    subst (λ n. HasSize n c.make_mask.new.kept) (sym labels.side) c.make_mask.ensures.mask.size

pub lead_by-requires-clause-reduced : goal.lead_by-requires-clause-reduced
lead_by-requires-clause-reduced g c =
    let kind = c.args.kind.now in
    let m = g.K.Kind.monoid kind in
    let T = tree_by g.K.M.Ordered.monoid_of g.K.M.DMonoid.difference g.K.M.Written.word_of g.K.Kind.monoid g.K.Kind.entered c.args.kind.now c.args.tree.now in
    let s = c.requires.at.stands in
    let Q = c.args.reduced.now.now in
    let mask = subst (λ f. IsMaskOf c.args.tree.now.inst.now f (node_at c.args.tree.now.nodes.now c.args.n).branch c.make_mask.new.kept) (c.in_ok-choice.ensures ∙ ap (node_answer c.args.tree.now.answers.now c.args.tree.now.nodes.now) c.parent_of.ensures)
    (subst (λ i. IsMaskOf c.args.tree.now.inst.now c.in_ok-choice.choice i c.make_mask.new.kept) c.branch_of.ensures c.make_mask.ensures.mask) in
    let t = taken_square T (g.met.K.M.Ordered.laws m) (g.K.M.Written.value_of m) (g.met.K.M.Written.word_laws m) c.args.n c.requires.from c.requires.places c.requires.sound Q c.take_out.new.square c.args.reduced.now.index c.make_mask.new.kept s mask c.take_out.ensures.labels c.take_out.ensures.cells in
    subst (λ n. IsReduced (g.K.M.Ordered.monoid_of n) (record { now = c.take_out.new.square; index = c.args.reduced.now.index })) (sym c.monoid.ensures)
    (record { cells = t.values; index = t.is_value })

pub lead_by-requires-clause-admitted : goal.lead_by-requires-clause-admitted
lead_by-requires-clause-admitted g c =
    let kind = c.args.kind.now in
    let m = g.K.Kind.monoid kind in
    let T = tree_by g.K.M.Ordered.monoid_of g.K.M.DMonoid.difference g.K.M.Written.word_of g.K.Kind.monoid g.K.Kind.entered c.args.kind.now c.args.tree.now in
    let s = c.requires.at.stands in
    let Q = c.args.reduced.now.now in
    let mask = subst (λ f. IsMaskOf c.args.tree.now.inst.now f (node_at c.args.tree.now.nodes.now c.args.n).branch c.make_mask.new.kept) (c.in_ok-choice.ensures ∙ ap (node_answer c.args.tree.now.answers.now c.args.tree.now.nodes.now) c.parent_of.ensures)
    (subst (λ i. IsMaskOf c.args.tree.now.inst.now c.in_ok-choice.choice i c.make_mask.new.kept) c.branch_of.ensures c.make_mask.ensures.mask) in
    let t = taken_square T (g.met.K.M.Ordered.laws m) (g.K.M.Written.value_of m) (g.met.K.M.Written.word_laws m) c.args.n c.requires.from c.requires.places c.requires.sound Q c.take_out.new.square c.args.reduced.now.index c.make_mask.new.kept s mask c.take_out.ensures.labels c.take_out.ensures.cells in
    let R = c.take_out.new.square in
    let all = own_admitted T (g.met.K.M.Ordered.laws m) (g.K.M.Written.value_of m) (g.met.K.M.Written.word_laws m) c.args.n c.requires.from c.requires.places c.requires.sound R c.args.reduced.now.index t c.requires.answered in
    subst (λ o. AreAdmittedFrom (g.K.M.Ordered.monoid_of o) (g.K.M.DMonoid.difference o) (g.K.M.Written.word_of o) R.side (cell_at R) c.own_of.result.now) (sym c.monoid.ensures)
    (subst (AreAdmittedFrom T.monoid T.difference T.word_of R.side (cell_at R)) (sym c.own_of.ensures) all)

pub returns : goal.returns
returns g c =
    let kind = c.args.kind.now in
    let m = g.K.Kind.monoid kind in
    let T = tree_by g.K.M.Ordered.monoid_of g.K.M.DMonoid.difference g.K.M.Written.word_of g.K.Kind.monoid g.K.Kind.entered c.args.kind.now c.args.tree.now in
    let s = c.requires.at.stands in
    let Q = c.args.reduced.now.now in
    let mask = subst (λ f. IsMaskOf c.args.tree.now.inst.now f (node_at c.args.tree.now.nodes.now c.args.n).branch c.make_mask.new.kept) (c.in_ok-choice.ensures ∙ ap (node_answer c.args.tree.now.answers.now c.args.tree.now.nodes.now) c.parent_of.ensures)
    (subst (λ i. IsMaskOf c.args.tree.now.inst.now c.in_ok-choice.choice i c.make_mask.new.kept) c.branch_of.ensures c.make_mask.ensures.mask) in
    let t = taken_square T (g.met.K.M.Ordered.laws m) (g.K.M.Written.value_of m) (g.met.K.M.Written.word_laws m) c.args.n c.requires.from c.requires.places c.requires.sound Q c.take_out.new.square c.args.reduced.now.index c.make_mask.new.kept s mask c.take_out.ensures.labels c.take_out.ensures.cells in
    let before : Reduced _ = record { now = c.take_out.new.square; index = c.args.reduced.now.index } in
    let after = c.lead_by.new.reduced in
    let led = subst (λ own. AreReplayed T.monoid T.difference T.word_of own before after) c.own_of.ensures
    (subst (λ o. AreReplayed (g.K.M.Ordered.monoid_of o) (g.K.M.DMonoid.difference o) (g.K.M.Written.word_of o) c.own_of.result.now before after) c.monoid.ensures c.in_ok-lead_by.ensures) in
    record {
      sound = c.requires.sound;
      stands = gone_down T (g.met.K.M.Ordered.laws m) (g.K.M.Written.value_of m) (g.met.K.M.Written.word_laws m) c.args.n c.requires.from c.requires.places c.requires.sound before after t led;
      kept = c.make_mask.ensures.kept;
    }
