use Rattle.asg_trees.proofs.Common.{IfSome, sym, refl, subst, arith, IsReduced, node_at, AreAdmittedFrom, AreReplayed, HaveIndex, cell_at, tree_by}
use Rattle.asg_trees.proofs.DownLemmas.{led_known, root_admitted, root_down}
use Rattle.asg_trees.proofs.roots.judge_root.Goals as goal

pub own_of-requires-clause-upto : goal.own_of-requires-clause-upto
own_of-requires-clause-upto g c = omega (arith, c.if-tally-le1.false, c.in_ok-tally.ensures.upto)

pub stand_after-requires-clause-reduced : goal.stand_after-requires-clause-reduced
stand_after-requires-clause-reduced g c = subst (λ o. IsReduced (g.K.M.Ordered.monoid_of o) c.args.root.now) (sym c.monoid.ensures) c.requires.start.reduced

pub stand_after-requires-clause-admitted : goal.stand_after-requires-clause-admitted
stand_after-requires-clause-admitted g c =
    let kind = c.args.kind.now in
    let m = g.K.Kind.monoid kind in
    let T = tree_by g.K.M.Ordered.monoid_of g.K.M.DMonoid.difference g.K.M.Written.word_of g.K.Kind.monoid g.K.Kind.entered c.args.kind.now c.args.tree.now in
    let start = c.args.root.now in
    let sound = c.in_ok-tally.ensures.sound 1 (omega arith) c.if-tally-le1.false refl in
    let all = root_admitted T (g.met.K.M.Ordered.laws m) (g.K.M.Written.value_of m) (g.met.K.M.Written.word_laws m) start c.requires.start sound in
    subst (λ o. AreAdmittedFrom (g.K.M.Ordered.monoid_of o) (g.K.M.DMonoid.difference o) (g.K.M.Written.word_of o) start.now.side (cell_at start.now) c.own_of.result.now) (sym c.monoid.ensures)
    (subst (AreAdmittedFrom T.monoid T.difference T.word_of start.now.side (cell_at start.now)) (sym c.own_of.ensures) all)

pub tally_root-requires-clause-known : goal.tally_root-requires-clause-known
tally_root-requires-clause-known g c =
    let kind = c.args.kind.now in
    let m = g.K.Kind.monoid kind in
    let T = tree_by g.K.M.Ordered.monoid_of g.K.M.DMonoid.difference g.K.M.Written.word_of g.K.Kind.monoid g.K.Kind.entered c.args.kind.now c.args.tree.now in
    let start = c.args.root.now in
    let own = (node_at c.args.tree.now.nodes.now 1).own in
    subst (λ o. IfSome o (λ index. HaveIndex T.monoid T.difference T.word_of start.now.side (cell_at start.now) index own)) (sym c.led_index-known.ensures)
    (led_known T.monoid (g.met.K.M.Ordered.laws m) T.difference T.word_of own start c.requires.start.index c.args.led.now c.requires.led)

pub stand_after-requires-clause-led : goal.stand_after-requires-clause-led
stand_after-requires-clause-led g c =
    let kind = c.args.kind.now in
    let m = g.K.Kind.monoid kind in
    let start = c.args.root.now in
    subst (λ o. IfSome c.args.led.now (AreReplayed (g.K.M.Ordered.monoid_of o) (g.K.M.DMonoid.difference o) (g.K.M.Written.word_of o) c.own_of.result.now start)) (sym c.monoid.ensures)
    (subst (λ own. IfSome c.args.led.now (AreReplayed (g.K.M.Ordered.monoid_of m) (g.K.M.DMonoid.difference m) (g.K.M.Written.word_of m) own start)) (sym c.own_of.ensures) c.requires.led)

pub returns-clause-stands : goal.returns-clause-stands
returns-clause-stands g c = λ more.
    let kind = c.args.kind.now in
    let m = g.K.Kind.monoid kind in
    let T = tree_by g.K.M.Ordered.monoid_of g.K.M.DMonoid.difference g.K.M.Written.word_of g.K.Kind.monoid g.K.Kind.entered c.args.kind.now c.args.tree.now in
    let start = c.args.root.now in
    let after = c.stand_after.new.reduced in
    let led = subst (λ own. AreReplayed T.monoid T.difference T.word_of own start after) c.own_of.ensures
    (subst (λ o. AreReplayed (g.K.M.Ordered.monoid_of o) (g.K.M.DMonoid.difference o) (g.K.M.Written.word_of o) c.own_of.result.now start after) c.monoid.ensures c.in_ok-stand_after.ensures) in
    root_down T (g.met.K.M.Ordered.laws m) (g.K.M.Written.value_of m) (g.met.K.M.Written.word_laws m) start c.requires.start after led
