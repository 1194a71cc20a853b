use Rattle.asg_replays.proofs.Common.{◌≡◌, take, sym, subst, arith, take_all, AreReplayed, IsAdmittedFrom, IsReplayed, first-bad, replayed-none, replayed-push, cell_at}
use Rattle.asg_replays.proofs.replays.first_bad.Goals as goal

pub loop-place-init : goal.loop-place-init
loop-place-init g c =
    let m = c.args.m.now in
    replayed-none (g.M.Ordered.monoid_of m) (g.met.M.Ordered.laws m) (g.M.DMonoid.difference m) (g.M.Written.word_of m) (g.S.RowSquare.as_reduced c.args.square.now) c.requires

pub replay_words-requires : goal.replay_words-requires
replay_words-requires g c = c.loop-place.invariant.reduced

pub returns-then-not-branch-clause-bad : goal.returns-then-not-branch-clause-bad
returns-then-not-branch-clause-bad g c =
    let m = c.args.m.now in
    let M = g.M.Ordered.monoid_of m in
    let d = g.M.DMonoid.difference m in
    let word_of = g.M.Written.word_of m in
    let start = g.S.RowSquare.as_reduced c.args.square.now in
    let before = g.S.RowSquare.as_reduced c.loop-place.square in
    let words = c.index-phases-place.result in
    let at = sym c.index-phases-place.is in
    first-bad M d word_of (g.M.Written.value_of m) (g.met.M.Written.word_laws m) c.args.phases.now c.loop-place.place words start before
    c.loop-place-test.true c.loop-place.invariant
    (subst (λ w. ¬ IsAdmittedFrom M d word_of before.now.side (cell_at before.now) w) (sym at) (c.in_ok-replay_words.ensures.refused c.if-not-branch.true))

pub loop-place-preserved : goal.loop-place-preserved
loop-place-preserved g c =
    let m = c.args.m.now in
    let M = g.M.Ordered.monoid_of m in
    let d = g.M.DMonoid.difference m in
    let word_of = g.M.Written.word_of m in
    let start = g.S.RowSquare.as_reduced c.args.square.now in
    let before = g.S.RowSquare.as_reduced c.loop-place.square in
    let after = g.S.RowSquare.as_reduced c.replay_words.new.square in
    let words = c.index-phases-place.result in
    let at = sym c.index-phases-place.is in
    replayed-push M (g.met.M.Ordered.laws m) d word_of c.args.phases.now c.loop-place.place words start before after
    c.loop-place-test.true c.requires c.loop-place.invariant
    (subst (λ w. IsReplayed M d word_of w before after) (sym at) (c.in_ok-replay_words.ensures.applied c.if-not-branch.false))

pub returns-clause-none : goal.returns-clause-none
returns-clause-none g c = λ _.
    let m = c.args.m.now in
    let words = c.args.phases.now in
    let all : take c.loop-place.place words ≡ words = take_all c.loop-place.place words (omega (arith, c.loop-place-test.false)) in
    subst (λ ws. AreReplayed (g.M.Ordered.monoid_of m) (g.M.DMonoid.difference m) (g.M.Written.word_of m) ws (g.S.RowSquare.as_reduced c.args.square.now) (g.S.RowSquare.as_reduced c.loop-place.square)) all
    c.loop-place.invariant
