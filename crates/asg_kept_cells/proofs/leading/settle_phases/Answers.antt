use Rattle.asg_kept_cells.proofs.Common.{◌≡◌, take, sym, subst, arith, take_all, AreReplayed, IsAdmittedFrom, IsReplayed, replayed-none, replayed-push, cell_at}
use Rattle.asg_kept_cells.proofs.LeadLemmas.{next_admitted}
use Rattle.asg_kept_cells.proofs.leading.settle_phases.Goals as goal

pub loop-place-init : goal.loop-place-init
loop-place-init g c =
    let m = c.args.m.now in
    replayed-none (g.M.Ordered.monoid_of m) (g.met.M.Ordered.laws m) (g.M.DMonoid.difference m) (g.M.Written.word_of m) c.args.reduced.now c.requires.reduced

pub settle_phase-requires-clause-reduced : goal.settle_phase-requires-clause-reduced
settle_phase-requires-clause-reduced g c = c.loop-place.invariant.reduced

pub settle_phase-requires-clause-admitted : goal.settle_phase-requires-clause-admitted
settle_phase-requires-clause-admitted g c =
    let m = c.args.m.now in
    let M = g.M.Ordered.monoid_of m in
    let d = g.M.DMonoid.difference m in
    let w = g.M.Written.word_of m in
    let before = c.loop-place.reduced in
    let words = c.index-phases-place.result in
    subst (λ phase. IsAdmittedFrom M d w before.now.side (cell_at before.now) phase) (sym c.index-phases-place.is)
    (next_admitted M d w (g.M.Written.value_of m) (g.met.M.Written.word_laws m) c.args.phases.now c.loop-place.place words c.args.reduced.now before
    c.loop-place-test.true c.loop-place.invariant c.requires.admitted)

pub loop-place-preserved : goal.loop-place-preserved
loop-place-preserved g c =
    let m = c.args.m.now in
    let M = g.M.Ordered.monoid_of m in
    let d = g.M.DMonoid.difference m in
    let w = g.M.Written.word_of m in
    let before = c.loop-place.reduced in
    let after = c.settle_phase.new.reduced in
    let words = c.index-phases-place.result in
    replayed-push M (g.met.M.Ordered.laws m) d w c.args.phases.now c.loop-place.place words c.args.reduced.now before after
    c.loop-place-test.true c.requires.reduced c.loop-place.invariant
    (subst (λ phase. IsReplayed M d w phase before after) c.index-phases-place.is c.in_ok-settle_phase.ensures)

pub returns : goal.returns
returns g c =
    let m = c.args.m.now in
    let words = c.args.phases.now in
    let all : take c.loop-place.place words ≡ words = take_all c.loop-place.place words (omega (arith, c.loop-place-test.false)) in
    subst (λ ws. AreReplayed (g.M.Ordered.monoid_of m) (g.M.DMonoid.difference m) (g.M.Written.word_of m) ws c.args.reduced.now c.loop-place.reduced) all
    c.loop-place.invariant
