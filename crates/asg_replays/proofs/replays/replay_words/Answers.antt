use Rattle.asg_replays.proofs.Common.{◌≤◌, length, ap, ◌∙◌, subst, arith, IsReplayed, refused-first, refused-part, replayed-part, whole-part, cell_at}
use Rattle.asg_replays.proofs.replays.replay_words.Goals as goal

pub returns-then-not-branch-clause-refused : goal.returns-then-not-branch-clause-refused
returns-then-not-branch-clause-refused g c =
    let m = c.args.m.now in
    let before = g.S.RowSquare.as_reduced c.args.square.now in
    λ _. refused-first (g.M.Ordered.monoid_of m) (g.M.DMonoid.difference m) (g.M.Written.word_of m) (g.M.Written.value_of m) (g.met.M.Written.word_laws m) c.args.phase.now
    c.end_of-to.result before.now.side (cell_at before.now) (c.in_ok-replay_first.ensures.refused c.if-not-branch.true)

pub parts-init : goal.parts-init
parts-init g c = record {
  count = c.len-count.ensures ∙ ap length c.steps.ensures;
  within = c.end_of-to.ensures.within;
  led = c.in_ok-replay_first.ensures.applied c.if-not-branch.false;
}

pub returns-then-not-branch-2-clause-refused : goal.returns-then-not-branch-2-clause-refused
returns-then-not-branch-2-clause-refused g c =
    let m = c.args.m.now in
    let many : c.end_of-end.result ≤ length c.args.phase.now.steps = omega (arith, c.end_of-end.ensures.within, c.parts.invariant.count) in
    λ _. refused-part (g.M.Ordered.monoid_of m) (g.M.DMonoid.difference m) (g.M.Written.word_of m) (g.M.Written.value_of m) (g.met.M.Written.word_laws m) c.args.phase.now
    c.parts.to c.end_of-end.result c.end_of-end.ensures.order many (g.S.RowSquare.as_reduced c.args.square.now) (g.S.RowSquare.as_reduced c.parts.square) c.parts.invariant.led
    (c.in_ok-replay_part.ensures.refused c.if-not-branch-2.true)

pub parts-preserved : goal.parts-preserved
parts-preserved g c =
    let m = c.args.m.now in
    let many : c.end_of-end.result ≤ length c.args.phase.now.steps = omega (arith, c.end_of-end.ensures.within, c.parts.invariant.count) in
    record {
      count = c.parts.invariant.count;
      within = c.end_of-end.ensures.within;
      led = replayed-part (g.M.Ordered.monoid_of m) (g.met.M.Ordered.laws m) (g.M.DMonoid.difference m) (g.M.Written.word_of m) c.args.phase.now
          c.parts.to c.end_of-end.result c.end_of-end.ensures.order many (g.S.RowSquare.as_reduced c.args.square.now) (g.S.RowSquare.as_reduced c.parts.square) (g.S.RowSquare.as_reduced c.replay_part.new.square) c.requires c.parts.invariant.led
          (c.in_ok-replay_part.ensures.applied c.if-not-branch-2.false);
    }

pub returns-clause-applied : goal.returns-clause-applied
returns-clause-applied g c =
    let m = c.args.m.now in
    λ _. subst (λ words. IsReplayed (g.M.Ordered.monoid_of m) (g.M.DMonoid.difference m) (g.M.Written.word_of m) words (g.S.RowSquare.as_reduced c.args.square.now) (g.S.RowSquare.as_reduced c.parts.square))
    (whole-part c.args.phase.now c.parts.to (omega (arith, c.parts-test.false, c.parts.invariant.count))) c.parts.invariant.led
