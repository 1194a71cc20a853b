use Rattle.asg_replays.proofs.Common.{map, All, sym, refl, ap, ◌∙◌, subst, false≢true, IsValue, phase_of, steps_between, phase-words, refused-words, unread-words, cell_at}
use Rattle.asg_replays.proofs.replays.replay_between.Goals as goal

pub returns-then-not-branch-clause-refused : goal.returns-then-not-branch-clause-refused
returns-then-not-branch-clause-refused g c =
    let m = c.args.m.now in
    let part = phase_of (steps_between c.args.from c.args.to c.args.words.now) c.args.enters.now c.args.leaves.now in
    λ off.
    unread-words (g.M.Ordered.monoid_of m) (g.M.DMonoid.difference m) (g.M.Written.word_of m) (g.M.Written.value_of m) (g.met.M.Written.word_laws m) (g.S.RowSquare.as_reduced c.args.square.now).now.side (cell_at (g.S.RowSquare.as_reduced c.args.square.now).now) part
    (c.in_ok-read_between.ensures.none c.if-not-branch.true)

pub returns-clause-applied : goal.returns-clause-applied
returns-clause-applied g c =
    let word_of = g.M.Written.word_of c.args.m.now in
    let part = phase_of (steps_between c.args.from c.args.to c.args.words.now) c.args.enters.now c.args.leaves.now in
    let spelled = c.in_ok-read_between.ensures.words c.if-not-branch.false in
    λ is. record {
      first = record {
        phase = phase_of c.as_slice.result.now c.args.enters.now c.args.leaves.now;
        written = phase-words word_of _ _ _ part (ap (λ xs. map word_of xs) c.as_slice.ensures.value ∙ spelled) refl refl;
        admitted = c.replay.ensures.admitted.0 is;
      };
      leads = c.replay.ensures.applied is;
    }

pub returns-clause-refused : goal.returns-clause-refused
returns-clause-refused g c =
    let m = c.args.m.now in
    let M = g.M.Ordered.monoid_of m in
    let word_of = g.M.Written.word_of m in
    let phase = phase_of c.as_slice.result.now c.args.enters.now c.args.leaves.now in
    let part = phase_of (steps_between c.args.from c.args.to c.args.words.now) c.args.enters.now c.args.leaves.now in
    let spelled = c.in_ok-read_between.ensures.words c.if-not-branch.false in
    λ off.
    refused-words M (g.M.DMonoid.difference m) word_of (g.M.Written.value_of m) (g.met.M.Written.word_laws m) (g.S.RowSquare.as_reduced c.args.square.now).now.side (cell_at (g.S.RowSquare.as_reduced c.args.square.now).now) part phase
    (subst (All (IsValue M)) (sym c.as_slice.ensures.value) (c.in_ok-read_between.ensures.values c.if-not-branch.false))
    (phase-words word_of _ _ _ part (ap (λ xs. map word_of xs) c.as_slice.ensures.value ∙ spelled) refl refl)
    (λ admitted. false≢true (sym off ∙ c.replay.ensures.admitted.1 admitted))
