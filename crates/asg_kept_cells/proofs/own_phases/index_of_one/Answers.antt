use Rattle.asg_kept_cells.proofs.Common.{◌≡◌, List, map, All, sym, refl, ap, ◌∙◌, subst, false≢true, IsValue, phase_of, IsAdmittedPhase, phase-words, refused-words, unread-words, cell_at, masked_grid}
use Rattle.asg_kept_cells.proofs.OwnPhases.{kept_values, one_from, one_some}
use Rattle.asg_kept_cells.proofs.own_phases.index_of_one.Goals as goal

pub returns-then-not-branch-clause-none : goal.returns-then-not-branch-clause-none
returns-then-not-branch-clause-none g c = λ none all.
    let m = c.args.m.now in
    let M = g.M.Ordered.monoid_of m in
    let Q = c.args.square.now in
    unread-words M (g.M.DMonoid.difference m) (g.M.Written.word_of m) (g.M.Written.value_of m) (g.met.M.Written.word_laws m) Q.side (cell_at (masked_grid Q c.args.kept.now.words)) c.args.phase.now
    (subst (λ words. (values : List g.row.M-Value.Denot) → All (IsValue M) values → map (g.M.Written.word_of m) values ≡ words → ⊥) c.steps.ensures (c.in_ok-read_steps.ensures.none c.if-not-branch.true))
    (one_from M (g.met.M.Ordered.laws m) (g.M.DMonoid.difference m) (g.M.Written.word_of m) Q c.args.kept.now c.args.before c.args.phase.now all)

pub admits_kept-requires-clause-values : goal.admits_kept-requires-clause-values
admits_kept-requires-clause-values g c =
    kept_values (g.M.Ordered.monoid_of c.args.m.now) c.args.square.now c.args.kept.now.words c.requires.values

pub admits_kept-requires-clause-steps : goal.admits_kept-requires-clause-steps
admits_kept-requires-clause-steps g c =
    subst (All (IsValue (g.M.Ordered.monoid_of c.args.m.now))) (sym c.as_slice-steps.ensures.value) (c.in_ok-read_steps.ensures.values c.if-not-branch.false)

pub fold-requires : goal.fold-requires
fold-requires g c =
    subst (All (IsValue (g.M.Ordered.monoid_of c.args.m.now))) (sym c.as_slice-steps.ensures.value) (c.in_ok-read_steps.ensures.values c.if-not-branch.false)

pub returns-then-not-admits_kept-clause-none : goal.returns-then-not-admits_kept-clause-none
returns-then-not-admits_kept-clause-none g c = λ none all.
    let m = c.args.m.now in
    let M = g.M.Ordered.monoid_of m in
    let word_of = g.M.Written.word_of m in
    let Q = c.args.square.now in
    let phase = phase_of c.as_slice-steps.result.now c.args.phase.now.enters c.args.phase.now.leaves in
    let spelled = ap (λ xs. map word_of xs) c.as_slice-steps.ensures.value ∙ c.in_ok-read_steps.ensures.words c.if-not-branch.false ∙ c.steps.ensures in
    refused-words M (g.M.DMonoid.difference m) word_of (g.M.Written.value_of m) (g.met.M.Written.word_laws m) Q.side (cell_at (masked_grid Q c.args.kept.now.words)) c.args.phase.now phase
    (subst (All (IsValue M)) (sym c.as_slice-steps.ensures.value) (c.in_ok-read_steps.ensures.values c.if-not-branch.false))
    (phase-words word_of _ _ _ c.args.phase.now spelled refl refl)
    (λ admitted.
    let at = (subst (λ enters. IsAdmittedPhase M (g.M.DMonoid.difference m) Q.side (phase_of c.as_slice-steps.result.now enters c.leaves.result.now) (cell_at (masked_grid Q c.args.kept.now.words))) (sym c.enters.ensures.enters)
    (subst (λ leaves. IsAdmittedPhase M (g.M.DMonoid.difference m) Q.side (phase_of c.as_slice-steps.result.now c.args.phase.now.enters leaves) (cell_at (masked_grid Q c.args.kept.now.words))) (sym c.leaves.ensures.leaves) admitted)) in
    false≢true (sym c.if-not-admits_kept.true ∙ c.admits_kept.ensures.1 at))
    (one_from M (g.met.M.Ordered.laws m) (g.M.DMonoid.difference m) word_of Q c.args.kept.now c.args.before c.args.phase.now all)

pub returns-clause-some : goal.returns-clause-some
returns-clause-some g c =
    let m = c.args.m.now in
    let M = g.M.Ordered.monoid_of m in
    let word_of = g.M.Written.word_of m in
    let Q = c.args.square.now in
    let phase = phase_of c.as_slice-steps.result.now c.args.phase.now.enters c.args.phase.now.leaves in
    let spelled = ap (λ xs. map word_of xs) c.as_slice-steps.ensures.value ∙ c.in_ok-read_steps.ensures.words c.if-not-branch.false ∙ c.steps.ensures in
    let admitted = subst (λ leaves. IsAdmittedPhase M (g.M.DMonoid.difference m) Q.side (phase_of c.as_slice-steps.result.now c.args.phase.now.enters leaves) (cell_at (masked_grid Q c.args.kept.now.words))) c.leaves.ensures.leaves
    (subst (λ enters. IsAdmittedPhase M (g.M.DMonoid.difference m) Q.side (phase_of c.as_slice-steps.result.now enters c.leaves.result.now) (cell_at (masked_grid Q c.args.kept.now.words))) c.enters.ensures.enters
    (c.admits_kept.ensures.0 c.if-not-admits_kept.false)) in
    one_some M (g.met.M.Ordered.laws m) (g.M.DMonoid.difference m) word_of Q c.args.kept.now c.args.before c.args.phase.now phase c.op.result
    (phase-words word_of _ _ _ c.args.phase.now spelled refl refl) admitted
    (c.op.ensures.product ∙ ap (M.product c.args.before) c.fold.ensures.product) c.op.ensures.is_value
