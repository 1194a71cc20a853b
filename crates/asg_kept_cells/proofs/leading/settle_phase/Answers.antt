use Rattle.asg_kept_cells.proofs.Common.{◌≡◌, false, ◌≢◌, List, map, All, sym, ap, ◌∙◌, subst, IsValue, phase_of, phase-words, cell_at}
use Rattle.asg_kept_cells.proofs.LeadLemmas.{is_read, read_phase}
use Rattle.asg_kept_cells.proofs.leading.settle_phase.Goals as goal

pub settle_one-requires-clause-admitted : goal.settle_one-requires-clause-admitted
settle_one-requires-clause-admitted g c =
    let m = c.args.m.now in
    let M = g.M.Ordered.monoid_of m in
    let d = g.M.DMonoid.difference m in
    let w = g.M.Written.word_of m in
    let spelled = g.met.M.Written.word_laws m in
    let Q = c.args.reduced.now.now in
    let words = c.args.phase.now in
    let told = subst (λ ws. c.in_ok-_are_values._are_values ≡ false → (others : List g.row.M-Value.Denot) → All (IsValue M) others → map w others ≢ ws) c.steps.ensures c.in_ok-_are_values.ensures.none in
    let is = is_read M d w (g.M.Written.value_of m) spelled Q.side (cell_at Q) words c.requires.admitted c.in_ok-_are_values._are_values told in
    read_phase M d w (g.M.Written.value_of m) spelled Q.side (cell_at Q) words c.requires.admitted c.as_slice.result.now c.enters.result.now c.leaves.result.now
    (subst (All (IsValue M)) (sym c.as_slice.ensures.value) (c.in_ok-_are_values.ensures.values is))
    (ap (λ xs. map w xs) c.as_slice.ensures.value ∙ c.in_ok-_are_values.ensures.words is ∙ c.steps.ensures)
    c.enters.ensures.enters c.leaves.ensures.leaves

pub returns : goal.returns
returns g c =
    let m = c.args.m.now in
    let M = g.M.Ordered.monoid_of m in
    let d = g.M.DMonoid.difference m in
    let w = g.M.Written.word_of m in
    let spelled = g.met.M.Written.word_laws m in
    let Q = c.args.reduced.now.now in
    let words = c.args.phase.now in
    let told = subst (λ ws. c.in_ok-_are_values._are_values ≡ false → (others : List g.row.M-Value.Denot) → All (IsValue M) others → map w others ≢ ws) c.steps.ensures c.in_ok-_are_values.ensures.none in
    let is = is_read M d w (g.M.Written.value_of m) spelled Q.side (cell_at Q) words c.requires.admitted c.in_ok-_are_values._are_values told in
    let s = ap (λ xs. map w xs) c.as_slice.ensures.value ∙ c.in_ok-_are_values.ensures.words is ∙ c.steps.ensures in
    record {
      first = record {
        phase = phase_of c.as_slice.result.now c.enters.result.now c.leaves.result.now;
        written = phase-words w _ _ _ words s c.enters.ensures.enters c.leaves.ensures.leaves;
        admitted = read_phase M d w (g.M.Written.value_of m) spelled Q.side (cell_at Q) words c.requires.admitted c.as_slice.result.now c.enters.result.now c.leaves.result.now
            (subst (All (IsValue M)) (sym c.as_slice.ensures.value) (c.in_ok-_are_values.ensures.values is))
            s c.enters.ensures.enters c.leaves.ensures.leaves;
      };
      leads = c.settle_one.ensures.phase;
    }
