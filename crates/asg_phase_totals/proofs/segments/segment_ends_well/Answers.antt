use Rattle.asg_phase_totals.proofs.Common.{◌≡◌, ℕ, ◌<◌, ◌≤◌, List, slice_index, sym, refl, ap, subst, ⊎_elim, arith, cases_lt, never, not_both, FitCells, read_is, cell_at}
use Rattle.asg_phase_totals.proofs.segments.segment_ends_well.Goals as goal

pub lowered_row_ends_well-requires-clause-few : goal.lowered_row_ends_well-requires-clause-few
lowered_row_ends_well-requires-clause-few g c =
    let N = g.N.SumNumber in
    let law = g.met.N.SumNumber.numbers_law in
    let Q = c.args.square.now in
    let r = c.loop-row.row in
    let below : r < Q.side = omega (arith, c.loop-row-test.true, c.side-row-end.ensures) in
    let at = read_is law c.args.rows.now r c.index-rows-r.result (omega (arith, below, c.requires.row_count)) c.index-rows-r.is in
    omega (arith, at, c.requires.few_rows r below)

pub returns-then-not-lowered_row_ends_well : goal.returns-then-not-lowered_row_ends_well
returns-then-not-lowered_row_ends_well g c =
    let N = g.N.SumNumber in
    let law = g.met.N.SumNumber.numbers_law in
    let Q = c.args.square.now in
    let r = c.loop-row.row in
    let below : r < Q.side = omega (arith, c.loop-row-test.true, c.side-row-end.ensures) in
    let at = read_is law c.args.rows.now r c.index-rows-r.result (omega (arith, below, c.requires.row_count)) c.index-rows-r.is in
    let raise = read_is law c.rows-raises.result.now r c.index-raises-r.result (omega (arith, below, c.rows-raises.ensures.count, c.requires.side)) c.index-raises-r.is in
    let same = ap (λ (xs : List ℕ). slice_index xs r) c.rows-raises.ensures.rows in
    let Fit = λ (i dual : ℕ). FitCells Q.side (λ k. N.present (cell_at Q i k)) dual (N.numbers c.args.columns.now) in
    never (λ well. not_both c.lowered_row_ends_well.result
    (c.lowered_row_ends_well.ensures.1 (λ falls.
    subst (Fit r) (sym at) (λ k x hk is. well r k x below hk is (omega (arith, falls, raise, same, c.sum.ensures)))))
    c.if-not-lowered_row_ends_well.true)

pub loop-row-preserved : goal.loop-row-preserved
loop-row-preserved g c = λ i h falls.
    let N = g.N.SumNumber in
    let law = g.met.N.SumNumber.numbers_law in
    let Q = c.args.square.now in
    let r = c.loop-row.row in
    let below : r < Q.side = omega (arith, c.loop-row-test.true, c.side-row-end.ensures) in
    let at = read_is law c.args.rows.now r c.index-rows-r.result (omega (arith, below, c.requires.row_count)) c.index-rows-r.is in
    let raise = read_is law c.rows-raises.result.now r c.index-raises-r.result (omega (arith, below, c.rows-raises.ensures.count, c.requires.side)) c.index-raises-r.is in
    let same = ap (λ (xs : List ℕ). slice_index xs r) c.rows-raises.ensures.rows in
    let Fit = λ (i dual : ℕ). FitCells Q.side (λ k. N.present (cell_at Q i k)) dual (N.numbers c.args.columns.now) in
    ⊎_elim
    (λ (early : i < r). c.loop-row.invariant i early falls)
    (λ (last : r ≤ i).
    let here : i ≡ r = omega (arith, last, h) in
    let falls_here : slice_index c.args.segment.now.rows r < c.args.segment.now.sum = subst (λ j. slice_index c.args.segment.now.rows j < c.args.segment.now.sum) here falls in
    subst (λ j. Fit j (slice_index (N.numbers c.args.rows.now) j)) (sym here)
    (subst (Fit r) at (c.lowered_row_ends_well.ensures.0 c.if-not-lowered_row_ends_well.false (omega (arith, falls_here, raise, same, c.sum.ensures)))))
    (cases_lt i r)

pub returns : goal.returns
returns g c = (
  λ _ r k x hr hk is falls. c.loop-row.invariant r (omega (arith, hr, c.loop-row-test.false, c.side-row-end.ensures)) falls k x hk is,
  λ _. refl,
)
