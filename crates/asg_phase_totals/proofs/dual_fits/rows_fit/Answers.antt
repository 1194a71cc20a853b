use Rattle.asg_phase_totals.proofs.Common.{◌≡◌, ℕ, ◌<◌, ◌≤◌, slice_index, sym, subst, ⊎_elim, arith, cases_lt, not_both, never, FitsRow, read_is, cell_at}
use Rattle.asg_phase_totals.proofs.dual_fits.rows_fit.Goals as goal

pub row_fits-requires-clause-few_rows : goal.row_fits-requires-clause-few_rows
row_fits-requires-clause-few_rows g c =
    let N = g.N.SumNumber in
    let r = c.loop-row.row in
    let below : r < c.args.square.now.side = omega (arith, c.loop-row-test.true, c.side-row-end.ensures) in
    let at = read_is g.met.N.SumNumber.numbers_law c.args.rows.now r c.index-rows-r.result (omega (arith, below, c.requires.rows)) c.index-rows-r.is in
    omega (arith, at, c.requires.few_rows r below)

pub returns-then-not-row_fits : goal.returns-then-not-row_fits
returns-then-not-row_fits g c =
    let N = g.N.SumNumber in
    let Q = c.args.square.now in
    let r = c.loop-row.row in
    let below : r < Q.side = omega (arith, c.loop-row-test.true, c.side-row-end.ensures) in
    let at = read_is g.met.N.SumNumber.numbers_law c.args.rows.now r c.index-rows-r.result (omega (arith, below, c.requires.rows)) c.index-rows-r.is in
    never (λ fits. not_both c.row_fits.result
    (c.row_fits.ensures.1 (subst (λ dual. FitsRow Q.side (λ k. N.present (cell_at Q r k)) dual (N.numbers c.args.columns.now) (N.numbers c.args.steps.now) (slice_index c.args.enters.now r)) (sym at) (fits r below)))
    c.if-not-row_fits.true)

pub loop-row-preserved : goal.loop-row-preserved
loop-row-preserved g c = λ i h.
    let N = g.N.SumNumber in
    let Q = c.args.square.now in
    let r = c.loop-row.row in
    let below : r < Q.side = omega (arith, c.loop-row-test.true, c.side-row-end.ensures) in
    let at = read_is g.met.N.SumNumber.numbers_law c.args.rows.now r c.index-rows-r.result (omega (arith, below, c.requires.rows)) c.index-rows-r.is in
    let Fits = λ (i dual : ℕ). FitsRow Q.side (λ k. N.present (cell_at Q i k)) dual (N.numbers c.args.columns.now) (N.numbers c.args.steps.now) (slice_index c.args.enters.now i) in
    ⊎_elim
    (λ (early : i < r). c.loop-row.invariant i early)
    (λ (last : r ≤ i).
    let here : i ≡ r = omega (arith, last, h) in
    subst (λ j. Fits j (slice_index (N.numbers c.args.rows.now) j)) (sym here)
    (subst (Fits r) at (c.row_fits.ensures.0 c.if-not-row_fits.false)))
    (cases_lt i r)
