use Rattle.asg_phase_totals.proofs.Common.{◌≡◌, ℕ, ◌<◌, ◌≤◌, slice_index, sym, subst, ⊎_elim, arith, cases_lt, never, not_both, FitCells, read_is, cell_at}
use Rattle.asg_phase_totals.proofs.phase_totals.rows_end_well.Goals as goal

pub fit_cells-requires-clause-few : goal.fit_cells-requires-clause-few
fit_cells-requires-clause-few g c =
    let N = g.N.SumNumber in
    let law = g.met.N.SumNumber.numbers_law in
    let Q = c.args.square.now in
    let r = c.loop-row.row in
    let below : r < Q.side = omega (arith, c.loop-row-test.true, c.side-row-end.ensures) in
    let at = read_is law c.args.rows.now r c.index-rows-row.result (omega (arith, below, c.requires.rows)) c.index-rows-row.is in
    omega (arith, at, c.requires.few_rows r below)

pub returns-then-not-fit_cells : goal.returns-then-not-fit_cells
returns-then-not-fit_cells g c =
    let N = g.N.SumNumber in
    let law = g.met.N.SumNumber.numbers_law in
    let Q = c.args.square.now in
    let r = c.loop-row.row in
    let below : r < Q.side = omega (arith, c.loop-row-test.true, c.side-row-end.ensures) in
    let at = read_is law c.args.rows.now r c.index-rows-row.result (omega (arith, below, c.requires.rows)) c.index-rows-row.is in
    never (λ well. not_both c.fit_cells.result
    (c.fit_cells.ensures.1 (subst (λ raise. FitCells Q.side (λ k. N.present (cell_at Q r k)) raise (N.numbers c.args.columns.now)) (sym at) (well r below)))
    c.if-not-fit_cells.true)

pub loop-row-preserved : goal.loop-row-preserved
loop-row-preserved g c = λ i h.
    let N = g.N.SumNumber in
    let law = g.met.N.SumNumber.numbers_law in
    let Q = c.args.square.now in
    let r = c.loop-row.row in
    let below : r < Q.side = omega (arith, c.loop-row-test.true, c.side-row-end.ensures) in
    let at = read_is law c.args.rows.now r c.index-rows-row.result (omega (arith, below, c.requires.rows)) c.index-rows-row.is in
    let Fit = λ (i raise : ℕ). FitCells Q.side (λ k. N.present (cell_at Q i k)) raise (N.numbers c.args.columns.now) in
    ⊎_elim
    (λ (early : i < r). c.loop-row.invariant i early)
    (λ (last : r ≤ i).
    let here : i ≡ r = omega (arith, last, h) in
    subst (λ j. Fit j (slice_index (N.numbers c.args.rows.now) j)) (sym here)
    (subst (Fit r) at (c.fit_cells.ensures.0 c.if-not-fit_cells.false)))
    (cases_lt i r)
