use Rattle.asg_phase_totals.proofs.Common.{◌≡◌, ℕ, ◌<◌, List, length, slice_index, sym, ap, ◌∙◌, subst, ⊎_elim, arith, never, bounded_sums, FitCells, Totals, AreTotals, EndsWell, totals_of, count_is, value_is, index_of, cell_at}
use Rattle.asg_admit.specs.laws.SquareLemmas.{present_within}
use Rattle.asg_phase_totals.proofs.TotalsLemmas.{totals_fit, totals_index}
use Rattle.asg_phase_totals.proofs.phase_totals.PhaseTotals.fits.Goals as goal

pub returns-then-is_below-clause-told : goal.returns-then-is_below-clause-told
returns-then-is_below-clause-told g c =
    let N = g.N.SumNumber in
    let law = g.met.N.SumNumber.numbers_law in
    let Q = c.args.square.now in
    let same = ap (λ (t : Totals). t.sum) c.self.view_is in
    let greatest = N.number c.greatest_cell.result in
    let less = c.is_below.ensures.below c.if-is_below.true in
    never (λ well.
    ⊎_elim
    (λ (none : greatest ≡ 0). omega (arith, none, less))
    (λ some.
    let within = value_is g.met.N.SumNumber.present_law ((some.0 < Q.side) × (some.1 < Q.side)) (cell_at Q some.0 some.1) greatest some.2 (λ x is. present_within Q c.side.ensures.grid some.0 some.1 x is) in
    let few = well.room some.0 some.1 greatest within.0 within.1 some.2 in
    omega (arith, few, same, less, c.minus.ensures, c.greatest_sum.ensures, c.self.invariant.sum_within))
    c.greatest_cell.ensures.reached)

pub returns-then-is_below-clause-index : goal.returns-then-is_below-clause-index
returns-then-is_below-clause-index g c = λ top phases above are.
    let N = g.N.SumNumber in
    let s = c.self.inside in
    let totals = totals_of (N.numbers s.rows.items) (N.numbers s.columns.items) (N.number s.sum) in
    subst (λ (t : Totals). index_of (bounded_sums top) phases ≡ t.sum) c.self.view_is
    (totals_index top phases totals (subst (AreTotals phases) (sym c.self.view_is) are) (omega (arith, above, c.self.invariant.sum_within)))

pub rows_end_well-requires-clause-rows : goal.rows_end_well-requires-clause-rows
rows_end_well-requires-clause-rows g c =
    let N = g.N.SumNumber in
    let law = g.met.N.SumNumber.numbers_law in
    let s = c.self.inside in
    ap length c.as_slice.ensures.value
    ∙ sym (count_is law s.rows.items)
    ∙ ap (λ (t : Totals). length t.rows) c.self.view_is
    ∙ c.requires

pub rows_end_well-requires-clause-columns : goal.rows_end_well-requires-clause-columns
rows_end_well-requires-clause-columns g c =
    let N = g.N.SumNumber in
    let law = g.met.N.SumNumber.numbers_law in
    let s = c.self.inside in
    ap length c.as_slice-2.ensures.value
    ∙ sym (count_is law s.columns.items)
    ∙ c.self.invariant.count
    ∙ ap (λ (t : Totals). length t.rows) c.self.view_is
    ∙ c.requires

pub rows_end_well-requires-clause-few_rows : goal.rows_end_well-requires-clause-few_rows
rows_end_well-requires-clause-few_rows g c = λ r h.
    let N = g.N.SumNumber in
    let s = c.self.inside in
    let side : length (N.numbers s.rows.items) ≡ c.args.square.now.side = ap (λ (t : Totals). length t.rows) c.self.view_is ∙ c.requires in
    let same = ap (λ xs. slice_index (N.numbers xs) r) c.as_slice.ensures.value in
    let within = c.self.invariant.rows_within r (omega (arith, h, side)) in
    omega (arith, same, within, c.self.invariant.sum_within)

pub rows_end_well-requires-clause-few_cells : goal.rows_end_well-requires-clause-few_cells
rows_end_well-requires-clause-few_cells g c = λ r k x hr is.
    let least = c.greatest_cell.ensures.above r k x hr is in
    omega (arith, least, c.is_below.ensures.not_below c.if-is_below.false, c.minus.ensures, c.greatest_sum.ensures)

pub returns-clause-told : goal.returns-clause-told
returns-clause-told g c =
    let N = g.N.SumNumber in
    let s = c.self.inside in
    let Q = c.args.square.now in
    let square = λ (r k : ℕ). N.present (cell_at Q r k) in
    let totals = totals_of (N.numbers s.rows.items) (N.numbers s.columns.items) (N.number s.sum) in
    let Fit = λ (r : ℕ) (rs cs : List g.row.N.Denot). FitCells Q.side (square r) (slice_index (N.numbers rs) r) (N.numbers cs) in (
      λ yes. subst (EndsWell N.top Q.side square) c.self.view_is (record {
        room = λ r k x hr hk is.
            let least = c.greatest_cell.ensures.above r k x hr is in
            omega (arith, least, c.is_below.ensures.not_below c.if-is_below.false, c.minus.ensures, c.greatest_sum.ensures, c.self.invariant.sum_within);
        ends = λ r k x hr hk is.
            subst (λ rs. Fit r rs s.columns.items) c.as_slice.ensures.value
            (subst (λ cs. Fit r c.as_slice.result.now cs) c.as_slice-2.ensures.value (c.rows_end_well.ensures.0 yes r hr)) k x hk is;
      }),
      λ well. c.rows_end_well.ensures.1 (λ r hr.
          subst (λ cs. Fit r c.as_slice.result.now cs) (sym c.as_slice-2.ensures.value)
          (subst (λ rs. Fit r rs s.columns.items) (sym c.as_slice.ensures.value)
          (λ k x hk is. (subst (EndsWell N.top Q.side square) (sym c.self.view_is) well).ends r k x hr hk is))),
    )

pub returns-clause-admitted : goal.returns-clause-admitted
returns-clause-admitted g c = λ yes top phases above are.
    let N = g.N.SumNumber in
    let s = c.self.inside in
    let Q = c.args.square.now in
    let square = λ (r k : ℕ). N.present (cell_at Q r k) in
    let totals = totals_of (N.numbers s.rows.items) (N.numbers s.columns.items) (N.number s.sum) in
    let Fit = λ (r : ℕ) (rs cs : List g.row.N.Denot). FitCells Q.side (square r) (slice_index (N.numbers rs) r) (N.numbers cs) in
    let side : length totals.rows ≡ Q.side = ap (λ (t : Totals). length t.rows) c.self.view_is ∙ c.requires in
    totals_fit top Q.side phases square totals
    (subst (AreTotals phases) (sym c.self.view_is) are) side
    (omega (arith, above, c.self.invariant.sum_within))
    (λ r k x hr hk is.
    let least = c.greatest_cell.ensures.above r k x hr is in
    omega (arith, least, above, c.is_below.ensures.not_below c.if-is_below.false, c.minus.ensures, c.greatest_sum.ensures, c.self.invariant.sum_within))
    (λ r k x hr hk is.
    subst (λ rs. Fit r rs s.columns.items) c.as_slice.ensures.value
    (subst (λ cs. Fit r c.as_slice.result.now cs) c.as_slice-2.ensures.value (c.rows_end_well.ensures.0 yes r hr)) k x hk is)

pub returns-clause-index : goal.returns-clause-index
returns-clause-index g c = λ top phases above are.
    let N = g.N.SumNumber in
    let s = c.self.inside in
    let totals = totals_of (N.numbers s.rows.items) (N.numbers s.columns.items) (N.number s.sum) in
    subst (λ (t : Totals). index_of (bounded_sums top) phases ≡ t.sum) c.self.view_is
    (totals_index top phases totals (subst (AreTotals phases) (sym c.self.view_is) are) (omega (arith, above, c.self.invariant.sum_within)))
