use Rattle.asg_phase_totals.proofs.Common.{◌≡◌, ◌<◌, ◌≤◌, slice_index, sym, ap, ◌∙◌, inl, inr, ⊎_elim, arith, cases_lt, read_is}
use Rattle.asg_phase_totals.proofs.phase_totals.greatest_of.Goals as goal

pub loop-i-preserved : goal.loop-i-preserved
loop-i-preserved g c =
    let N = g.N.SumNumber in
    let law = g.met.N.SumNumber.numbers_law in
    let i = c.loop-i.i in
    let xs = c.args.numbers.now in
    let so = c.loop-i.invariant in
    let e = c.greater_of-greatest.ensures in
    let now = N.number c.greater_of-greatest.result in
    let at = read_is law xs i c.index-numbers-i.result c.loop-i-test.true c.index-numbers-i.is in
    record {
      above = λ j h.
          ⊎_elim
          (λ (early : j < i). let before = so.above j early in omega (arith, before, e.above))
          (λ (last : i ≤ j).
          let here : j ≡ i = omega (arith, last, h) in
          let same : slice_index (N.numbers xs) j ≡ slice_index (N.numbers xs) i = ap (slice_index (N.numbers xs)) here in
          omega (arith, same, at, e.above_other))
          (cases_lt j i);
      reached =
          ⊎_elim
          (λ (keeps : now ≡ N.number c.loop-i.greatest).
          ⊎_elim (λ (none : N.number c.loop-i.greatest ≡ 0). inl (keeps ∙ none)) (λ some. inr (some.0, some.1, some.2 ∙ sym keeps)) so.reached)
          (λ (takes : now ≡ N.number c.index-numbers-i.result). inr (i, c.loop-i-test.true, sym at ∙ sym takes))
          e.one;
    }
