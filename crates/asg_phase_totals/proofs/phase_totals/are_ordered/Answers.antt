use Rattle.asg_phase_totals.proofs.Common.{◌≡◌, ◌<◌, ◌≤◌, slice_index, sym, refl, subst, ⊎_elim, arith, cases_lt, never, read_is}
use Rattle.asg_phase_totals.proofs.phase_totals.are_ordered.Goals as goal

pub loop-k-preserved : goal.loop-k-preserved
loop-k-preserved g c = λ j h.
    let N = g.N.SumNumber in
    let law = g.met.N.SumNumber.numbers_law in
    let k = c.loop-k.k in
    let columns = c.args.columns.now in
    let at = read_is law columns k c.index-columns-k.result c.loop-k-test.true c.index-columns-k.is in
    ⊎_elim
    (λ (early : j < k). c.loop-k.invariant j early)
    (λ (last : k ≤ j).
    let here : j ≡ k = omega (arith, last, h) in
    subst (λ i. N.number c.greatest_of-greatest.result ≤ slice_index (N.numbers columns) i) (sym here)
    (omega (arith, at, c.is_below.ensures.not_below c.if-is_below.false)))
    (cases_lt j k)

pub returns-then-is_below : goal.returns-then-is_below
returns-then-is_below g c =
    let N = g.N.SumNumber in
    let law = g.met.N.SumNumber.numbers_law in
    let k = c.loop-k.k in
    let at = read_is law c.args.columns.now k c.index-columns-k.result c.loop-k-test.true c.index-columns-k.is in
    let less = c.is_below.ensures.below c.if-is_below.true in
    never (λ ordered.
    ⊎_elim
    (λ (none : N.number c.greatest_of-greatest.result ≡ 0). omega (arith, none, less))
    (λ some.
    let o = ordered some.0 k some.1 c.loop-k-test.true in
    let is = some.2 in
    omega (arith, o, is, at, less))
    c.greatest_of-greatest.ensures.reached)

pub returns : goal.returns
returns g c = (
  λ _ r k hr hk.
      let above = c.greatest_of-greatest.ensures.above r hr in
      let least = c.loop-k.invariant k (omega (arith, hk, c.loop-k-test.false)) in
      omega (arith, above, least),
  λ _. refl,
)
