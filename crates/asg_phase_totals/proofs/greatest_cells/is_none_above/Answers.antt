use Rattle.asg_phase_totals.proofs.Common.{◌≡◌, ◌<◌, ◌≤◌, slice_index, subst, ⊎_elim, arith, cases_lt, read_is}
use Rattle.asg_phase_totals.proofs.greatest_cells.is_none_above.Goals as goal

pub returns-then-values-eq64 : goal.returns-then-values-eq64
returns-then-values-eq64 g c = λ yes k h. c.is_none_of_64.ensures yes k (omega (arith, h, c.if-values-eq64.true))

pub loop-k-preserved : goal.loop-k-preserved
loop-k-preserved g c =
    let N = g.N.SumNumber in
    let law = g.met.N.SumNumber.numbers_law in
    let k = c.loop-k.k in
    let value = read_is law c.args.values.now k c.index-values-k.result (omega (arith, c.loop-k-test.true)) c.index-values-k.is in
    λ i h.
    ⊎_elim
    (λ (early : i < k). c.loop-k.invariant i early)
    (λ (last : k ≤ i).
    subst (λ j. slice_index (N.numbers c.args.values.now) j ≤ N.number c.args.most) (let e : k ≡ i = omega (arith, last, h) in e)
    (omega (arith, value, c.is_below.ensures.not_below c.if-is_below.false)))
    (cases_lt i k)

pub returns : goal.returns
returns g c = λ _ k h. c.loop-k.invariant k (omega (arith, h, c.loop-k-test.false))
