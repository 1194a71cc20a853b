use Rattle.asg_phase_totals.proofs.Common.{◌≡◌, ◌<◌, ◌≤◌, Bool, true, false, not, ◌&&◌, IsTrue, slice_index, refl, subst, ⊎_elim, arith, cases_lt, false≢true, read_is}
use Rattle.asg_phase_totals.proofs.greatest_cells.is_none_of_64.Goals as goal

-- two answers together
both : (a b : Bool) → IsTrue (a && b) → IsTrue a × IsTrue b
both true b h = (refl, h)
both false b h = absurd (false≢true h)

-- an answer that isn't true
refused : (b : Bool) → IsTrue (not b) → b ≡ false
refused false h = refl
refused true h = absurd (false≢true h)

pub loop-k-preserved : goal.loop-k-preserved
loop-k-preserved g c =
    let N = g.N.SumNumber in
    let law = g.met.N.SumNumber.numbers_law in
    let k = c.loop-k.k in
    let is_none = c.loop-k.is_none in
    let below = c.is_below.result in
    let value = read_is law c.args.values.now k c.index-values-k.result (omega (arith, c.loop-k-test.true, c.requires)) c.index-values-k.is in
    λ yes i h.
    let parts = both is_none (not below) yes in
    ⊎_elim
    (λ (early : i < k). c.loop-k.invariant parts.0 i early)
    (λ (last : k ≤ i).
    subst (λ j. slice_index (N.numbers c.args.values.now) j ≤ N.number c.args.most) (let e : k ≡ i = omega (arith, last, h) in e)
    (omega (arith, value, c.is_below.ensures.not_below (refused below parts.1))))
    (cases_lt i k)
