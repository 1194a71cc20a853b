use Rattle.asg_phase_totals.proofs.Common.{◌≡◌, ◌<◌, ◌≤◌, Bool, true, false, ◌&&◌, IsTrue, refl, subst, ⊎_elim, arith, cases_lt, false≢true, FitsAt, read_is}
use Rattle.asg_phase_totals.proofs.dual_fits.all_fit.Goals as goal

-- two answers together
both : (a b : Bool) → IsTrue (a && b) → IsTrue a × IsTrue b
both true b h = (refl, h)
both false b h = absurd (false≢true h)

together : (a b : Bool) → IsTrue a → IsTrue b → IsTrue (a && b)
together true b h k = k
together false b h k = absurd (false≢true h)

-- an answer that isn't false
told : (b : Bool) → (b ≡ false → ⊥) → IsTrue b
told true k = refl
told false k = absurd (k refl)

pub fits_at-fits-requires : goal.fits_at-fits-requires
fits_at-fits-requires g c =
    let N = g.N.SumNumber in
    let k = c.loop-k.k in
    let at = read_is g.met.N.SumNumber.numbers_law c.args.values.now k c.index-values-k.result (omega (arith, c.loop-k-test.true, c.requires.values)) c.index-values-k.is in
    omega (arith, at, c.requires.few k (omega (arith, c.loop-k-test.true)))

pub loop-k-preserved : goal.loop-k-preserved
loop-k-preserved g c =
    let N = g.N.SumNumber in
    let law = g.met.N.SumNumber.numbers_law in
    let k = c.loop-k.k in
    let fits = c.loop-k.fits in
    let here = c.fits_at-fits.result in
    let value = read_is law c.args.values.now k c.index-values-k.result (omega (arith, c.loop-k-test.true, c.requires.values)) c.index-values-k.is in
    let dual = read_is law c.args.columns.now k c.index-columns-k.result (omega (arith, c.loop-k-test.true, c.requires.columns)) c.index-columns-k.is in (
      λ yes i h.
          let parts = both fits here yes in
          ⊎_elim
          (λ (early : i < k). c.loop-k.invariant.0 parts.0 i early)
          (λ (last : k ≤ i).
          subst (λ j. FitsAt (N.numbers c.args.values.now) (N.numbers c.args.columns.now) (N.number c.args.raise) j) (let e : k ≡ i = omega (arith, last, h) in e)
          (omega (arith, value, dual, c.fits_at-fits.ensures.fits parts.1)))
          (cases_lt i k),
      λ all. together fits here
          (c.loop-k.invariant.1 (λ i h. all i (omega (arith, h))))
          (told here (λ no_more.
          let fit = all k (omega arith) in
          omega (arith, fit, value, dual, c.fits_at-fits.ensures.beyond no_more))),
    )
