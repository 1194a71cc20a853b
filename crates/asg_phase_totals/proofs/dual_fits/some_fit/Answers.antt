use Rattle.asg_phase_totals.proofs.Common.{◌≡◌, ◌+◌, ◌<◌, sym, subst, ⊎_elim, arith, Fits-lt-pow, bit_at, cases_eq, never, FitsAt, read_is}
use Rattle.asg_admit.specs.laws.NextBits.{next_bit, next_has, next_below, next_kept, next_gone, next_smaller}
use Rattle.asg_phase_totals.proofs.dual_fits.some_fit.Goals as goal

pub overflow_add-column : goal.overflow_add-column
overflow_add-column g c =
    let some : 0 < c.bits.rest = omega (arith, c.bits-test.true) in
    let fits = Fits-lt-pow c.bits.auto.rest-fits in
    let bit = next_bit c.bits.rest some fits in
    let below = c.requires.values bit (c.bits.invariant.left bit (next_has c.bits.rest some fits)) in
    omega (arith, below, c.requires.short)

pub offset_bounds-values-column : goal.offset_bounds-values-column
offset_bounds-values-column g c =
    let some : 0 < c.bits.rest = omega (arith, c.bits-test.true) in
    let fits = Fits-lt-pow c.bits.auto.rest-fits in
    let bit = next_bit c.bits.rest some fits in
    let below = c.requires.values bit (c.bits.invariant.left bit (next_has c.bits.rest some fits)) in
    omega (arith, below)

pub offset_bounds-columns-column : goal.offset_bounds-columns-column
offset_bounds-columns-column g c =
    let some : 0 < c.bits.rest = omega (arith, c.bits-test.true) in
    let fits = Fits-lt-pow c.bits.auto.rest-fits in
    let bit = next_bit c.bits.rest some fits in
    let below = c.requires.values bit (c.bits.invariant.left bit (next_has c.bits.rest some fits)) in
    omega (arith, below, c.requires.columns)

pub bounds-values-column : goal.bounds-values-column
bounds-values-column g c =
    let some : 0 < c.bits.rest = omega (arith, c.bits-test.true) in
    let fits = Fits-lt-pow c.bits.auto.rest-fits in
    let bit = next_bit c.bits.rest some fits in
    c.requires.values bit (c.bits.invariant.left bit (next_has c.bits.rest some fits))

pub bounds-columns-column : goal.bounds-columns-column
bounds-columns-column g c =
    let some : 0 < c.bits.rest = omega (arith, c.bits-test.true) in
    let fits = Fits-lt-pow c.bits.auto.rest-fits in
    let bit = next_bit c.bits.rest some fits in
    omega (arith, c.requires.values bit (c.bits.invariant.left bit (next_has c.bits.rest some fits)), c.requires.columns)

pub fits_at-requires : goal.fits_at-requires
fits_at-requires g c =
    let some : 0 < c.bits.rest = omega (arith, c.bits-test.true) in
    let fits = Fits-lt-pow c.bits.auto.rest-fits in
    let bit = next_bit c.bits.rest some fits in
    let N = g.N.SumNumber in
    let law = g.met.N.SumNumber.numbers_law in
    let column = c.args.first + bit in
    let below = c.requires.values bit (c.bits.invariant.left bit (next_has c.bits.rest some fits)) in
    let value = read_is law c.args.values.now column c.index-values-column.result below c.index-values-column.is in
    omega (arith, value, c.requires.few bit (c.bits.invariant.left bit (next_has c.bits.rest some fits)))

pub returns-then-not-fits_at : goal.returns-then-not-fits_at
returns-then-not-fits_at g c =
    let some : 0 < c.bits.rest = omega (arith, c.bits-test.true) in
    let fits = Fits-lt-pow c.bits.auto.rest-fits in
    let bit = next_bit c.bits.rest some fits in
    let N = g.N.SumNumber in
    let law = g.met.N.SumNumber.numbers_law in
    let column = c.args.first + bit in
    let below = c.requires.values bit (c.bits.invariant.left bit (next_has c.bits.rest some fits)) in
    let value = read_is law c.args.values.now column c.index-values-column.result below c.index-values-column.is in
    let dual = read_is law c.args.columns.now column c.index-columns-column.result (omega (arith, below, c.requires.columns)) c.index-columns-column.is in
    never (λ all.
    let ok = all bit (next_below c.bits.rest some fits) (c.bits.invariant.left bit (next_has c.bits.rest some fits)) in
    absurd (omega (arith, ok, value, dual, c.fits_at.ensures.beyond c.if-not-fits_at.true)))

pub bits-smaller : goal.bits-smaller
bits-smaller g c = next_smaller c.bits.rest (omega (arith, c.bits-test.true)) (Fits-lt-pow c.bits.auto.rest-fits)

pub bits-preserved : goal.bits-preserved
bits-preserved g c =
    let some : 0 < c.bits.rest = omega (arith, c.bits-test.true) in
    let fits = Fits-lt-pow c.bits.auto.rest-fits in
    let bit = next_bit c.bits.rest some fits in
    let N = g.N.SumNumber in
    let law = g.met.N.SumNumber.numbers_law in
    let column = c.args.first + bit in
    let below = c.requires.values bit (c.bits.invariant.left bit (next_has c.bits.rest some fits)) in
    let value = read_is law c.args.values.now column c.index-values-column.result below c.index-values-column.is in
    let dual = read_is law c.args.columns.now column c.index-columns-column.result (omega (arith, below, c.requires.columns)) c.index-columns-column.is in
    record {
      left = λ i has. c.bits.invariant.left i (next_kept c.bits.rest some fits i has);
      passed = λ i has none.
          ⊎_elim
          (λ was.
          let at : i ≡ bit = next_gone c.bits.rest some fits i was none in
          subst (λ j. FitsAt (N.numbers c.args.values.now) (N.numbers c.args.columns.now) (N.number c.args.raise) (c.args.first + j)) (sym at)
          (omega (arith, value, dual, c.fits_at.ensures.fits c.if-not-fits_at.false)))
          (λ gone. c.bits.invariant.passed i has gone)
          (cases_eq (bit_at c.bits.rest i) 1);
    }
