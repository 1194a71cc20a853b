use Rattle.asg_duals.proofs.Common.{◌≡◌, ◌+◌, ◌<◌, length, sym, subst, ⊎_elim, arith, Fits-lt-pow, bit_at, cases_eq, Reaches}
use Rattle.asg_admit.specs.laws.NextBits.{next_bit, next_kept, next_gone, next_smaller}
use Rattle.asg_duals.proofs.tightness.set_are_above.Goals as goal

pub bits-smaller : goal.bits-smaller
bits-smaller c = next_smaller c.bits.rest (omega (arith, c.bits-test.true)) (Fits-lt-pow c.bits.auto.rest-fits)

pub bits-preserved : goal.bits-preserved
bits-preserved c =
    let some : 0 < c.bits.rest = omega (arith, c.bits-test.true) in
    let fits = Fits-lt-pow c.bits.auto.rest-fits in
    let bit = next_bit c.bits.rest some fits in
    record {
      left = λ k has. c.bits.invariant.left k (next_kept c.bits.rest some fits k has);
      passed = λ k has none.
          ⊎_elim
          (λ was.
          let at : k ≡ bit = next_gone c.bits.rest some fits k was none in
          subst (λ j. c.args.first + j < length c.args.values.now → Reaches c.args.values.now c.args.rises.now c.args.fall (c.args.first + j)) (sym at) (c.is_above.ensures c.if-not-is_above.false))
          (λ gone. c.bits.invariant.passed k has gone)
          (cases_eq (bit_at c.bits.rest k) 1);
    }
