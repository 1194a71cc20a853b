use Rattle.asg_phase_totals.proofs.Common.{◌≡◌, ℕ, ◌<◌, ap, ◌∙◌, arith, bit_at, bit_at_ones, HasBit}
use Rattle.asg_phase_totals.proofs.dual_fits.word_fits.Goals as goal

-- a word of ones has each bit
all_set : (word : ℕ) → word ≡ 18446744073709551615 → (k : ℕ) → k < 64 → HasBit word k
all_set word ones k h = ap (λ w. bit_at w k) ones ∙ bit_at_ones 64 k h

pub word_of-requires : goal.word_of-requires
word_of-requires g c =
    omega (arith, c.requires.values 63 (all_set c.args.word c.if-word-eq18446744073709551615.true 63 (omega arith)))

pub word_of-requires-then-word-eq18446744073709551615 : goal.word_of-requires-then-word-eq18446744073709551615
word_of-requires-then-word-eq18446744073709551615 g c =
    omega (arith, c.requires.columns, c.requires.values 63 (all_set c.args.word c.if-word-eq18446744073709551615.true 63 (omega arith)))

pub all_fit-requires-clause-few : goal.all_fit-requires-clause-few
all_fit-requires-clause-few g c = λ k h.
    let few = c.requires.few k (all_set c.args.word c.if-word-eq18446744073709551615.true k h) in
    omega (arith, few, c.word_of.ensures.each k h)

pub returns-then-word-eq18446744073709551615 : goal.returns-then-word-eq18446744073709551615
returns-then-word-eq18446744073709551615 g c =
    let value = c.word_of.ensures.each in
    let column = c.word_of-then-word-eq18446744073709551615.ensures.each in (
      λ is k h _. let fit = c.all_fit.ensures.0 is k h in omega (arith, fit, value k h, column k h),
      λ all. c.all_fit.ensures.1 (λ k h. let fit = all k h (all_set c.args.word c.if-word-eq18446744073709551615.true k h) in omega (arith, fit, value k h, column k h)),
    )
