use Rattle.asg_tokens.proofs.Common.{◌+◌, take, sym, ap, ◌∙◌, arith, digits_value, is_ascii_digit, list_all, IsDigitStep, digit_step}
use Rattle.asg_tokens.proofs.short_integers.short_number.Goals as goal
use Rattle.asg_tokens.proofs.short_integers.short_number.Goals.{Else-not-is_ascii_digit}

-- one more digit
step : (c : Else-not-is_ascii_digit) → IsDigitStep c.args.text.now 10 c.loop-byte.byte-index c.loop-byte.number
step c =
    let len = c.loop-byte.invariant.len in
    digit_step c.args.text.now c.loop-byte.byte-index c.loop-byte.number 10 c.loop-byte-test.true (omega arith) (sym c.is_ascii_digit.ensures.value ∙ c.if-not-is_ascii_digit.false)
    (ap (λ n. list_all is_ascii_digit (take n c.args.text.now)) (sym len) ∙ c.loop-byte.invariant.digits)
    (c.loop-byte.invariant.value ∙ ap (λ n. digits_value 10 (take n c.args.text.now)) len)

pub overflow_mul-number : goal.overflow_mul-number
overflow_mul-number c = omega (arith, (step c).small)

pub overflow_add-number : goal.overflow_add-number
overflow_add-number c = let next = step (goal.at.overflow_add-number c).Else-not-is_ascii_digit in omega (arith, next.small, next.least, next.digit, next.same, c.from.ensures)

pub loop-byte-preserved : goal.loop-byte-preserved
loop-byte-preserved c =
    let next = step (goal.at.loop-byte-preserved c).Else-not-is_ascii_digit in
    record {
      len = omega (arith, c.loop-byte.invariant.len);
      digits = ap (λ n. list_all is_ascii_digit (take (n + 1) c.args.text.now)) c.loop-byte.invariant.len ∙ next.digits;
      value = omega (arith, next.value, next.same, next.least, c.from.ensures, ap (λ n. digits_value 10 (take (n + 1) c.args.text.now)) c.loop-byte.invariant.len);
    }
