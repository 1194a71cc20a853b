use Rattle.asg_tokens.proofs.Common.{◌≡◌, ◌+◌, ◌*◌, ◌<◌, min, true, length, get_or, take, Some, option_map, sym, ap, ◌∙◌, arith, false-eqb, and_from, digits_value, is_ascii_digit, list_all, list_all_more, take-length, eqb-true, CAP, number_of_nothing, number_of_no_digit, number_of_digits, capped_more}
use Rattle.asg_tokens.proofs.numbers.capped_number.Goals as goal

pub returns-then-is_empty : goal.returns-then-is_empty
returns-then-is_empty c =
    sym (ap (option_map (min CAP)) (number_of_nothing c.args.digits.now (eqb-true _ 0 (sym c.if-is_empty.ensures))))

pub returns-then-not-is_ascii_digit : goal.returns-then-not-is_ascii_digit
returns-then-not-is_ascii_digit c =
    sym (ap (option_map (min CAP)) (number_of_no_digit c.args.digits.now c.loop-digit.digit-index c.loop-digit-test.true (sym c.if-not-is_ascii_digit.ensures.value)))

pub loop-digit-preserved : goal.loop-digit-preserved
loop-digit-preserved c =
    let is_digit : is_ascii_digit (get_or c.args.digits.now c.loop-digit.digit-index 0) ≡ true = sym c.if-not-is_ascii_digit.ensures.value in
    record {
      digits = list_all_more is_ascii_digit c.args.digits.now c.loop-digit.digit-index 0 c.loop-digit-test.true ∙ and_from _ _ c.loop-digit.invariant.digits is_digit;
      value = c.min-number.ensures ∙ ap (λ d. min (c.loop-digit.number * 10 + d) CAP) c.from.ensures ∙ capped_more c.args.digits.now c.loop-digit.digit-index CAP c.loop-digit.number c.loop-digit-test.true is_digit c.loop-digit.invariant.value;
    }

pub returns : goal.returns
returns c =
    let ended : c.loop-digit.digit-index ≡ length c.args.digits.now = omega arith in
    let whole : take c.loop-digit.digit-index c.args.digits.now ≡ c.args.digits.now = ap (λ n. take n c.args.digits.now) ended ∙ take-length c.args.digits.now in
    let more : 0 < length c.args.digits.now = omega (arith, false-eqb _ 0 c.if-is_empty.ensures) in
    ap Some (c.loop-digit.invariant.value ∙ ap (λ digits. min CAP (digits_value 10 digits)) whole)
    ∙ sym (ap (option_map (min CAP)) (number_of_digits c.args.digits.now more (ap (list_all is_ascii_digit) (sym whole) ∙ c.loop-digit.invariant.digits)))
