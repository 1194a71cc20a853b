use Rattle.asg_tokens.proofs.Common.{◌<◌, length, ap, ◌∙◌, arith, take_all, take-take, digits_value, is_ascii_digit, list_all}
use Rattle.asg_tokens.proofs.BlockLemmas.{number_step, front_digits}
use Rattle.asg_tokens.proofs.digit_words.number_past_word.Goals as goal

pub number_in_word-number-requires-clause-digits : goal.number_in_word-number-requires-clause-digits
number_in_word-number-requires-clause-digits c =
    ap (list_all is_ascii_digit) (take-take 8 8 c.args.digits.now (omega arith)) ∙ front_digits c.args.digits.now 8 c.requires.digits

pub loop-k-init : goal.loop-k-init
loop-k-init c =
    c.number_in_word-number.ensures.value ∙ ap (digits_value 10) (take-take 8 8 c.args.digits.now (omega arith))

pub overflow_mul-number : goal.overflow_mul-number
overflow_mul-number c =
    let within : c.loop-k.k < length c.args.digits.now = omega (arith, c.loop-k-test.true) in
    let next = number_step c.args.digits.now c.loop-k.k c.loop-k.number within c.requires.few c.requires.digits c.loop-k.invariant in
    omega (arith, next.small)

pub overflow_sub-number : goal.overflow_sub-number
overflow_sub-number c =
    let within : c.loop-k.k < length c.args.digits.now = omega (arith, c.loop-k-test.true) in
    let next = number_step c.args.digits.now c.loop-k.k c.loop-k.number within c.requires.few c.requires.digits c.loop-k.invariant in
    omega (arith, next.least, c.from.ensures, c.from-in-loop-k.ensures)

pub overflow_add-number : goal.overflow_add-number
overflow_add-number c =
    let within : c.loop-k.k < length c.args.digits.now = omega (arith, c.loop-k-test.true) in
    let next = number_step c.args.digits.now c.loop-k.k c.loop-k.number within c.requires.few c.requires.digits c.loop-k.invariant in
    omega (arith, next.small, next.least, next.digit, c.from.ensures, c.from-in-loop-k.ensures)

pub loop-k-preserved : goal.loop-k-preserved
loop-k-preserved c =
    let within : c.loop-k.k < length c.args.digits.now = omega (arith, c.loop-k-test.true) in
    let next = number_step c.args.digits.now c.loop-k.k c.loop-k.number within c.requires.few c.requires.digits c.loop-k.invariant in
    omega (arith, next.value, next.least, c.from.ensures, c.from-in-loop-k.ensures)

pub returns : goal.returns
returns c =
    c.loop-k.invariant ∙ ap (digits_value 10) (take_all c.loop-k.k c.args.digits.now (omega (arith, c.loop-k-test.false)))
