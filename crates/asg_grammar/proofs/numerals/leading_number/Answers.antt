use Rattle.asg_grammar.proofs.Common.{arith}
use Rattle.asg_grammar.proofs.SpelledDigits.{first_digit, one_digit_more}
use Rattle.asg_grammar.proofs.numerals.leading_number.Goals as goal

pub returns-then-first-eq48 : goal.returns-then-first-eq48
returns-then-first-eq48 c =
    (omega arith, first_digit c.args.text.now c.in_ok-first.rest.now c.in_ok-first.first.now 0 c.in_ok-first.ensures.cases.0 (omega arith) (omega arith) (omega arith))

pub digits-init : goal.digits-init
digits-init c = record {
  some = omega arith;
  few = omega arith;
  whole = first_digit c.args.text.now c.in_ok-first.rest.now c.in_ok-first.first.now c.from-value.result c.in_ok-first.ensures.cases.0 (omega arith) (omega arith) (omega arith);
}

pub digits-preserved : goal.digits-preserved
digits-preserved c = record {
  some = omega arith;
  few = omega arith;
  whole = one_digit_more c.args.text.now c.digits.rest.now c.in-Some.left.now c.digits.value c.in-Some.byte.now _ c.digits.invariant.whole c.in-Some.ensures.cases.0 c.digits.invariant.some (omega arith) (omega arith) (omega arith) (omega arith);
}
