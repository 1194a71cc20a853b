use Rattle.asg_grammar.proofs.Common.{length, ap, arith, length-decimal-le_wide}
use Rattle.asg_grammar.proofs.SignedNumbers.{long_gives}
use Rattle.asg_grammar.proofs.numerals.long_number.Goals as goal

pub returns-in_err-wide_number : goal.returns-in_err-wide_number
returns-in_err-wide_number c = rw c.from_residual.ensures (λ n fits is. c.in_err-wide_number.ensures n (omega arith) is)

pub returns : goal.returns
returns c = long_gives c.args.word.now c.in_ok-wide_number.field-0 c.long_of.result c.in_ok-wide_number.ensures.0 c.in_ok-wide_number.ensures.1 c.long_of.ensures

pub returns-then-word-gt20 : goal.returns-then-word-gt20
returns-then-word-gt20 c = λ n fits is. omega (arith, ap length is, length-decimal-le_wide 20 n (omega arith) (omega arith) (omega arith))
