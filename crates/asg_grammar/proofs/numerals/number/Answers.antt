use Rattle.asg_grammar.proofs.Common.{arith}
use Rattle.asg_grammar.proofs.SignedNumbers.{small_gives}
use Rattle.asg_grammar.proofs.numerals.number.Goals as goal

pub returns-in_err-wide_number : goal.returns-in_err-wide_number
returns-in_err-wide_number c = rw c.from_residual.ensures (λ n fits is. c.in_err-wide_number.ensures n (omega arith) is)

pub returns : goal.returns
returns c = small_gives c.args.word.now c.in_ok-wide_number.field-0 c.small_of.result c.in_ok-wide_number.ensures.0 c.in_ok-wide_number.ensures.1 c.small_of.ensures
