use Rattle.asg_grammar.proofs.Common.{arith}
use Rattle.asg_grammar.proofs.SpelledDigits.{spaced_digit}
use Rattle.asg_grammar.proofs.list_lines.next_digit.Goals as goal

pub returns : goal.returns
returns c = (omega arith, spaced_digit c.args.bytes.now c.from.result c.in-len2-up.len_at_least (omega arith) (omega arith) (omega arith) (omega arith))
