use Rattle.asg_grammar.proofs.Common.{◌^◌}
use Rattle.asg_grammar.proofs.SpelledDigits.{IsReading}
use Rattle.asg_grammar.proofs.numerals.wide_number.Given as goal

abbrev pub invariant-loop-byte : goal.invariant-loop-byte
invariant-loop-byte l = IsReading (2 ^ 128) l.word l.byte-index l.value
