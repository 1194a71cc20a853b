use Rattle.asg_tokens.proofs.Common.{◌≡◌, take, digits_value}
use Rattle.asg_tokens.proofs.digit_words.number_past_word.Given as goal

-- the number of the digits so far
abbrev pub invariant-loop-k : goal.invariant-loop-k
invariant-loop-k l = l.number ≡ digits_value 10 (take l.k l.digits)
