use Rattle.asg_answers.proofs.Common.{◌≡◌, ◌++◌, take, string_bytes, spaced}
use Rattle.asg_answers.proofs.refusals.push_numbers.Given as goal

-- the numbers so far stand behind the line
abbrev pub invariant-loop-number : goal.invariant-loop-number
invariant-loop-number l = string_bytes l.line ≡ string_bytes l.fn.line ++ spaced (take l.number-index l.numbers)
