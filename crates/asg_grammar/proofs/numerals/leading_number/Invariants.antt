use Rattle.asg_grammar.proofs.Common.{◌≡◌, ◌^◌, ◌<◌, ◌++◌, length, decimal}
use Rattle.asg_grammar.proofs.numerals.leading_number.Given as goal

abbrev pub invariant-digits : goal.invariant-digits
invariant-digits l = record { some : 0 < l.value; few : l.value < 10 ^ 18; whole : l.text ≡ decimal l.value ++ l.rest }

abbrev pub decreases-digits : goal.decreases-digits
decreases-digits l = length l.rest
