use Rattle.asg_tokens.proofs.Common.{◌≡◌, min, true, take, digits_value, is_ascii_digit, list_all, CAP}
use Rattle.asg_tokens.proofs.numbers.capped_number.Given as goal

-- the digits so far are digits, and the number is theirs, or the cap
abbrev pub invariant-loop-digit : goal.invariant-loop-digit
invariant-loop-digit l = record {
  digits : list_all is_ascii_digit (take l.digit-index l.digits) ≡ true;
  value : l.number ≡ min CAP (digits_value 10 (take l.digit-index l.digits));
}
