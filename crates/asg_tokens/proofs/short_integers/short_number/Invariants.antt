use Rattle.asg_tokens.proofs.Common.{◌≡◌, true, take, digits_value, is_ascii_digit, list_all}
use Rattle.asg_tokens.proofs.short_integers.short_number.Given as goal

-- the digits so far are digits, and the number is theirs
abbrev pub invariant-loop-byte : goal.invariant-loop-byte
invariant-loop-byte l = record {
  len : l.len ≡ l.byte-index;
  digits : list_all is_ascii_digit (take l.len l.text) ≡ true;
  value : l.number ≡ digits_value 10 (take l.len l.text);
}
