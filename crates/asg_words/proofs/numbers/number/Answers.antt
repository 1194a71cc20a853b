-- Thirteen digits are below 2^64.
use Rattle.std.proofs.Common.{◌≡◌, ◌≤◌, ◌∙◌, ℕ, List, length, true, ap, rules, arith, nat_le}
use Rattle.std.specs.Char.{is_ascii_digit}
use Rattle.std.specs.List.{list_all}
use Rattle.std.specs.Result.{result_ok}
use Rattle.std.specs.Str.Parse.{digits_value}
use Rattle.std.proofs.lemmas.Str.Parse.{IsNumeralModel, numerals_by_value, parse_gives, digits_value_short}
use Rattle.std.proofs.lemmas.Bool.Decides.{nat_tests}
use Rattle.asg_words.proofs.Conjunctions.{both}
use Rattle.asg_words.specs.Numbers.{is_number}
use Rattle.asg_words.proofs.numbers.number.Goals as goal

abbrev AreDigits : List ℕ → Type 0
AreDigits text = list_all is_ascii_digit text ≡ true

are_numerals : IsNumeralModel AreDigits (digits_value 10)
are_numerals = numerals_by_value AreDigits (search rules)

-- what is told of a text by the test
digits_of : (text : List ℕ) → is_number text ≡ true → (1 ≤ length text) × (length text ≤ 13) × AreDigits text
digits_of text is =
    let first = both (nat_le 1 (length text)) _ is in
    let second = both (nat_le (length text) 13) _ first.1 in
    (grind (arith, nat_tests), grind (arith, nat_tests), second.1)

pub returns-then-is_number : goal.returns-then-is_number
returns-then-is_number c =
    let text = c.args.text.now in
    let is : is_number text ≡ true = cc in
    let digits = digits_of text is in
    let parsed = parse_gives are_numerals 64 text c.parse.result c.parse.ensures.value.0 digits.2 digits.0 (omega (arith, digits_value_short are_numerals text 13 digits.2 digits.1)) in
    rw is (c.ok.ensures.value ∙ ap result_ok parsed)
