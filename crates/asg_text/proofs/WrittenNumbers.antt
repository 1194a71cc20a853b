-- The texts of numbers as tokens.
use Rattle.asg_text.proofs.Common.{◌≡◌, ℕ, suc, ◌<◌, ◌≤◌, true, false, List, [], ◌∷◌, length, ℤ, pos, negsuc, neg_ℤ, ◌==◌, unsigned_abs, Some, decimal, All, refl, ap, ◌∙◌, arith, le-leb, All-cons, AllDigits, and_from, decimal_is_IsNumeral, digit_from_value, digits_value, is_ascii_digit, list_all, signed_decimal, most_cost, integer_of, size_of, is_space, no_spaces, no_colons, digits_spell, minus_spells}
use Rattle.asg_tokens.specs.laws.NumberLemmas.{size_of_digits}

-- bytes that a text may have as a token
pub record IsToken (token : List ℕ) : Type 0 where
  pub some : 0 < length token
  pub no_space : All (λ byte. is_space byte ≡ false) token

-- a token that spells an integer
pub record IsInteger (token : List ℕ) (a : ℤ) : Type 0 where
  pub is_token : IsToken token
  pub no_colon : All (λ byte. (byte == 58) ≡ false) token
  pub spells : integer_of token ≡ Some a

-- decimal digits that spell a number
record AreDigits (digits : List ℕ) (n : ℕ) : Type 0 where
  some : 0 < length digits
  are : list_all is_ascii_digit digits ≡ true
  value : digits_value 10 digits ≡ n

all_ascii : (digits : List ℕ) → AllDigits 10 digits → list_all is_ascii_digit digits ≡ true
all_ascii [] are = refl
all_ascii (byte ∷ digits) are =
    let range = digit_from_value byte are.0 in
    and_from _ _ (and_from _ _ (le-leb 48 byte range.0) (le-leb byte 57 range.1)) (all_ascii digits are.1)

decimal_digits : (n : ℕ) → n ≤ most_cost → AreDigits (decimal n) n
decimal_digits n few =
    let numeral = decimal_is_IsNumeral n (omega arith) in
    record { some = numeral.0.0; are = all_ascii (decimal n) numeral.0.1; value = numeral.1 }

digits_token : (digits : List ℕ) (n : ℕ) → AreDigits digits n → IsToken digits
digits_token digits n d = record { some = d.some; no_space = no_spaces digits d.are }

-- the text of a size
pub size_token : (n : ℕ) → n ≤ 1000 → IsToken (decimal n)
size_token n few = digits_token (decimal n) n (decimal_digits n (omega arith))

pub size_spells : (n : ℕ) → n ≤ 1000 → size_of (decimal n) ≡ Some n
size_spells n few =
    let d = decimal_digits n (omega arith) in
    size_of_digits (decimal n) d.some d.are (omega (arith, d.value)) ∙ ap Some d.value

-- the text of a part of a cost
plain_integer : (digits : List ℕ) (n : ℕ) → AreDigits digits n → IsInteger digits (pos n)
plain_integer digits n d = record {
  is_token = digits_token digits n d;
  no_colon = no_colons digits d.are;
  spells = digits_spell digits d.some d.are ∙ ap (λ n. Some (pos n)) d.value;
}

minus_integer : (digits : List ℕ) (n : ℕ) → AreDigits digits n → IsInteger (45 ∷ digits) (neg_ℤ (pos n))
minus_integer digits n d = record {
  is_token = record { some = omega arith; no_space = All-cons (λ byte. is_space byte ≡ false) 45 digits refl (no_spaces digits d.are) };
  no_colon = All-cons (λ byte. (byte == 58) ≡ false) 45 digits refl (no_colons digits d.are);
  spells = minus_spells digits d.some d.are ∙ ap (λ n. Some (neg_ℤ (pos n))) d.value;
}

pub part_integer : (a : ℤ) → unsigned_abs a ≤ most_cost → IsInteger (signed_decimal a) a
part_integer (pos n) within = plain_integer (decimal n) n (decimal_digits n within)
part_integer (negsuc n) within = minus_integer (decimal (suc n)) (suc n) (decimal_digits (suc n) within)
