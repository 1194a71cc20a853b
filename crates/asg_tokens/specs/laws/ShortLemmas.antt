-- Short integers: digits and a separator behind them.
use Rattle.std.proofs.Common.{◌≡◌, ◌==◌, ℕ, ◌+◌, ◌-◌, ◌*◌, ◌^◌, ◌<◌, ◌≤◌, true, false, cond, Option, List, [], ◌∷◌, ◌++◌, length, get_or, take, drop, Some, refl, sym, ap, ◌∙◌, arith, rules, lit<, Bool, subst, w64, to_z, of_z}
use Rattle.std.specs.Prelude.{ℤ, pos, neg_ℤ, ◌-ℤ◌, nat_lt, filter, All, unsigned_abs, FitsSigned}
use Rattle.std.specs.Option.{option_map}
use Rattle.std.specs.List.{list_all}
use Rattle.std.specs.Char.{is_ascii_digit}
use Rattle.std.specs.Str.Parse.{digits_value, AllDigits, starts_with_minus}
use Rattle.std.proofs.Math.Nat.{pow-le-pow_right}
use Rattle.std.proofs.lemmas.Bool.{lt-ltb, leb-true, and_parts, and_from, ne_eqb}
use Rattle.std.proofs.lemmas.List.{length-take, get_or-take}
use Rattle.std.proofs.lemmas.List.Folds.{list_all_more}
use Rattle.std.proofs.lemmas.List.Splits.{slice_split_at}
use Rattle.std.proofs.lemmas.List.Elements.{All-nil, All-cons}
use Rattle.std.proofs.lemmas.Int.{ints, to_z-of_z}
use Rattle.std.proofs.lemmas.Int.Digits.{digits_value-lt, digits_value_more}
use Rattle.asg_tokens.specs.Numbers.{number_of, integer_of}
use Rattle.asg_tokens.specs.Pieces.{pieces, is_space}
use Rattle.asg_tokens.specs.NextCells.{IsShortInteger, IsShortAmount}
use Rattle.asg_tokens.specs.laws.NumberLemmas.{number_of_digits, digit_value_is}

-- a digit lies between `0` and `9`
digit_range : (b : ℕ) → is_ascii_digit b ≡ true → (48 ≤ b) × (b ≤ 57)
digit_range b is_digit =
    let range = and_parts _ _ is_digit in
    (leb-true _ _ range.0, leb-true _ _ range.1)

-- and separates nothing
digit_is_no_space : (b : ℕ) → is_ascii_digit b ≡ true → is_space b ≡ false
digit_is_no_space b is_digit =
    let range = digit_range b is_digit in
    rw (ne_eqb b 32 (λ e. omega (arith, range)), ne_eqb b 9 (λ e. omega (arith, range)), ne_eqb b 13 (λ e. omega (arith, range)), ne_eqb b 10 (λ e. omega (arith, range))) refl

-- nor is it a colon
digit_is_no_colon : (b : ℕ) → is_ascii_digit b ≡ true → (b == 58) ≡ false
digit_is_no_colon b is_digit =
    let range = digit_range b is_digit in
    ne_eqb b 58 (λ e. omega (arith, range))

pub no_spaces : (digits : List ℕ) → list_all is_ascii_digit digits ≡ true → All (λ b. is_space b ≡ false) digits
no_spaces [] are = All-nil (λ b. is_space b ≡ false)
no_spaces (b ∷ digits) are =
    let parts = and_parts _ _ are in
    All-cons (λ b. is_space b ≡ false) b digits (digit_is_no_space b parts.0) (no_spaces digits parts.1)

pub no_colons : (digits : List ℕ) → list_all is_ascii_digit digits ≡ true → All (λ b. (b == 58) ≡ false) digits
no_colons [] are = All-nil (λ b. (b == 58) ≡ false)
no_colons (b ∷ digits) are =
    let parts = and_parts _ _ are in
    All-cons (λ b. (b == 58) ≡ false) b digits (digit_is_no_colon b parts.0) (no_colons digits parts.1)

all_digits : (digits : List ℕ) → list_all is_ascii_digit digits ≡ true → AllDigits 10 digits
all_digits [] are = search rules
all_digits (b ∷ digits) are =
    let parts = and_parts _ _ are in
    let range = digit_range b parts.0 in
    (omega (arith, digit_value_is b range.0 range.1), all_digits digits parts.1)

-- at most nine digits write less than 10^9
pub short_value : (digits : List ℕ) → list_all is_ascii_digit digits ≡ true → length digits ≤ 9 → digits_value 10 digits < 1000000000
short_value digits are short =
    let most : 10 ^ length digits ≤ 10 ^ 9 = pow-le-pow_right (lit< tt) short in
    omega (arith, digits_value-lt 10 digits (all_digits digits are))

-- the first i of at most ten bytes are digits of a small number, and so is the next
pub record IsDigitStep (text : List ℕ) (n i number : ℕ) : Type 0 where
  pub same : get_or (take n text) i 0 ≡ get_or text i 0
  pub small : number < 1000000000
  pub least : 48 ≤ get_or text i 0
  pub digit : get_or text i 0 - 48 ≤ 9
  pub digits : list_all is_ascii_digit (take (i + 1) text) ≡ true
  pub value : number * 10 + (get_or text i 0 - 48) ≡ digits_value 10 (take (i + 1) text)

pub digit_step : (text : List ℕ) (i number n : ℕ) → i < length (take n text) → n ≤ 10 → is_ascii_digit (get_or (take n text) i 0) ≡ true → list_all is_ascii_digit (take i text) ≡ true → number ≡ digits_value 10 (take i text) → IsDigitStep text n i number
digit_step text i number n within few is_digit digits value =
    let before : i < n = omega (arith, length-take n text) in
    let there : i < length text = omega (arith, length-take n text) in
    let here : is_ascii_digit (get_or text i 0) ≡ true = ap is_ascii_digit (sym (get_or-take n text i 0 before)) ∙ is_digit in
    let range = digit_range (get_or text i 0) here in
    record {
      same = get_or-take n text i 0 before;
      small = omega (arith, short_value (take i text) digits (omega (arith, length-take i text)));
      least = range.0;
      digit = omega (arith, range);
      digits = list_all_more is_ascii_digit text i 0 there ∙ and_from _ _ digits here;
      value = omega (arith, value, digits_value_more 10 text i there, digit_value_is (get_or text i 0) range.0 range.1);
    }

-- bytes without a separator, and one behind them, are the first piece of a text
pub word_first : (p : ℕ → Bool) (word : List ℕ) (b : ℕ) (rest : List ℕ) → 0 < length word → All (λ b. p b ≡ false) word → p b ≡ true → pieces p (word ++ b ∷ rest) ≡ word ∷ pieces p rest
unfolding pieces
word_first p word b rest some none separates =
    ap (filter (λ piece. nat_lt 0 (length piece))) (slice_split_at p word b rest none separates)
    ∙ ap (λ v. cond v (word ∷ pieces p rest) (pieces p rest)) (lt-ltb 0 (length word) some)

first_digit : (digits : List ℕ) → 0 < length digits → list_all is_ascii_digit digits ≡ true → is_ascii_digit (get_or digits 0 0) ≡ true
first_digit [] some are = absurd (omega arith)
first_digit (b ∷ digits) some are = (and_parts _ _ are).0

-- digits don't begin with a minus sign
no_minus : (digits : List ℕ) → 0 < length digits → list_all is_ascii_digit digits ≡ true → starts_with_minus digits ≡ false
no_minus digits some are =
    let range = digit_range (get_or digits 0 0) (first_digit digits some are) in
    ne_eqb (get_or digits 0 0) 45 (λ e. omega (arith, range))

from_zero : (a : ℤ) → neg_ℤ a ≡ pos 0 -ℤ a
from_zero a = omega (arith, ints)

amount_below_zero : (n : ℕ) → unsigned_abs (pos 0 -ℤ pos n) ≡ n
amount_below_zero n = omega (arith, ints)

-- digits spell their number
pub digits_spell : (digits : List ℕ) → 0 < length digits → list_all is_ascii_digit digits ≡ true → integer_of digits ≡ Some (pos (digits_value 10 digits))
unfolding integer_of
digits_spell digits some are =
    ap {B = Option ℤ} (λ v. cond v (option_map (λ n. neg_ℤ (pos n)) (number_of (drop 1 digits))) (option_map pos (number_of digits))) (no_minus digits some are) ∙ ap (option_map pos) (number_of_digits digits some are)

-- and behind a minus sign the number below zero
pub minus_spells : (digits : List ℕ) → 0 < length digits → list_all is_ascii_digit digits ≡ true → integer_of (45 ∷ digits) ≡ Some (neg_ℤ (pos (digits_value 10 digits)))
unfolding integer_of
minus_spells digits some are = ap (option_map (λ n. neg_ℤ (pos n))) (number_of_digits digits some are)

module _ {text : List ℕ} {amount : ℤ} {rest : List ℕ} (short : IsShortAmount text amount rest) where
  -- an amount without a sign
  pub plain_integer : IsShortInteger text amount rest
  plain_integer = record {
    word = short.digits;
    cut = short.cut;
    no_space = no_spaces short.digits short.are_digits;
    no_colon = no_colons short.digits short.are_digits;
    spells = digits_spell short.digits short.some short.are_digits ∙ ap Some (sym short.is_amount);
    in_range = let high = short.in_range in omega (arith, ap unsigned_abs short.is_amount);
  }

  -- an amount is small
  amount_fits : (a : ℤ) → unsigned_abs a ≡ digits_value 10 short.digits → FitsSigned w64 a
  amount_fits a is = let high = short.in_range in omega (arith, ints)

  -- and behind a minus sign
  negative_integer : IsShortInteger (45 ∷ text) (pos 0 -ℤ amount) rest
  negative_integer = record {
    word = 45 ∷ short.digits;
    cut = ap (λ text. 45 ∷ text) short.cut;
    no_space = All-cons (λ b. is_space b ≡ false) 45 short.digits refl (no_spaces short.digits short.are_digits);
    no_colon = All-cons (λ b. (b == 58) ≡ false) 45 short.digits refl (no_colons short.digits short.are_digits);
    spells = minus_spells short.digits short.some short.are_digits ∙ ap (λ a. Some (neg_ℤ a)) (sym short.is_amount) ∙ ap Some (from_zero amount);
    in_range = let high = short.in_range in let same : unsigned_abs (pos 0 -ℤ amount) ≡ digits_value 10 short.digits = rw short.is_amount (amount_below_zero (digits_value 10 short.digits)) in omega arith;
  }

  pub negative_integer_fits : (whole : List ℕ) → whole ≡ 45 ∷ text → IsShortInteger whole (to_z w64 (of_z w64 (pos 0 -ℤ to_z w64 (of_z w64 amount)))) rest
  negative_integer_fits whole is =
      let inner : to_z w64 (of_z w64 amount) ≡ amount = to_z-of_z w64 amount (amount_fits amount (ap unsigned_abs short.is_amount)) in
      let below : unsigned_abs (pos 0 -ℤ amount) ≡ digits_value 10 short.digits = rw short.is_amount (amount_below_zero (digits_value 10 short.digits)) in
      let outer : to_z w64 (of_z w64 (pos 0 -ℤ amount)) ≡ pos 0 -ℤ amount = to_z-of_z w64 (pos 0 -ℤ amount) (amount_fits (pos 0 -ℤ amount) below) in
      subst (λ whole. IsShortInteger whole (to_z w64 (of_z w64 (pos 0 -ℤ to_z w64 (of_z w64 amount)))) rest) (sym is)
      (subst (λ a. IsShortInteger (45 ∷ text) a rest) (sym outer ∙ ap (λ a. to_z w64 (of_z w64 (pos 0 -ℤ a))) (sym inner)) negative_integer)
