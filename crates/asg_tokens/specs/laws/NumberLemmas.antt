-- What the bytes of a piece say of the number that they spell.
use Rattle.std.proofs.Common.{◌≡◌, ℕ, ◌+◌, ◌-◌, ◌*◌, ◌<◌, ◌≤◌, true, false, cond, ◌&&◌, List, length, get_or, take, min, Option, Some, None, refl, ap, ◌∙◌, arith}
use Rattle.std.specs.Prelude.{nat_le, option_and_then}
use Rattle.std.specs.List.{list_all}
use Rattle.std.specs.Char.{is_ascii_digit, digit_value}
use Rattle.std.specs.Str.Parse.{digits_value}
use Rattle.std.proofs.lemmas.Bool.{lt-ltb, le-leb, le-ltb, leb-true, and_parts}
use Rattle.std.proofs.lemmas.List.Folds.{list_all_at}
use Rattle.std.proofs.lemmas.Int.Digits.{digits_value_more}
use Rattle.asg_model.specs.Limits.{most_cost}
use Rattle.asg_tokens.specs.Numbers.{number_of, size_of}

-- no digits are no number
pub number_of_nothing : (piece : List ℕ) → length piece ≡ 0 → number_of piece ≡ None
unfolding number_of
number_of_nothing piece empty = ap (λ v. cond (v && list_all is_ascii_digit piece) (Some (digits_value 10 piece)) None) (le-ltb 0 (length piece) (omega arith))

-- nor are bytes of which one is no digit
pub number_of_no_digit : (piece : List ℕ) (i : ℕ) → i < length piece → is_ascii_digit (get_or piece i 0) ≡ false → number_of piece ≡ None
unfolding number_of
number_of_no_digit piece i within no_digit =
    ap (λ v. cond (v && list_all is_ascii_digit piece) (Some (digits_value 10 piece)) None) (lt-ltb 0 (length piece) (omega arith))
    ∙ ap (λ v. cond v (Some (digits_value 10 piece)) None) (list_all_at is_ascii_digit piece i 0 within no_digit)

-- digits are their number
pub number_of_digits : (piece : List ℕ) → 0 < length piece → list_all is_ascii_digit piece ≡ true → number_of piece ≡ Some (digits_value 10 piece)
unfolding number_of
number_of_digits piece more digits =
    ap (λ v. cond (v && list_all is_ascii_digit piece) (Some (digits_value 10 piece)) None) (lt-ltb 0 (length piece) more)
    ∙ ap (λ v. cond v (Some (digits_value 10 piece)) None) digits

-- a number up to 10^9 is a size
pub size_of_digits : (piece : List ℕ) → 0 < length piece → list_all is_ascii_digit piece ≡ true → digits_value 10 piece ≤ most_cost → size_of piece ≡ Some (digits_value 10 piece)
unfolding size_of
size_of_digits piece more digits in_range =
    ap {B = Option ℕ} (option_and_then (λ size. cond (nat_le size 4294967295) (Some size) None)) (number_of_digits piece more digits)
    ∙ ap {B = Option ℕ} (λ v. cond v (Some (digits_value 10 piece)) None) (le-leb (digits_value 10 piece) 4294967295 (omega arith))

-- the value of a decimal digit
pub digit_value_is : (c : ℕ) → 48 ≤ c → c ≤ 57 → digit_value c ≡ c - 48
digit_value_is c low high = rw (le-ltb c 48 low, lt-ltb c 58 (omega arith)) refl

-- one more digit of a number that is kept at or below a cap
pub capped_more : (piece : List ℕ) (i cap number : ℕ) → i < length piece → is_ascii_digit (get_or piece i 0) ≡ true → number ≡ min cap (digits_value 10 (take i piece)) → min (number * 10 + (get_or piece i 0 - 48)) cap ≡ min cap (digits_value 10 (take (i + 1) piece))
capped_more piece i cap number within is_digit so_far =
    let range = and_parts _ _ is_digit in
    let low : 48 ≤ get_or piece i 0 = leb-true _ _ range.0 in
    let high : get_or piece i 0 ≤ 57 = leb-true _ _ range.1 in
    let digit = digit_value_is (get_or piece i 0) low high in
    let more = digits_value_more 10 piece i within in
    omega (arith, so_far, digit, more)
