-- Reading a number digit by digit.
use Rattle.asg_grammar.proofs.Common.{◌≡◌, ℕ, ◌+◌, ◌-◌, ◌*◌, ◌/◌, ◌%◌, ◌^◌, ◌<◌, ◌≤◌, true, false, ltb, ◌≢◌, List, [], ◌∷◌, ◌++◌, length, get_or, take, drop, sym, refl, ap, ◌∙◌, subst, inl, inr, append_assoc, arith, IsPlain, cases_lt, le-ltb, lt-ltb, decimal_is_IsNumeral_wide, decimal_digit, decimal_step_wide, decimal_by_steps_wide, take_all, take_more, length-append, get_or_append_left, decimal}
use Rattle.std.specs.Char.{digit_value}
use Rattle.std.specs.Str.Parse.{AllDigits, digits_value}
use Rattle.std.proofs.lemmas.Int.Digits.{digits_more, digits_value_more}
use Rattle.std.proofs.lemmas.Str.Parse.{digit_at, digits_value-take-le}

-- ---- no zero comes first

record Begins (n : ℕ) (ds : List ℕ) : Type 0 where
  some : 0 < length ds
  high : 0 < n → 48 < get_or ds 0 0
  zero_alone : n ≡ 0 → length ds ≡ 1

Begins-digit : (n : ℕ) → n < 10 → Begins n ((48 + n) ∷ [])
Begins-digit n small = record { some = omega arith; high = λ some. omega arith; zero_alone = λ none. refl }

Begins-step : (n : ℕ) (ds : List ℕ) → 10 ≤ n → Begins (n / 10) ds → Begins n (ds ++ ((48 + n % 10) ∷ []))
Begins-step n ds large b =
    let first : get_or (ds ++ ((48 + n % 10) ∷ [])) 0 0 ≡ get_or ds 0 0 = get_or_append_left ds ((48 + n % 10) ∷ []) 0 0 b.some in
    let front : 0 < n / 10 = omega arith in
    let above : 48 < get_or ds 0 0 = b.high front in
    record {
      some = omega (arith, length-append ds ((48 + n % 10) ∷ []), b.some);
      high = λ some. omega (arith, first, above);
      zero_alone = λ none. absurd (omega arith);
    }

decimal_plain : (n : ℕ) → n < 10 ^ 64 → IsPlain (decimal n)
decimal_plain n fits =
    let b = decimal_by_steps_wide Begins Begins-digit Begins-step n fits in
    record {
      some = b.some;
      no_zero = λ long is. elim (cases_lt 0 n) [
        | inl some ↦ absurd (omega (arith, b.high some, is))
        | inr none ↦ absurd (omega (arith, b.zero_alone (omega arith), long))
      ];
    }

pub not_plain : (word : List ℕ) (n : ℕ) → (IsPlain word → ⊥) → n < 10 ^ 64 → word ≡ decimal n → ⊥
not_plain word n not fits is = not (subst IsPlain (sym is) (decimal_plain n fits))

-- ---- digit by digit

digit_value_is : (c : ℕ) → 48 ≤ c → c ≤ 57 → digit_value c ≡ c - 48
digit_value_is c low high =
    let past : ltb c 48 ≡ false = le-ltb c 48 low in
    let below : ltb c 58 ≡ true = lt-ltb c 58 (omega arith) in
    rw (past, below) refl

-- the first i bytes are digits, and spell the value
pub record IsSpelledTo (word : List ℕ) (i value : ℕ) : Type 0 where
  pub digits : AllDigits 10 (take i word)
  pub worth : value ≡ digits_value 10 (take i word)
  pub spelled : 0 < i → decimal value ≡ take i word
  pub positive : 1 < length word → 0 < i → 0 < value

IsSpelledTo-none : (word : List ℕ) → IsSpelledTo word 0 0
IsSpelledTo-none word = record { digits = tt; worth = refl; spelled = λ some. absurd (omega arith); positive = λ long some. absurd (omega arith) }

spelled_first : (word : List ℕ) (next : ℕ) → 0 < length word → next < 10 → next ≡ get_or word 0 0 - 48 → 48 ≤ get_or word 0 0 → decimal next ≡ take 1 word
spelled_first [] next some small is low = absurd (omega arith)
spelled_first (c ∷ word) next some small is low = decimal_digit next small ∙ ap (λ d. d ∷ []) (omega arith)

spelled_next : (word : List ℕ) (i value next : ℕ) → i < length word → 0 < value → decimal value ≡ take i word
    → 48 ≤ get_or word i 0 → get_or word i 0 ≤ 57 → next ≡ value * 10 + (get_or word i 0 - 48) → next < 10 ^ 64 → decimal next ≡ take (i + 1) word
spelled_next word i value next within some front low high is fits =
    let tens : next / 10 ≡ value = omega arith in
    let ones : 48 + next % 10 ≡ get_or word i 0 = omega arith in
    decimal_step_wide next (omega arith) fits
    ∙ ap (λ k. decimal k ++ ((48 + next % 10) ∷ [])) tens
    ∙ ap (λ ds. ds ++ ((48 + next % 10) ∷ [])) front
    ∙ ap (λ c. take i word ++ (c ∷ [])) ones
    ∙ sym (take_more word i 0 within)

IsSpelledTo-more : (word : List ℕ) (i value next : ℕ) → IsPlain word → i < length word → IsSpelledTo word i value
    → 48 ≤ get_or word i 0 → get_or word i 0 ≤ 57 → next ≡ value * 10 + (get_or word i 0 - 48) → next < 10 ^ 64 → IsSpelledTo word (i + 1) next
IsSpelledTo-more word i value next plain within so_far low high is fits =
    let digit : digit_value (get_or word i 0) ≡ get_or word i 0 - 48 = digit_value_is (get_or word i 0) low high in
    record {
      digits = digits_more 10 word i within so_far.digits (omega (arith, digit));
      worth = is ∙ ap (λ d. value * 10 + d) (sym digit) ∙ ap (λ v. v * 10 + digit_value (get_or word i 0)) so_far.worth ∙ sym (digits_value_more 10 word i within);
      spelled = λ some. elim (cases_lt 0 i) [
        | inl later ↦ spelled_next word i value next within (so_far.positive (omega arith) later) (so_far.spelled later) low high is fits
        | inr first ↦ spelled_at_first first
      ];
      positive = λ long some. elim (cases_lt 0 i) [
        | inl later ↦ let before : 0 < value = so_far.positive long later in omega arith
        | inr first ↦ positive_at_first long first
      ];
    } where
      none_before : i ≤ 0 → value ≡ 0
      none_before first = let e : i ≡ 0 = omega arith in so_far.worth ∙ ap (λ k. digits_value 10 (take k word)) e

      spelled_at_first : i ≤ 0 → decimal next ≡ take (i + 1) word
      spelled_at_first first =
          let e : i ≡ 0 = omega arith in
          let zero : value ≡ 0 = none_before first in
          let at : get_or word i 0 ≡ get_or word 0 0 = ap (λ k. get_or word k 0) e in
          let one : i + 1 ≡ 1 = omega arith in
          spelled_first word next (omega arith) (omega arith) (omega arith) (omega arith) ∙ ap (λ k. take k word) (sym one)

      positive_at_first : 1 < length word → i ≤ 0 → 0 < next
      positive_at_first long first =
          let e : i ≡ 0 = omega arith in
          let at : get_or word i 0 ≡ get_or word 0 0 = ap (λ k. get_or word k 0) e in
          let high : get_or word 0 0 ≢ 48 = plain.no_zero long in
          omega arith

all_spelled : (word : List ℕ) (value : ℕ) → IsPlain word → IsSpelledTo word (length word) value → word ≡ decimal value
all_spelled word value plain read = sym (read.spelled plain.some ∙ take_all (length word) word (omega arith))

-- a word that doesn't go on with a digit, or goes past the limit, spells no number below it
not_longer : (limit : ℕ) (word : List ℕ) (i value n : ℕ) → limit ≤ 10 ^ 64 → i < length word → IsSpelledTo word i value
    → ((48 ≤ get_or word i 0) × (get_or word i 0 ≤ 57) × (value * 10 + (get_or word i 0 - 48) < limit) → ⊥) → n < limit → word ≡ decimal n → ⊥
not_longer limit word i value n wide within so_far stops below is =
    let numeral = decimal_is_IsNumeral_wide n (omega arith) in
    let digits : AllDigits 10 word = subst (AllDigits 10) (sym is) numeral.0.1 in
    let range = digit_at word i digits within in
    let digit : digit_value (get_or word i 0) ≡ get_or word i 0 - 48 = digit_value_is (get_or word i 0) range.0 range.1 in
    let more : value * 10 + (get_or word i 0 - 48) ≡ digits_value 10 (take (i + 1) word) =
    ap (λ d. value * 10 + d) (sym digit) ∙ ap (λ v. v * 10 + digit_value (get_or word i 0)) so_far.worth ∙ sym (digits_value_more 10 word i within) in
    let whole : digits_value 10 word ≡ n = ap (digits_value 10) is ∙ numeral.1 in
    stops (range.0, range.1, omega (arith, more, digits_value-take-le 10 word (i + 1) (omega arith), whole))

-- ---- all digits, one after the other

-- so many bytes of a plain word were read, as a number below the limit
pub record IsReading (limit : ℕ) (word : List ℕ) (i value : ℕ) : Type 0 where
  pub plain : IsPlain word
  pub so_far : IsSpelledTo word i value
  pub below : value < limit

pub IsReading-none : {limit : ℕ} (word : List ℕ) → 0 < limit → IsPlain word → IsReading limit word 0 0
IsReading-none word some plain = record { plain = plain; so_far = IsSpelledTo-none word; below = some }

-- what the next byte makes of the value
abbrev pub MoreBy : ℕ → List ℕ → ℕ → ℕ → Type 0
MoreBy limit word i value = (48 ≤ get_or word i 0) × (get_or word i 0 ≤ 57) × (value * 10 + (get_or word i 0 - 48) < limit)

pub IsReading-more : {limit : ℕ} (word : List ℕ) (i value next : ℕ) → limit ≤ 10 ^ 64 → IsReading limit word i value → i < length word
    → MoreBy limit word i value → next ≡ value * 10 + (get_or word i 0 - 48) → IsReading limit word (i + 1) next
IsReading-more word i value next wide read within more is = record {
  plain = read.plain;
  so_far = IsSpelledTo-more word i value next read.plain within read.so_far more.0 more.1 is (omega (arith, more.2, is));
  below = omega (arith, more.2, is);
}

pub IsReading-all : {limit : ℕ} (word : List ℕ) (i value : ℕ) → IsReading limit word i value → i ≡ length word → (value < limit) × (word ≡ decimal value)
IsReading-all word i value read all = (read.below, all_spelled word value read.plain (subst (λ k. IsSpelledTo word k value) all read.so_far))

pub IsReading-stops : {limit : ℕ} (word : List ℕ) (i value n : ℕ) → limit ≤ 10 ^ 64 → IsReading limit word i value → i < length word
    → (MoreBy limit word i value → ⊥) → n < limit → word ≡ decimal n → ⊥
IsReading-stops {limit} word i value n wide read within stops = not_longer limit word i value n wide within read.so_far stops

-- ---- digits that come first

pub first_digit : (text rest : List ℕ) (c value : ℕ) → text ≡ c ∷ rest → 48 ≤ c → c ≤ 57 → value ≡ c - 48 → text ≡ decimal value ++ rest
first_digit text rest c value is low high worth =
    let byte : 48 + value ≡ c = omega arith in
    is ∙ ap (λ b. b ∷ rest) (sym byte) ∙ ap (λ ds. ds ++ rest) (sym (decimal_digit value (omega arith)))

pub one_digit_more : (text rest left : List ℕ) (value c next : ℕ) → text ≡ decimal value ++ rest → rest ≡ c ∷ left → 0 < value → value < 10 ^ 18 → 48 ≤ c → c ≤ 57
    → next ≡ value * 10 + (c - 48) → text ≡ decimal next ++ left
one_digit_more text rest left value c next whole is some few low high worth =
    let tens : next / 10 ≡ value = omega arith in
    let ones : 48 + next % 10 ≡ c = omega arith in
    whole ∙ ap (λ bs. decimal value ++ bs) is ∙ sym (append_assoc (decimal value) (c ∷ []) left)
    ∙ ap (λ ds. ds ++ left) (ap (λ d. decimal value ++ d ∷ []) (sym ones) ∙ ap (λ n. decimal n ++ (48 + next % 10) ∷ []) (sym tens) ∙ sym (decimal_step_wide next (omega arith) (omega arith)))

-- a digit after a space
pub spaced_digit : (text : List ℕ) (value : ℕ) → 2 ≤ length text → get_or text 0 0 ≡ 32 → 48 ≤ get_or text 1 0 → get_or text 1 0 ≤ 57 → value ≡ get_or text 1 0 - 48
    → text ≡ 32 ∷ (decimal value ++ take (length text - 2) (drop 2 text))
spaced_digit [] value some space low high worth = absurd (omega arith)
spaced_digit (s ∷ []) value some space low high worth = absurd (omega arith)
spaced_digit (s ∷ (c ∷ rest)) value some space low high worth =
    let digit : c ∷ rest ≡ decimal value ++ rest = first_digit (c ∷ rest) rest c value refl low high worth in
    let all : take (length (s ∷ (c ∷ rest)) - 2) rest ≡ rest = take_all (length (s ∷ (c ∷ rest)) - 2) rest (omega arith) in
    ap (λ b. b ∷ (c ∷ rest)) space ∙ ap (λ bs. 32 ∷ bs) (digit ∙ ap (λ bs. decimal value ++ bs) (sym all))
