-- The number of the digits with which the bytes of a word begin: those behind them are shifted out.
use Rattle.asg_tokens.proofs.Common.{◌≡◌, ℕ, zero, suc, ◌+◌, ◌-◌, ◌*◌, ◌/◌, ◌%◌, ◌^◌, ◌<◌, ◌≤◌, true, List, [], ◌∷◌, length, get_or, take, ap, ◌∙◌, arith, w64, and_parts, digit_value, digits_value, from_le_bytes, is_ascii_digit, list_all}
use Rattle.asg_tokens.proofs.EightDigits.{of_digit, less_zeros, worth, values_joined}

-- what the multiplications make of the values in a word
abbrev pub joined : ℕ → ℕ
joined values = worth ((values * 10 % 2 ^ 64 + values / 256) % 2 ^ 64)

-- the values of the first bytes, shifted to the end of the word
shifted_1 : (a high bytes : ℕ) → a < 10 → bytes ≡ (a + 48) + 2 ^ 8 * high → less_zeros bytes * 2 ^ 56 % 2 ^ 64 ≡ 2 ^ 56 * a
shifted_1 a high bytes A is = omega (arith, is)

shifted_2 : (a b high bytes : ℕ) → a < 10 → b < 10 → bytes ≡ (a + 48) + 2 ^ 8 * (b + 48) + 2 ^ 16 * high → less_zeros bytes * 2 ^ 48 % 2 ^ 64 ≡ 2 ^ 48 * a + 2 ^ 56 * b
shifted_2 a b high bytes A B is = omega (arith, is)

shifted_3 : (a b c high bytes : ℕ) → a < 10 → b < 10 → c < 10 → bytes ≡ (a + 48) + 2 ^ 8 * (b + 48) + 2 ^ 16 * (c + 48) + 2 ^ 24 * high → less_zeros bytes * 2 ^ 40 % 2 ^ 64 ≡ 2 ^ 40 * a + 2 ^ 48 * b + 2 ^ 56 * c
shifted_3 a b c high bytes A B C is = omega (arith, is)

shifted_4 : (a b c d high bytes : ℕ) → a < 10 → b < 10 → c < 10 → d < 10 → bytes ≡ (a + 48) + 2 ^ 8 * (b + 48) + 2 ^ 16 * (c + 48) + 2 ^ 24 * (d + 48) + 2 ^ 32 * high → less_zeros bytes * 2 ^ 32 % 2 ^ 64 ≡ 2 ^ 32 * a + 2 ^ 40 * b + 2 ^ 48 * c + 2 ^ 56 * d
shifted_4 a b c d high bytes A B C D is = omega (arith, is)

shifted_5 : (a b c d f high bytes : ℕ) → a < 10 → b < 10 → c < 10 → d < 10 → f < 10 → bytes ≡ (a + 48) + 2 ^ 8 * (b + 48) + 2 ^ 16 * (c + 48) + 2 ^ 24 * (d + 48) + 2 ^ 32 * (f + 48) + 2 ^ 40 * high → less_zeros bytes * 2 ^ 24 % 2 ^ 64 ≡ 2 ^ 24 * a + 2 ^ 32 * b + 2 ^ 40 * c + 2 ^ 48 * d + 2 ^ 56 * f
shifted_5 a b c d f high bytes A B C D F is = omega (arith, is)

shifted_6 : (a b c d f g high bytes : ℕ) → a < 10 → b < 10 → c < 10 → d < 10 → f < 10 → g < 10 → bytes ≡ (a + 48) + 2 ^ 8 * (b + 48) + 2 ^ 16 * (c + 48) + 2 ^ 24 * (d + 48) + 2 ^ 32 * (f + 48) + 2 ^ 40 * (g + 48) + 2 ^ 48 * high → less_zeros bytes * 2 ^ 16 % 2 ^ 64 ≡ 2 ^ 16 * a + 2 ^ 24 * b + 2 ^ 32 * c + 2 ^ 40 * d + 2 ^ 48 * f + 2 ^ 56 * g
shifted_6 a b c d f g high bytes A B C D F G is = omega (arith, is)

shifted_7 : (a b c d f g i high bytes : ℕ) → a < 10 → b < 10 → c < 10 → d < 10 → f < 10 → g < 10 → i < 10 → bytes ≡ (a + 48) + 2 ^ 8 * (b + 48) + 2 ^ 16 * (c + 48) + 2 ^ 24 * (d + 48) + 2 ^ 32 * (f + 48) + 2 ^ 40 * (g + 48) + 2 ^ 48 * (i + 48) + 2 ^ 56 * high → less_zeros bytes * 2 ^ 8 % 2 ^ 64 ≡ 2 ^ 8 * a + 2 ^ 16 * b + 2 ^ 24 * c + 2 ^ 32 * d + 2 ^ 40 * f + 2 ^ 48 * g + 2 ^ 56 * i
shifted_7 a b c d f g i high bytes A B C D F G I is = omega (arith, is)

shifted_8 : (a b c d f g i j bytes : ℕ) → a < 10 → b < 10 → c < 10 → d < 10 → f < 10 → g < 10 → i < 10 → j < 10 → bytes ≡ (a + 48) + 2 ^ 8 * (b + 48) + 2 ^ 16 * (c + 48) + 2 ^ 24 * (d + 48) + 2 ^ 32 * (f + 48) + 2 ^ 40 * (g + 48) + 2 ^ 48 * (i + 48) + 2 ^ 56 * (j + 48) → less_zeros bytes * 2 ^ 0 % 2 ^ 64 ≡ a + 2 ^ 8 * b + 2 ^ 16 * c + 2 ^ 24 * d + 2 ^ 32 * f + 2 ^ 40 * g + 2 ^ 48 * i + 2 ^ 56 * j
shifted_8 a b c d f g i j bytes A B C D F G I J is = omega (arith, is)

-- eight bytes, of which the first so many are digits
module _ (a b c d f g i j bytes : ℕ) (is : bytes ≡ from_le_bytes w64 (a ∷ b ∷ c ∷ d ∷ f ∷ g ∷ i ∷ j ∷ [])) where
  worths : bytes ≡ a + b * 256 ^ 1 + c * 256 ^ 2 + d * 256 ^ 3 + f * 256 ^ 4 + g * 256 ^ 5 + i * 256 ^ 6 + j * 256 ^ 7
  worths = is

  joined_1 : is_ascii_digit a ≡ true → joined (less_zeros bytes * 2 ^ 56 % 2 ^ 64) ≡ digits_value 10 (a ∷ [])
  joined_1 A =
      let of_a = of_digit a A in
      let values = shifted_1 (digit_value a) (b + 2 ^ 8 * c + 2 ^ 16 * d + 2 ^ 24 * f + 2 ^ 32 * g + 2 ^ 40 * i + 2 ^ 48 * j) bytes of_a.low (omega (arith, worths, of_a.is)) in
      values_joined 0 0 0 0 0 0 0 (digit_value a) (less_zeros bytes * 2 ^ 56 % 2 ^ 64) (omega arith) (omega arith) (omega arith) (omega arith) (omega arith) (omega arith) (omega arith) of_a.low (omega (arith, values))

  joined_2 : is_ascii_digit a ≡ true → is_ascii_digit b ≡ true → joined (less_zeros bytes * 2 ^ 48 % 2 ^ 64) ≡ digits_value 10 (a ∷ b ∷ [])
  joined_2 A B =
      let of_a = of_digit a A in
      let of_b = of_digit b B in
      let values = shifted_2 (digit_value a) (digit_value b) (c + 2 ^ 8 * d + 2 ^ 16 * f + 2 ^ 24 * g + 2 ^ 32 * i + 2 ^ 40 * j) bytes of_a.low of_b.low (omega (arith, worths, of_a.is, of_b.is)) in
      values_joined 0 0 0 0 0 0 (digit_value a) (digit_value b) (less_zeros bytes * 2 ^ 48 % 2 ^ 64) (omega arith) (omega arith) (omega arith) (omega arith) (omega arith) (omega arith) of_a.low of_b.low (omega (arith, values))

  joined_3 : is_ascii_digit a ≡ true → is_ascii_digit b ≡ true → is_ascii_digit c ≡ true → joined (less_zeros bytes * 2 ^ 40 % 2 ^ 64) ≡ digits_value 10 (a ∷ b ∷ c ∷ [])
  joined_3 A B C =
      let of_a = of_digit a A in
      let of_b = of_digit b B in
      let of_c = of_digit c C in
      let values = shifted_3 (digit_value a) (digit_value b) (digit_value c) (d + 2 ^ 8 * f + 2 ^ 16 * g + 2 ^ 24 * i + 2 ^ 32 * j) bytes of_a.low of_b.low of_c.low (omega (arith, worths, of_a.is, of_b.is, of_c.is)) in
      values_joined 0 0 0 0 0 (digit_value a) (digit_value b) (digit_value c) (less_zeros bytes * 2 ^ 40 % 2 ^ 64) (omega arith) (omega arith) (omega arith) (omega arith) (omega arith) of_a.low of_b.low of_c.low (omega (arith, values))

  joined_4 : is_ascii_digit a ≡ true → is_ascii_digit b ≡ true → is_ascii_digit c ≡ true → is_ascii_digit d ≡ true → joined (less_zeros bytes * 2 ^ 32 % 2 ^ 64) ≡ digits_value 10 (a ∷ b ∷ c ∷ d ∷ [])
  joined_4 A B C D =
      let of_a = of_digit a A in
      let of_b = of_digit b B in
      let of_c = of_digit c C in
      let of_d = of_digit d D in
      let values = shifted_4 (digit_value a) (digit_value b) (digit_value c) (digit_value d) (f + 2 ^ 8 * g + 2 ^ 16 * i + 2 ^ 24 * j) bytes of_a.low of_b.low of_c.low of_d.low (omega (arith, worths, of_a.is, of_b.is, of_c.is, of_d.is)) in
      values_joined 0 0 0 0 (digit_value a) (digit_value b) (digit_value c) (digit_value d) (less_zeros bytes * 2 ^ 32 % 2 ^ 64) (omega arith) (omega arith) (omega arith) (omega arith) of_a.low of_b.low of_c.low of_d.low (omega (arith, values))

  joined_5 : is_ascii_digit a ≡ true → is_ascii_digit b ≡ true → is_ascii_digit c ≡ true → is_ascii_digit d ≡ true → is_ascii_digit f ≡ true → joined (less_zeros bytes * 2 ^ 24 % 2 ^ 64) ≡ digits_value 10 (a ∷ b ∷ c ∷ d ∷ f ∷ [])
  joined_5 A B C D F =
      let of_a = of_digit a A in
      let of_b = of_digit b B in
      let of_c = of_digit c C in
      let of_d = of_digit d D in
      let of_f = of_digit f F in
      let values = shifted_5 (digit_value a) (digit_value b) (digit_value c) (digit_value d) (digit_value f) (g + 2 ^ 8 * i + 2 ^ 16 * j) bytes of_a.low of_b.low of_c.low of_d.low of_f.low (omega (arith, worths, of_a.is, of_b.is, of_c.is, of_d.is, of_f.is)) in
      values_joined 0 0 0 (digit_value a) (digit_value b) (digit_value c) (digit_value d) (digit_value f) (less_zeros bytes * 2 ^ 24 % 2 ^ 64) (omega arith) (omega arith) (omega arith) of_a.low of_b.low of_c.low of_d.low of_f.low (omega (arith, values))

  joined_6 : is_ascii_digit a ≡ true → is_ascii_digit b ≡ true → is_ascii_digit c ≡ true → is_ascii_digit d ≡ true → is_ascii_digit f ≡ true → is_ascii_digit g ≡ true → joined (less_zeros bytes * 2 ^ 16 % 2 ^ 64) ≡ digits_value 10 (a ∷ b ∷ c ∷ d ∷ f ∷ g ∷ [])
  joined_6 A B C D F G =
      let of_a = of_digit a A in
      let of_b = of_digit b B in
      let of_c = of_digit c C in
      let of_d = of_digit d D in
      let of_f = of_digit f F in
      let of_g = of_digit g G in
      let values = shifted_6 (digit_value a) (digit_value b) (digit_value c) (digit_value d) (digit_value f) (digit_value g) (i + 2 ^ 8 * j) bytes of_a.low of_b.low of_c.low of_d.low of_f.low of_g.low (omega (arith, worths, of_a.is, of_b.is, of_c.is, of_d.is, of_f.is, of_g.is)) in
      values_joined 0 0 (digit_value a) (digit_value b) (digit_value c) (digit_value d) (digit_value f) (digit_value g) (less_zeros bytes * 2 ^ 16 % 2 ^ 64) (omega arith) (omega arith) of_a.low of_b.low of_c.low of_d.low of_f.low of_g.low (omega (arith, values))

  joined_7 : is_ascii_digit a ≡ true → is_ascii_digit b ≡ true → is_ascii_digit c ≡ true → is_ascii_digit d ≡ true → is_ascii_digit f ≡ true → is_ascii_digit g ≡ true → is_ascii_digit i ≡ true → joined (less_zeros bytes * 2 ^ 8 % 2 ^ 64) ≡ digits_value 10 (a ∷ b ∷ c ∷ d ∷ f ∷ g ∷ i ∷ [])
  joined_7 A B C D F G I =
      let of_a = of_digit a A in
      let of_b = of_digit b B in
      let of_c = of_digit c C in
      let of_d = of_digit d D in
      let of_f = of_digit f F in
      let of_g = of_digit g G in
      let of_i = of_digit i I in
      let values = shifted_7 (digit_value a) (digit_value b) (digit_value c) (digit_value d) (digit_value f) (digit_value g) (digit_value i) (j) bytes of_a.low of_b.low of_c.low of_d.low of_f.low of_g.low of_i.low (omega (arith, worths, of_a.is, of_b.is, of_c.is, of_d.is, of_f.is, of_g.is, of_i.is)) in
      values_joined 0 (digit_value a) (digit_value b) (digit_value c) (digit_value d) (digit_value f) (digit_value g) (digit_value i) (less_zeros bytes * 2 ^ 8 % 2 ^ 64) (omega arith) of_a.low of_b.low of_c.low of_d.low of_f.low of_g.low of_i.low (omega (arith, values))

  joined_8 : is_ascii_digit a ≡ true → is_ascii_digit b ≡ true → is_ascii_digit c ≡ true → is_ascii_digit d ≡ true → is_ascii_digit f ≡ true → is_ascii_digit g ≡ true → is_ascii_digit i ≡ true → is_ascii_digit j ≡ true → joined (less_zeros bytes * 2 ^ 0 % 2 ^ 64) ≡ digits_value 10 (a ∷ b ∷ c ∷ d ∷ f ∷ g ∷ i ∷ j ∷ [])
  joined_8 A B C D F G I J =
      let of_a = of_digit a A in
      let of_b = of_digit b B in
      let of_c = of_digit c C in
      let of_d = of_digit d D in
      let of_f = of_digit f F in
      let of_g = of_digit g G in
      let of_i = of_digit i I in
      let of_j = of_digit j J in
      let values = shifted_8 (digit_value a) (digit_value b) (digit_value c) (digit_value d) (digit_value f) (digit_value g) (digit_value i) (digit_value j) bytes of_a.low of_b.low of_c.low of_d.low of_f.low of_g.low of_i.low of_j.low (omega (arith, worths, of_a.is, of_b.is, of_c.is, of_d.is, of_f.is, of_g.is, of_i.is, of_j.is)) in
      values_joined (digit_value a) (digit_value b) (digit_value c) (digit_value d) (digit_value f) (digit_value g) (digit_value i) (digit_value j) (less_zeros bytes * 2 ^ 0 % 2 ^ 64) of_a.low of_b.low of_c.low of_d.low of_f.low of_g.low of_i.low of_j.low (omega (arith, values))

-- the number of so many of them
of_bytes : (a b c d f g i j len bytes : ℕ) → 0 < len → len ≤ 8 → list_all is_ascii_digit (take len (a ∷ b ∷ c ∷ d ∷ f ∷ g ∷ i ∷ j ∷ [])) ≡ true → bytes ≡ from_le_bytes w64 (a ∷ b ∷ c ∷ d ∷ f ∷ g ∷ i ∷ j ∷ []) → joined (less_zeros bytes * 2 ^ (64 - 8 * len) % 2 ^ 64) ≡ digits_value 10 (take len (a ∷ b ∷ c ∷ d ∷ f ∷ g ∷ i ∷ j ∷ []))
of_bytes a b c d f g i j zero bytes some few are is = absurd (omega arith)
of_bytes a b c d f g i j (suc zero) bytes some few are is =
    let from_a = and_parts _ _ are in
    joined_1 a b c d f g i j bytes is from_a.0
of_bytes a b c d f g i j (suc (suc zero)) bytes some few are is =
    let from_a = and_parts _ _ are in
    let from_b = and_parts _ _ from_a.1 in
    joined_2 a b c d f g i j bytes is from_a.0 from_b.0
of_bytes a b c d f g i j (suc (suc (suc zero))) bytes some few are is =
    let from_a = and_parts _ _ are in
    let from_b = and_parts _ _ from_a.1 in
    let from_c = and_parts _ _ from_b.1 in
    joined_3 a b c d f g i j bytes is from_a.0 from_b.0 from_c.0
of_bytes a b c d f g i j (suc (suc (suc (suc zero)))) bytes some few are is =
    let from_a = and_parts _ _ are in
    let from_b = and_parts _ _ from_a.1 in
    let from_c = and_parts _ _ from_b.1 in
    let from_d = and_parts _ _ from_c.1 in
    joined_4 a b c d f g i j bytes is from_a.0 from_b.0 from_c.0 from_d.0
of_bytes a b c d f g i j (suc (suc (suc (suc (suc zero))))) bytes some few are is =
    let from_a = and_parts _ _ are in
    let from_b = and_parts _ _ from_a.1 in
    let from_c = and_parts _ _ from_b.1 in
    let from_d = and_parts _ _ from_c.1 in
    let from_f = and_parts _ _ from_d.1 in
    joined_5 a b c d f g i j bytes is from_a.0 from_b.0 from_c.0 from_d.0 from_f.0
of_bytes a b c d f g i j (suc (suc (suc (suc (suc (suc zero)))))) bytes some few are is =
    let from_a = and_parts _ _ are in
    let from_b = and_parts _ _ from_a.1 in
    let from_c = and_parts _ _ from_b.1 in
    let from_d = and_parts _ _ from_c.1 in
    let from_f = and_parts _ _ from_d.1 in
    let from_g = and_parts _ _ from_f.1 in
    joined_6 a b c d f g i j bytes is from_a.0 from_b.0 from_c.0 from_d.0 from_f.0 from_g.0
of_bytes a b c d f g i j (suc (suc (suc (suc (suc (suc (suc zero))))))) bytes some few are is =
    let from_a = and_parts _ _ are in
    let from_b = and_parts _ _ from_a.1 in
    let from_c = and_parts _ _ from_b.1 in
    let from_d = and_parts _ _ from_c.1 in
    let from_f = and_parts _ _ from_d.1 in
    let from_g = and_parts _ _ from_f.1 in
    let from_i = and_parts _ _ from_g.1 in
    joined_7 a b c d f g i j bytes is from_a.0 from_b.0 from_c.0 from_d.0 from_f.0 from_g.0 from_i.0
of_bytes a b c d f g i j (suc (suc (suc (suc (suc (suc (suc (suc zero)))))))) bytes some few are is =
    let from_a = and_parts _ _ are in
    let from_b = and_parts _ _ from_a.1 in
    let from_c = and_parts _ _ from_b.1 in
    let from_d = and_parts _ _ from_c.1 in
    let from_f = and_parts _ _ from_d.1 in
    let from_g = and_parts _ _ from_f.1 in
    let from_i = and_parts _ _ from_g.1 in
    let from_j = and_parts _ _ from_i.1 in
    joined_8 a b c d f g i j bytes is from_a.0 from_b.0 from_c.0 from_d.0 from_f.0 from_g.0 from_i.0 from_j.0
of_bytes a b c d f g i j (suc (suc (suc (suc (suc (suc (suc (suc (suc n))))))))) bytes some few are is = absurd (omega arith)

-- where the first of them are digits
word_digits : (word : List ℕ) (len bytes : ℕ) → length word ≡ 8 → 0 < len → len ≤ 8 → list_all is_ascii_digit (take len word) ≡ true
    → bytes ≡ from_le_bytes w64 (get_or word 0 0 ∷ get_or word 1 0 ∷ get_or word 2 0 ∷ get_or word 3 0 ∷ get_or word 4 0 ∷ get_or word 5 0 ∷ get_or word 6 0 ∷ get_or word 7 0 ∷ [])
    → joined (less_zeros bytes * 2 ^ (64 - 8 * len) % 2 ^ 64) ≡ digits_value 10 (take len word)
word_digits [] len bytes is_8 some few are is = absurd (omega arith)
word_digits (a ∷ []) len bytes is_8 some few are is = absurd (omega arith)
word_digits (a ∷ b ∷ []) len bytes is_8 some few are is = absurd (omega arith)
word_digits (a ∷ b ∷ c ∷ []) len bytes is_8 some few are is = absurd (omega arith)
word_digits (a ∷ b ∷ c ∷ d ∷ []) len bytes is_8 some few are is = absurd (omega arith)
word_digits (a ∷ b ∷ c ∷ d ∷ f ∷ []) len bytes is_8 some few are is = absurd (omega arith)
word_digits (a ∷ b ∷ c ∷ d ∷ f ∷ g ∷ []) len bytes is_8 some few are is = absurd (omega arith)
word_digits (a ∷ b ∷ c ∷ d ∷ f ∷ g ∷ i ∷ []) len bytes is_8 some few are is = absurd (omega arith)
word_digits (a ∷ b ∷ c ∷ d ∷ f ∷ g ∷ i ∷ j ∷ k ∷ word) len bytes is_8 some few are is = absurd (omega arith)
word_digits (a ∷ b ∷ c ∷ d ∷ f ∷ g ∷ i ∷ j ∷ []) len bytes is_8 some few are is = of_bytes a b c d f g i j len bytes some few are is

-- the multiplications give the number of the digits with which eight bytes begin
pub shifted_digits : (word : List ℕ) (len bytes shift : ℕ) → length word ≡ 8 → 0 < len → len ≤ 8 → list_all is_ascii_digit (take len word) ≡ true
    → bytes ≡ from_le_bytes w64 (get_or word 0 0 ∷ get_or word 1 0 ∷ get_or word 2 0 ∷ get_or word 3 0 ∷ get_or word 4 0 ∷ get_or word 5 0 ∷ get_or word 6 0 ∷ get_or word 7 0 ∷ [])
    → shift ≡ 2 ^ (64 - 8 * len) → joined (less_zeros bytes * shift % 2 ^ 64) ≡ digits_value 10 (take len word)
shifted_digits word len bytes shift is_8 some few are is shift_is =
    ap (λ shift. joined (less_zeros bytes * shift % 2 ^ 64)) shift_is ∙ word_digits word len bytes is_8 some few are is
