-- The number of eight digits, by their values in the bytes of a word: three multiplications give it.
use Rattle.asg_tokens.proofs.Common.{◌≡◌, ℕ, ◌+◌, ◌-◌, ◌*◌, ◌/◌, ◌%◌, ◌^◌, ◌<◌, ◌≤◌, true, bit_and, ap, ◌∙◌, arith, leb-true, and_block, and_mask, and_parts, digit_value, is_ascii_digit, digit_value_is}

whole : (x : ℕ) → x < 2 ^ 64 → x % 2 ^ 64 ≡ x
whole x h = omega arith

over_32 : (q r : ℕ) → r < 2 ^ 32 → (q * 2 ^ 32 + r) / 2 ^ 32 ≡ q
over_32 q r h = omega arith

under_32 : (q r : ℕ) → r < 2 ^ 32 → (q * 2 ^ 32 + r) % 2 ^ 32 ≡ r
under_32 q r h = omega arith

under_8 : (q r : ℕ) → r < 256 → (q * 256 + r) % 256 ≡ r
under_8 q r h = omega arith

-- the mask keeps bytes 0 and 4
masked : (x : ℕ) → bit_and x 0x0000_00ff_0000_00ff ≡ x / 2 ^ 32 % 256 * 2 ^ 32 + x % 2 ^ 32 % 256
masked x =
    let e : x ≡ x / 2 ^ 32 * 2 ^ 32 + x % 2 ^ 32 = omega arith in
    ap (λ y. bit_and y 0x0000_00ff_0000_00ff) e ∙ and_block 32 (x / 2 ^ 32) 255 (x % 2 ^ 32) 255 (omega arith) (omega arith)
    ∙ (λ i. and_mask (x / 2 ^ 32) 8 i * 2 ^ 32 + and_mask (x % 2 ^ 32) 8 i)

-- what the multiplications make of a word
abbrev pub worth : ℕ → ℕ
worth pairs =
    (bit_and pairs 0x0000_00ff_0000_00ff * 4294967296000100 % 2 ^ 64 + bit_and (pairs / 65536) 0x0000_00ff_0000_00ff * 42949672960001 % 2 ^ 64) % 2 ^ 64 / 2 ^ 32

below : (x : ℕ) → x < 100 → x < 256
below x h = omega arith

first : (p r : ℕ) → p < 100 → r < 100 → (r * 2 ^ 32 + p) * 4294967296000100 % 2 ^ 64 ≡ (p * 1000000 + r * 100) * 2 ^ 32 + p * 100
first p r P R = omega arith

second : (q s : ℕ) → q < 100 → s < 100 → (s * 2 ^ 32 + q) * 42949672960001 % 2 ^ 64 ≡ (q * 10000 + s) * 2 ^ 32 + q
second q s Q S = omega arith

last : (p q r s : ℕ) → p < 100 → q < 100 → r < 100 → s < 100
    → ((p * 1000000 + r * 100) * 2 ^ 32 + p * 100 + ((q * 10000 + s) * 2 ^ 32 + q)) % 2 ^ 64 / 2 ^ 32 ≡ p * 1000000 + q * 10000 + r * 100 + s
last p q r s P Q R S =
    let sum = (p * 1000000 + r * 100) * 2 ^ 32 + p * 100 + ((q * 10000 + s) * 2 ^ 32 + q) in
    let small : sum < 2 ^ 64 = omega arith in
    let parts : sum ≡ (p * 1000000 + q * 10000 + r * 100 + s) * 2 ^ 32 + (p * 100 + q) = omega arith in
    let low : p * 100 + q < 2 ^ 32 = omega arith in
    ap (λ x. x / 2 ^ 32) (whole sum small ∙ parts) ∙ over_32 _ _ low

-- p, q, r and s are the four pairs of digits, and x, y, z and w the bytes between them
combined : (p q r s x y z w pairs : ℕ) → p < 100 → q < 100 → r < 100 → s < 100 → x < 100 → y < 100 → z < 100 → w < 100
    → pairs ≡ p + 2 ^ 8 * x + 2 ^ 16 * q + 2 ^ 24 * y + 2 ^ 32 * r + 2 ^ 40 * z + 2 ^ 48 * s + 2 ^ 56 * w
    → worth pairs ≡ p * 1000000 + q * 10000 + r * 100 + s
combined p q r s x y z w pairs P Q R S X Y Z W e =
    let high : pairs / 2 ^ 32 ≡ (z + 2 ^ 8 * s + 2 ^ 16 * w) * 256 + r = omega arith in
    let low : pairs % 2 ^ 32 ≡ (x + 2 ^ 8 * q + 2 ^ 16 * y) * 256 + p = omega arith in
    let down : pairs / 65536 ≡ (((w * 256) + s) * 2 ^ 32) + ((y + 2 ^ 8 * r + 2 ^ 16 * z) * 256 + q) = omega arith in
    let a : pairs / 2 ^ 32 % 256 ≡ r = rw high (under_8 _ r (below r R)) in
    let b : pairs % 2 ^ 32 % 256 ≡ p = rw low (under_8 _ p (below p P)) in
    let part : (y + 2 ^ 8 * r + 2 ^ 16 * z) * 256 + q < 2 ^ 32 = omega arith in
    let c : pairs / 65536 / 2 ^ 32 % 256 ≡ s = rw (down, over_32 _ _ part) (under_8 _ s (below s S)) in
    let d : pairs / 65536 % 2 ^ 32 % 256 ≡ q = rw (down, under_32 _ _ part) (under_8 _ q (below q Q)) in
    rw (masked pairs, masked (pairs / 65536), a, b, c, d, first p r P R, second q s Q S) (last p q r s P Q R S)

-- eight values in the bytes of a word, the first in the lowest
pub values_joined : (a b c d f g i j word : ℕ) → a < 10 → b < 10 → c < 10 → d < 10 → f < 10 → g < 10 → i < 10 → j < 10
    → word ≡ a + 2 ^ 8 * b + 2 ^ 16 * c + 2 ^ 24 * d + 2 ^ 32 * f + 2 ^ 40 * g + 2 ^ 48 * i + 2 ^ 56 * j
    → worth ((word * 10 % 2 ^ 64 + word / 256) % 2 ^ 64) ≡ (((((((0 * 10 + a) * 10 + b) * 10 + c) * 10 + d) * 10 + f) * 10 + g) * 10 + i) * 10 + j
values_joined a b c d f g i j word A B C D F G I J is =
    let rest = b + 2 ^ 8 * c + 2 ^ 16 * d + 2 ^ 24 * f + 2 ^ 32 * g + 2 ^ 40 * i + 2 ^ 48 * j in
    let shifted : word / 256 ≡ rest = omega arith in
    let tens : word * 10 < 2 ^ 64 = omega arith in
    let sum : word * 10 + rest < 2 ^ 64 = omega arith in
    let pairs : (word * 10 % 2 ^ 64 + word / 256) % 2 ^ 64
    ≡ 10 * a + b + 2 ^ 8 * (10 * b + c) + 2 ^ 16 * (10 * c + d) + 2 ^ 24 * (10 * d + f) + 2 ^ 32 * (10 * f + g) + 2 ^ 40 * (10 * g + i) + 2 ^ 48 * (10 * i + j) + 2 ^ 56 * (10 * j) =
    rw (whole (word * 10) tens, shifted, whole (word * 10 + rest) sum) (omega arith) in
    combined _ _ _ _ _ _ _ _ _ (omega arith) (omega arith) (omega arith) (omega arith) (omega arith) (omega arith) (omega arith) (omega arith) pairs ∙ omega arith

-- the bytes of a word without those of eight zeros
abbrev pub less_zeros : ℕ → ℕ
less_zeros bytes = (bytes + (2 ^ 64 - 0x3030_3030_3030_3030)) % 2 ^ 64

-- a digit by its value
pub record IsOf (x : ℕ) : Type 0 where
  pub is : x ≡ digit_value x + 48
  pub low : digit_value x < 10

pub of_digit : (x : ℕ) → is_ascii_digit x ≡ true → IsOf x
of_digit x is_digit =
    let range = and_parts _ _ is_digit in
    let least : 48 ≤ x = leb-true _ _ range.0 in
    let most : x ≤ 57 = leb-true _ _ range.1 in
    let value = digit_value_is x least most in
    record { is = omega (arith, value); low = omega (arith, value) }
