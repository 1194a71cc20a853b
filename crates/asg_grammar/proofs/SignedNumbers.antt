-- Numbers by their size and their sign.
use Rattle.asg_grammar.proofs.Common.{◌≡◌, ℕ, suc, ◌-◌, ◌^◌, ◌<◌, ◌≤◌, List, ◌∷◌, ℤ, pos, negsuc, SomeIff, FitsSigned, Some, None, Option, sym, refl, ap, ◌∙◌, subst, arith, Spells, number_spelling, long_spelling, signed_spelling, decimal_same, not_minus, decimal, signed_decimal}
use Rattle.std.specs.Int.{w128}

-- after a minus
abbrev SizeOf : List ℕ → ℤ → Type 0
SizeOf digits z = (n : ℕ) × (n < 2 ^ 127) × (z ≡ negsuc n) × (digits ≡ decimal (suc n))

size_of : (digits : List ℕ) (z : ℤ) → FitsSigned w128 z → 45 ∷ digits ≡ signed_decimal z → SizeOf digits z
size_of digits (pos n) fits same = absurd (not_minus n digits (omega arith) (sym same))
size_of digits (negsuc n) fits same = (n, omega arith, refl, cc)

pub minus_none : (digits : List ℕ) → ((n : ℕ) → n < 2 ^ 128 → digits ≡ decimal n → ⊥) → (z : ℤ) → FitsSigned w128 z → 45 ∷ digits ≡ signed_decimal z → ⊥
minus_none digits none z fits same = let size = size_of digits z fits same in none (suc size.0) (omega (arith, size.1)) size.3

pub minus_gives : (digits : List ℕ) (size : ℕ) (r : Option ℤ) → size < 2 ^ 128 → digits ≡ decimal size → SomeIff r ((0 < size) × (size ≤ 2 ^ 127)) (negsuc (size - 1))
    → Spells signed_spelling (45 ∷ digits) r
minus_gives digits size (Some z) fits same gives =
    let back : suc (size - 1) ≡ size = omega (arith, gives.0.0) in (
      subst (FitsSigned w128) (sym gives.1) (omega (arith, gives.0.0, gives.0.1)),
      ap (λ ds. 45 ∷ ds) (same ∙ ap decimal (sym back)) ∙ ap signed_decimal (sym gives.1),
    )
minus_gives digits size None fits same gives = λ z fz is.
    let found = size_of digits z fz is in
    let sizes : size ≡ suc found.0 = decimal_same size (suc found.0) (omega arith) (omega (arith, found.1)) (sym same ∙ found.3) in
    gives (omega arith, omega (arith, found.1))

-- with no minus
pub plain_size : (word : List ℕ) (z : ℤ) → FitsSigned w128 z → ((rest : List ℕ) → word ≡ 45 ∷ rest → ⊥) → word ≡ signed_decimal z → (n : ℕ) × (n < 2 ^ 127) × (z ≡ pos n) × (word ≡ decimal n)
plain_size word (pos n) fits plain same = (n, omega arith, refl, same)
plain_size word (negsuc n) fits plain same = absurd (plain (decimal (suc n)) same)

pub plain_gives : (word : List ℕ) (size : ℕ) (r : Option ℤ) → ((rest : List ℕ) → word ≡ 45 ∷ rest → ⊥) → size < 2 ^ 128 → word ≡ decimal size → SomeIff r (size < 2 ^ 127) (pos size)
    → Spells signed_spelling word r
plain_gives word size (Some z) plain fits same gives =
    (subst (FitsSigned w128) (sym gives.1) (omega (arith, gives.0)), same ∙ ap signed_decimal (sym gives.1))
plain_gives word size None plain fits same gives = λ z fz is.
    let found = plain_size word z fz plain is in
    let sizes : size ≡ found.0 = decimal_same size found.0 (omega arith) (omega (arith, found.1)) (sym same ∙ found.3) in
    gives (omega (arith, found.1))

-- in 32 bits
pub small_gives : (word : List ℕ) (size : ℕ) (r : Option ℕ) → size < 2 ^ 128 → word ≡ decimal size → SomeIff r (size < 2 ^ 32) size → Spells number_spelling word r
small_gives word size (Some n) fits same gives = (omega (arith, gives.0, gives.1), same ∙ ap decimal (sym gives.1))
small_gives word size None fits same gives = λ n fn is.
    let sizes : size ≡ n = decimal_same size n (omega arith) (omega arith) (sym same ∙ is) in
    gives (omega (arith, fn))

-- in 64 bits
pub long_gives : (word : List ℕ) (size : ℕ) (r : Option ℕ) → size < 2 ^ 128 → word ≡ decimal size → SomeIff r (size < 2 ^ 64) size → Spells long_spelling word r
long_gives word size (Some n) fits same gives = (omega (arith, gives.0, gives.1), same ∙ ap decimal (sym gives.1))
long_gives word size None fits same gives = λ n fn is.
    let sizes : size ≡ n = decimal_same size n (omega arith) (omega arith) (sym same ∙ is) in
    gives (omega (arith, fn))
