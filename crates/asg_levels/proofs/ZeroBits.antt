-- Words of bits for the numbers that are 0.
use Rattle.asg_levels.proofs.Common.{◌≡◌, ℕ, ◌+◌, ◌*◌, ◌%◌, ◌^◌, ◌<◌, Bool, true, false, ◌↔◌, List, get_or, ◌==◌, bit_or, sym, ap, ◌∙◌, subst, ⊎_elim, zero-mul, arith, w64, eqb-true, Decides-eqb, bit_at, bit_at-zero, bit_at_set_other, bit_at_set_same, bool_byte, cases_eq, false≢true, or_zero_r, bit_of, of_bit, same_bool, AreZeroBits}
use Rattle.asg_bit_rows.specs.WordBits.{HasBit}

-- the bits of a word are those of the first so many numbers that are 0, and no others
abbrev pub IsZeroMask : List ℕ → ℕ → ℕ → Type 0
IsZeroMask numbers count word = (k : ℕ) → HasBit word k ↔ ((k < count) × (get_or numbers k 0 ≡ 0))

mask_set : (numbers : List ℕ) (place word : ℕ) → place < 64 → get_or numbers place 0 ≡ 0 → IsZeroMask numbers place word → IsZeroMask numbers (place + 1) (bit_or word (1 * 2 ^ place % 2 ^ 64))
mask_set numbers place word h zero bits k = (
  λ has.
      ⊎_elim
      (λ same. (omega arith, subst (λ i. get_or numbers i 0 ≡ 0) (sym same) zero))
      (λ other. let before = (bits k).0 (sym (bit_at_set_other w64 word place h k other) ∙ has) in (omega (arith, before.0), before.1))
      (cases_eq k place),
  λ both.
      ⊎_elim
      (λ same. ap (bit_at (bit_or word (1 * 2 ^ place % 2 ^ 64))) same ∙ bit_at_set_same w64 word place h)
      (λ other. bit_at_set_other w64 word place h k other ∙ (bits k).1 (omega (arith, both.0, other), both.1))
      (cases_eq k place),
)

mask_clear : (numbers : List ℕ) (place word : ℕ) → (get_or numbers place 0 ≡ 0 → ⊥) → IsZeroMask numbers place word → IsZeroMask numbers (place + 1) word
mask_clear numbers place word some bits k = (
  λ has. let before = (bits k).0 has in (omega (arith, before.0), before.1),
  λ both.
      ⊎_elim
      (λ same. absurd (some (subst (λ i. get_or numbers i 0 ≡ 0) same both.1)))
      (λ other. (bits k).1 (omega (arith, both.0, other), both.1))
      (cases_eq k place),
)

-- one more number
pub mask_more : (numbers : List ℕ) (place word b : ℕ) (t : Bool) → place < 64 → (get_or numbers place 0 == 0) ≡ t → b ≡ bool_byte t → IsZeroMask numbers place word → IsZeroMask numbers (place + 1) (bit_or word (b * 2 ^ place % 2 ^ 64))
mask_more numbers place word b true h e is bits =
    subst (λ n. IsZeroMask numbers (place + 1) (bit_or word (n * 2 ^ place % 2 ^ 64))) (sym is)
    (mask_set numbers place word h (eqb-true (get_or numbers place 0) 0 e) bits)
mask_more numbers place word b false h e is bits =
    let nothing : 0 * 2 ^ place % 2 ^ 64 ≡ 0 = ap (λ n. n % 2 ^ 64) (zero-mul (2 ^ place)) in
    subst (λ n. IsZeroMask numbers (place + 1) (bit_or word (n * 2 ^ place % 2 ^ 64))) (sym is)
    (subst (λ n. IsZeroMask numbers (place + 1) (bit_or word n)) (sym nothing)
    (subst (IsZeroMask numbers (place + 1)) (sym (or_zero_r word)) (mask_clear numbers place word (λ zero. false≢true (sym e ∙ (Decides-eqb (get_or numbers place 0) 0).1 zero)) bits)))

pub mask_bits : (numbers : List ℕ) (count word : ℕ) → IsZeroMask numbers count word → AreZeroBits numbers count word
mask_bits numbers count word mask k h =
    same_bool _ _
    (λ e. (Decides-eqb (get_or numbers k 0) 0).1 ((mask k).0 (bit_of (bit_at word k) e)).1)
    (λ e. of_bit (bit_at word k) ((mask k).1 (h, eqb-true (get_or numbers k 0) 0 e)))
