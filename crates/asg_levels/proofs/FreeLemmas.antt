-- Cells that are 0 and columns that stay, word by word.
use Rattle.asg_levels.proofs.Common.{◌≡◌, ℕ, ◌+◌, ◌*◌, ◌%◌, ◌<◌, ◌≤◌, true, List, ◌==◌, bit_and, sym, ap, ◌∙◌, ⊎_elim, arith, and_from, bit_at-zero, cases_lt, false≢true, BitTable, has_bit, is_bit_set, is_and, tight_bit}

-- words without a common bit
no_common : (a b k : ℕ) → bit_and a b ≡ 0 → is_bit_set a k ≡ true → is_bit_set b k ≡ true → ⊥
no_common a b k none ha hb =
    false≢true
    (sym (ap (λ n. n == 1) (bit_at-zero k))
    ∙ ap (λ n. is_bit_set n k) (sym none)
    ∙ is_and a b k
    ∙ and_from (is_bit_set a k) (is_bit_set b k) ha hb)

-- one more word in which no cell that is 0 has a column that stays
pub free_more : (zeros ones stay : BitTable) (outs : List ℕ) (ins row number word stays : ℕ)
    → ((k : ℕ) → k < 64 → is_bit_set word k ≡ tight_bit zeros ones outs ins row (64 * number + k))
    → ((k : ℕ) → k < 64 → is_bit_set stays k ≡ has_bit stay 0 (64 * number + k))
    → bit_and word stays ≡ 0
    → ((c : ℕ) → c < 64 * number → tight_bit zeros ones outs ins row c ≡ true → has_bit stay 0 c ≡ true → ⊥)
    → (c : ℕ) → c < 64 * (number + 1) → tight_bit zeros ones outs ins row c ≡ true → has_bit stay 0 c ≡ true → ⊥
free_more zeros ones stay outs ins row number word stays bits stay_bits none before c h tight stays_there =
    ⊎_elim
    (λ (early : c < 64 * number). before c early tight stays_there)
    (λ (late : 64 * number ≤ c).
    let place : 64 * number + c % 64 ≡ c = omega (arith, h, late) in
    no_common word stays (c % 64) none
    (bits (c % 64) (omega arith) ∙ ap (tight_bit zeros ones outs ins row) place ∙ tight)
    (stay_bits (c % 64) (omega arith) ∙ ap (has_bit stay 0) place ∙ stays_there))
    (cases_lt c (64 * number))
