-- Marks, as bits of the words of a row.
use Rattle.asg_admit.proofs.Common.{◌≡◌, ℕ, ◌+◌, ◌*◌, ◌/◌, ◌%◌, ◌<◌, eqb, List, get_or, IsTrue, ap, arith, eqb-true, bit_at, is_marked, is_bit_set, HasBit}

-- the mark at a column is a bit of the word that holds the column
pub marked_at : (words : List ℕ) (n i : ℕ) → i < 64 → is_marked words (64 * n + i) ≡ is_bit_set (get_or words n 0) i
marked_at words n i low =
    let number : (64 * n + i) / 64 ≡ n = omega (arith, low) in
    let place : (64 * n + i) % 64 ≡ i = omega (arith, low) in
    λ j. is_bit_set (get_or words (number j) 0) (place j)

-- a bit is set where it is 1
pub bit_set : (word i : ℕ) → HasBit word i → IsTrue (is_bit_set word i)
bit_set word i has = ap (λ b. eqb b 1) has

pub set_bit : (word i : ℕ) → IsTrue (is_bit_set word i) → HasBit word i
set_bit word i set = eqb-true (bit_at word i) 1 set
