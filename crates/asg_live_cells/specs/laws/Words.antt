-- The words of rows of bits.
use Rattle.std.proofs.Common.{◌≡◌, ◌↔◌, ℕ, ◌+◌, ◌*◌, ◌/◌, ◌%◌, ◌<◌, sym, ◌∙◌, ap, arith, List, length, get_or}
use Rattle.std.specs.Prelude.{IsTrue}
use Rattle.std.specs.Int.{bit_at}
use Rattle.std.proofs.lemmas.Bool.Decides.{Decides-eqb}
use Rattle.asg_match.specs.ColumnSet.{HasBit}
use Rattle.asg_bit_rows.specs.BitTable.{BitTable, has_bit, is_bit_set, AreWordsOf}

-- a bit of a word of a row
pub word_bit : (B : BitTable) (r columns n k : ℕ) (words : List ℕ) → AreWordsOf (has_bit B r) columns words → n < length words → k < 64 → HasBit (get_or words n 0) k ↔ IsTrue (has_bit B r (64 * n + k))
word_bit B r columns n k words are within below =
    let word : (64 * n + k) / 64 ≡ n = omega (arith, below) in
    let bit : (64 * n + k) % 64 ≡ k = omega (arith, below) in
    let at = ap (λ i. is_bit_set (get_or words i 0) k) (sym word) ∙ ap (is_bit_set (get_or words ((64 * n + k) / 64) 0)) (sym bit) ∙ are.each (64 * n + k) (omega (arith, within, below)) in (
      λ has. sym at ∙ (Decides-eqb (bit_at (get_or words n 0) k) 1).1 has,
      λ is. (Decides-eqb (bit_at (get_or words n 0) k) 1).0 (at ∙ is),
    )
