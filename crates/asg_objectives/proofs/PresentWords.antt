-- The words of the present cells of a row.
use Rattle.asg_objectives.proofs.Common.{◌≡◌, ℕ, ◌+◌, ◌*◌, ◌/◌, ◌%◌, ◌<◌, ◌↔◌, List, length, get_or, is_some, Option, sym, ap, ◌∙◌, arith, Decides-eqb, bit_at, HasBit, IsPresent}
use Rattle.asg_bit_rows.specs.BitTable.{is_bit_set, AreWordsOf}

-- a bit of a word says whether the cell is present
pub present_bit : {V : Type 0} (cells : ℕ → ℕ → Option V) (r side n k : ℕ) (words : List ℕ) → AreWordsOf (λ c. is_some (cells r c)) side words → n < length words → k < 64 → HasBit (get_or words n 0) k ↔ IsPresent cells r (64 * n + k)
present_bit cells r side n k words are within below =
    let word : (64 * n + k) / 64 ≡ n = omega (arith, below) in
    let bit : (64 * n + k) % 64 ≡ k = omega (arith, below) in
    let at = ap (λ i. is_bit_set (get_or words i 0) k) (sym word) ∙ ap (is_bit_set (get_or words ((64 * n + k) / 64) 0)) (sym bit) ∙ are.each (64 * n + k) (omega (arith, within, below)) in (
      λ has. sym at ∙ (Decides-eqb (bit_at (get_or words n 0) k) 1).1 has,
      λ is. (Decides-eqb (bit_at (get_or words n 0) k) 1).0 (at ∙ is),
    )
