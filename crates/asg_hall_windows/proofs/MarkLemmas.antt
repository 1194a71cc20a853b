-- Marks that are kept, and those that are added.
use Rattle.asg_hall_windows.proofs.Common.{◌≡◌, ℕ, ◌+◌, ◌*◌, ◌/◌, ◌%◌, ◌<◌, List, length, get_or, set, sym, refl, ap, ◌∙◌, subst, inl, inr, ⊎_elim, cases_eq, get_or-set_other, get_or-set_same, bit_or, HasBit, HasBit-or, HasBit-with_same, HasBit-zero, IsMarked, KeepsMarks, Marks}
use Rattle.std.specs.Prelude.{◌^◌}

pub keeps_all : (marks : Marks) → KeepsMarks marks marks
keeps_all marks = record { width = refl; count = refl; bits = λ p k has. has }

pub keeps_both : (before mid after : Marks) → KeepsMarks before mid → KeepsMarks mid after → KeepsMarks before after
keeps_both before mid after first then = record {
  width = then.width ∙ first.width;
  count = then.count ∙ first.count;
  bits = λ p k has. then.bits p k (first.bits p k has);
}

-- a mark stays
pub marked_on : (before after : Marks) (line w : ℕ) → KeepsMarks before after → IsMarked before line w → IsMarked after line w
marked_on before after line w keeps has =
    subst (λ width. HasBit (get_or after.words.items (line * width + w / 64) 0) (w % 64)) (sym keeps.width)
    (keeps.bits (line * before.width + w / 64) (w % 64) has)

-- bits that a word has or gets
pub bits_kept : (words : List ℕ) (p bits q k : ℕ) → p < length words → HasBit (get_or words q 0) k → HasBit (get_or (set words p (bit_or (get_or words p 0) bits)) q 0) k
bits_kept words p bits q k within has =
    ⊎_elim
    (λ (here : q ≡ p).
    let word = bit_or (get_or words p 0) bits in
    subst (λ n. HasBit n k) (sym (ap (λ i. get_or (set words p word) i 0) here ∙ get_or-set_same words p word 0 within))
    ((HasBit-or (get_or words p 0) bits k).1 (inl (subst (λ i. HasBit (get_or words i 0) k) here has))))
    (λ other. subst (λ n. HasBit n k) (sym (get_or-set_other words p q (bit_or (get_or words p 0) bits) 0 other)) has)
    (cases_eq q p)

pub bits_added : (words : List ℕ) (p bits k : ℕ) → p < length words → HasBit bits k → HasBit (get_or (set words p (bit_or (get_or words p 0) bits)) p 0) k
bits_added words p bits k within has =
    subst (λ n. HasBit n k) (sym (get_or-set_same words p (bit_or (get_or words p 0) bits) 0 within))
    ((HasBit-or (get_or words p 0) bits k).1 (inr has))

-- the bit of a shifted one
pub one_bit : (k : ℕ) → k < 64 → HasBit (1 * 2 ^ k % 2 ^ 64) k
one_bit k h =
    ⊎_elim (λ none. absurd (HasBit-zero k none)) (λ one. one)
    ((HasBit-or 0 (1 * 2 ^ k % 2 ^ 64) k).0 (HasBit-with_same 0 k h))

-- the marks of a line as a word of it says them
pub word_marked : (named before after : Marks) (row column number bits w : ℕ) → w / 64 ≡ number → HasBit bits (w % 64) → KeepsMarks before after
    → ((k : ℕ) → HasBit bits k → HasBit (get_or named.words.items (row * named.width + number) 0) k → HasBit (get_or after.words.items (column * before.width + number) 0) k)
    → IsMarked named row w → IsMarked after column w
word_marked named before after row column number bits w same bit keeps marks has =
    subst (λ width. HasBit (get_or after.words.items (column * width + w / 64) 0) (w % 64)) (sym keeps.width)
    (subst (λ n. HasBit (get_or after.words.items (column * before.width + n) 0) (w % 64)) (sym same)
    (marks (w % 64) bit (subst (λ n. HasBit (get_or named.words.items (row * named.width + n) 0) (w % 64)) same has)))
