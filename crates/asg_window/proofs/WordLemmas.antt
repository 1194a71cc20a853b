-- Words of bits that are joined.
use Rattle.asg_window.proofs.Common.{◌≡◌, ℕ, ◌+◌, ◌<◌, ◌≤◌, ◌⊎◌, ◌↔◌, List, length, get_or, set, bit_or, sym, ap, ◌∙◌, inl, inr, ⊎_elim, arith, get_or-set_other, get_or-set_same, bit_at, cases_lt, HasBit}
use Rattle.asg_bit_rows.specs.laws.Bits.{HasBit-or}

-- the first words are joined with others, the rest are as they were
pub record AreJoined (before words now : List ℕ) (number : ℕ) : Type 0 where
  pub bits : (i k : ℕ) → i < number → HasBit (get_or now i 0) k ↔ (HasBit (get_or before i 0) k ⊎ HasBit (get_or words i 0) k)
  pub rest : (i : ℕ) → number ≤ i → get_or now i 0 ≡ get_or before i 0

pub joined_next : (before words now : List ℕ) (number word : ℕ) → number < length now → word ≡ bit_or (get_or now number 0) (get_or words number 0) → AreJoined before words now number → AreJoined before words (set now number word) (number + 1)
joined_next before words now number word within is j = record {
  bits = λ i k h.
      ⊎_elim
      (λ (less : i < number).
      let same = get_or-set_other now number i word 0 (λ e. omega (arith, e, less)) in
      let both = j.bits i k less in (
        λ has. both.0 (sym (ap (λ n. bit_at n k) same) ∙ has),
        λ h. ap (λ n. bit_at n k) same ∙ both.1 h,
      ))
      (λ (from : number ≤ i).
      let here : i ≡ number = omega (arith, h, from) in
      let same = ap (λ n. get_or (set now number word) n 0) here ∙ get_or-set_same now number word 0 within ∙ is in
      let both = HasBit-or (get_or now number 0) (get_or words number 0) k in
      let old = j.rest number (omega arith) in (
        λ has.
            ⊎_elim
            (λ x. inl (ap (λ n. bit_at (get_or before n 0) k) here ∙ sym (ap (λ n. bit_at n k) old) ∙ x))
            (λ y. inr (ap (λ n. bit_at (get_or words n 0) k) here ∙ y))
            (both.0 (sym (ap (λ n. bit_at n k) same) ∙ has)),
        λ h.
            ap (λ n. bit_at n k) same
            ∙ both.1 (
            ⊎_elim
            (λ x. inl (ap (λ n. bit_at n k) old ∙ sym (ap (λ n. bit_at (get_or before n 0) k) here) ∙ x))
            (λ y. inr (sym (ap (λ n. bit_at (get_or words n 0) k) here) ∙ y))
            h),
      ))
      (cases_lt i number);
  rest = λ i from. get_or-set_other now number i word 0 (λ e. omega (arith, e, from)) ∙ j.rest i (omega (arith, from));
}
