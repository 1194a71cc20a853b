-- Rows of bits in which one mark was put.
use Rattle.std.proofs.Common.{◌≡◌, ◌↔◌, ℕ, ◌⊎◌, inl, inr, ⊎_elim, sym, ◌∙◌, Bool, true, false}
use Rattle.std.specs.Prelude.{IsTrue}
use Rattle.std.proofs.lemmas.Bool.{cases_eq, false≢true}
use Rattle.asg_bit_rows.specs.BitTable.{BitTable, has_bit, PutsBit}
use Rattle.asg_bit_rows.specs.laws.Places.{place_hit, place_missed}

-- the place or any other one
here_or_not : (s r d c : ℕ) → ((s ≡ r) × (d ≡ c)) ⊎ ((s ≡ r) → (d ≡ c) → ⊥)
here_or_not s r d c =
    ⊎_elim
    (λ (row : s ≡ r). ⊎_elim (λ (column : d ≡ c). inl (row, column)) (λ other. inr (λ _ column. other column)) (cases_eq d c))
    (λ other. inr (λ row _. other row))
    (cases_eq s r)

module _ (B after : BitTable) (r c : ℕ) (b : Bool) (p : PutsBit B after r c b) where
  put_here : (s d : ℕ) → s ≡ r → d ≡ c → has_bit after s d ≡ b
  put_here s d row column = p.bits s d ∙ place_hit s r d c b (has_bit B s d) row column

  put_else : (s d : ℕ) → ((s ≡ r) → (d ≡ c) → ⊥) → has_bit after s d ≡ has_bit B s d
  put_else s d other = p.bits s d ∙ place_missed s r d c b (has_bit B s d) other

-- one more mark
pub put_more : (B after : BitTable) (r c : ℕ) → PutsBit B after r c true → (s d : ℕ) → IsTrue (has_bit after s d) ↔ (IsTrue (has_bit B s d) ⊎ ((s ≡ r) × (d ≡ c)))
put_more B after r c p s d =
    ⊎_elim
    (λ here. (λ _. inr here, λ _. put_here B after r c true p s d here.0 here.1))
    (λ other.
    let same = put_else B after r c true p s d other in
    (λ h. inl (sym same ∙ h), λ h. ⊎_elim (λ had. same ∙ had) (λ here. absurd (other here.0 here.1)) h))
    (here_or_not s r d c)

-- one mark less
pub put_fewer : (B after : BitTable) (r c : ℕ) → PutsBit B after r c false → (s d : ℕ) → IsTrue (has_bit after s d) ↔ (IsTrue (has_bit B s d) × ((s ≡ r) → (d ≡ c) → ⊥))
put_fewer B after r c p s d =
    ⊎_elim
    (λ here.
    let gone = put_here B after r c false p s d here.0 here.1 in
    (λ h. absurd (false≢true (sym gone ∙ h)), λ h. absurd (h.1 here.0 here.1)))
    (λ other.
    let same = put_else B after r c false p s d other in
    (λ h. (sym same ∙ h, other), λ h. same ∙ h.0))
    (here_or_not s r d c)
