-- The row that has a branch's number.
use Rattle.asg_rankings.proofs.Common.{◌≡◌, ℕ, ◌+◌, ◌<◌, Bool, true, false, cond, not, eqb, nat_lt, sym, ap, ◌∙◌, ⊎_elim, arith, le-ltb, lt-ltb, eq-eqb, ne_eqb, cases_Bool, cases_order, is_active, Problem, count_below, one, row_number, IsRowNumbered, is_kept_at}
use Rattle.asg_square.specs.laws.Bijections.{rank-less}

-- the active row at which the count comes to a number has that number
pub numbered_from_count : (X : Problem) (number r count : ℕ) → count_below (is_active X) r < number → count ≡ count_below (is_active X) r + one (is_active X r) → count ≡ number → IsRowNumbered X number r
numbered_from_count X number r count before more is =
    ⊎_elim
    (λ (active : is_active X r ≡ true). let here : one (is_active X r) ≡ 1 = ap one active in record { active = active; numbered = omega (arith, more, is, here) })
    (λ (idle : is_active X r ≡ false). let here : one (is_active X r) ≡ 0 = ap one idle in absurd (omega (arith, before, more, is, here)))
    (cases_Bool (is_active X r))

-- of two active rows that of the smaller number stands first
pub kept_by_place : (X : Problem) (branch split r : ℕ) (chosen : Bool) → IsRowNumbered X branch split → is_active X r ≡ true → is_kept_at split r chosen ≡ is_kept_at branch (row_number X r) chosen
kept_by_place X branch split r chosen at active =
    ⊎_elim
    (λ (same : r ≡ split).
    let number : row_number X r ≡ branch = ap (row_number X) same ∙ at.numbered in
    by (le-ltb r split (omega (arith, same))) (le-ltb (row_number X r) branch (omega (arith, number))) (eq-eqb r split same) (eq-eqb (row_number X r) branch number))
    (⊎_elim
    (λ (less : r < split).
    let number = rank-less (is_active X) r split less active in
    before (lt-ltb r split less) (lt-ltb (row_number X r) branch (omega (arith, number, at.numbered))))
    (λ (more : split < r).
    let number = rank-less (is_active X) split r more at.active in
    by (le-ltb r split (omega (arith, more))) (le-ltb (row_number X r) branch (omega (arith, number, at.numbered)))
    (ne_eqb r split (λ e. omega (arith, e, more))) (ne_eqb (row_number X r) branch (λ e. omega (arith, e, number, at.numbered)))))
    (cases_order r split)
  where
    by : {b : Bool} → nat_lt r split ≡ false → nat_lt (row_number X r) branch ≡ false → eqb r split ≡ b → eqb (row_number X r) branch ≡ b → is_kept_at split r chosen ≡ is_kept_at branch (row_number X r) chosen
    by f g h k = (λ i. cond (f i) chosen (cond (h i) (not chosen) true)) ∙ sym (λ i. cond (g i) chosen (cond (k i) (not chosen) true))

    before : nat_lt r split ≡ true → nat_lt (row_number X r) branch ≡ true → is_kept_at split r chosen ≡ is_kept_at branch (row_number X r) chosen
    before f g = (λ i. cond (f i) chosen (cond (eqb r split) (not chosen) true)) ∙ sym (λ i. cond (g i) chosen (cond (eqb (row_number X r) branch) (not chosen) true))
