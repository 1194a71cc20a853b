-- Exactly one element passes.
use Rattle.asg_rank.proofs.Common.{◌≡◌, ℕ, zero, suc, ◌<◌, Bool, true, false, List, [], ◌∷◌, length, get_or, count_by, refl, ap, ⊎_elim, arith, cases_Bool, sum_by-cons, one}

module _ {X : Type 0} (p : X → Bool) (d : X) where
  count_none : (xs : List X) → ((j : ℕ) → j < length xs → p (get_or xs j d) ≡ false) → count_by p xs ≡ 0
  count_none [] none = refl
  count_none (x ∷ xs) none =
      let rest = count_none xs (λ j h. none (suc j) (omega (arith, h))) in
      let first = sum_by-cons (λ y. one (p y)) x xs in
      let here : one (p x) ≡ 0 = ap one (none 0 (omega arith)) in
      omega (arith, rest, first, here)

  pub count_one : (xs : List X) (i : ℕ) → i < length xs → p (get_or xs i d) ≡ true → ((j : ℕ) → j < length xs → p (get_or xs j d) ≡ true → j ≡ i) → count_by p xs ≡ 1
  count_one [] i within passes alone = absurd (omega (arith, within))
  count_one (x ∷ xs) zero within passes alone =
      let rest = count_none xs (λ j h. ⊎_elim (λ (also : p (get_or xs j d) ≡ true). absurd (let e = alone (suc j) (omega (arith, h)) also in omega (arith, e))) (λ (not : p (get_or xs j d) ≡ false). not) (cases_Bool (p (get_or xs j d)))) in
      let first = sum_by-cons (λ y. one (p y)) x xs in
      let here : one (p x) ≡ 1 = ap one passes in
      omega (arith, rest, first, here)
  count_one (x ∷ xs) (suc i) within passes alone =
      let rest = count_one xs i (omega (arith, within)) passes (λ j h also. let e = alone (suc j) (omega (arith, h)) also in omega (arith, e)) in
      let first = sum_by-cons (λ y. one (p y)) x xs in
      let none : p x ≡ false = (⊎_elim (λ (also : p x ≡ true). absurd (let e = alone 0 (omega arith) also in omega (arith, e))) (λ (not : p x ≡ false). not) (cases_Bool (p x))) in
      let here : one (p x) ≡ 0 = ap one none in
      omega (arith, rest, first, here)
