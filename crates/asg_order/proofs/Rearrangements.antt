-- The product of a rearranged list is that of the list.
use Rattle.asg_order.proofs.Common.{◌≡◌, ℕ, zero, suc, ◌<◌, ◌≢◌, List, [], ◌∷◌, length, get_or, set, All, swap, IsPermutation, sym, refl, ap, ◌∙◌, subst, inl, inr, arith, set-set, All-get_or, All-head, All-set, All-tail, IsPermutation-keeps, cases_eq, set-get_or, Monoid, IsValue, IsOrderedMonoid, fold_of, fold_is_value, fold-cons, exchanged}

exchange_same : {V : Type 0} (xs : List V) (i j : ℕ) (d : V) → i ≡ j → set (set xs i (get_or xs j d)) j (get_or xs i d) ≡ xs
exchange_same xs i j d e =
    subst (λ k. set (set xs i (get_or xs k d)) k (get_or xs i d) ≡ xs) e
    (set-set xs i (get_or xs i d) (get_or xs i d) ∙ set-get_or xs i d)

module _ {V : Type 0} (M : Monoid V) (laws : IsOrderedMonoid M) where
  -- the product with a value put at a place is the product of that value and a rest
  one_place : (xs : List V) (i : ℕ) → i < length xs → All (IsValue M) xs → (rest : V) × IsValue M rest × ((a : V) → IsValue M a → fold_of M (set xs i a) ≡ M.product a rest)
  one_place [] i lt vs = absurd (omega arith)
  one_place (x ∷ xs) zero lt vs =
      let vxs = All-tail (IsValue M) x xs vs in
      (fold_of M xs, fold_is_value M laws xs vxs, λ a va. fold-cons M laws a xs va vxs)
  one_place (x ∷ xs) (suc i) lt vs =
      let vx = All-head (IsValue M) x xs vs in
      let vxs = All-tail (IsValue M) x xs vs in
      let w = one_place xs i (omega arith) vxs in (
        M.product x w.0,
        laws.product_is_value x w.0 vx w.1,
        λ a va.
            fold-cons M laws x (set xs i a) vx (All-set (IsValue M) xs i a va vxs)
            ∙ ap (M.product x) (w.2 a va)
            ∙ exchanged M laws x a w.0 vx va w.1,
      )

  -- the product with two values put at two places is the product of those values and a rest
  two_places : (xs : List V) (i j : ℕ) → i < length xs → j < length xs → i ≢ j → All (IsValue M) xs → (rest : V) × IsValue M rest × ((a b : V) → IsValue M a → IsValue M b → fold_of M (set (set xs i a) j b) ≡ M.product a (M.product b rest))
  two_places [] i j lti ltj ne vs = absurd (omega arith)
  two_places (x ∷ xs) zero zero lti ltj ne vs = absurd (ne refl)
  two_places (x ∷ xs) zero (suc j) lti ltj ne vs =
      let vxs = All-tail (IsValue M) x xs vs in
      let w = one_place xs j (omega arith) vxs in (
        w.0,
        w.1,
        λ a b va vb.
            fold-cons M laws a (set xs j b) va (All-set (IsValue M) xs j b vb vxs) ∙ ap (M.product a) (w.2 b vb),
      )
  two_places (x ∷ xs) (suc i) zero lti ltj ne vs =
      let vxs = All-tail (IsValue M) x xs vs in
      let w = one_place xs i (omega arith) vxs in (
        w.0,
        w.1,
        λ a b va vb.
            fold-cons M laws b (set xs i a) vb (All-set (IsValue M) xs i a va vxs)
            ∙ ap (M.product b) (w.2 a va)
            ∙ exchanged M laws b a w.0 vb va w.1,
      )
  two_places (x ∷ xs) (suc i) (suc j) lti ltj ne vs =
      let vx = All-head (IsValue M) x xs vs in
      let vxs = All-tail (IsValue M) x xs vs in
      let w = two_places xs i j (omega arith) (omega arith) (λ e. ne (ap suc e)) vxs in (
        M.product x w.0,
        laws.product_is_value x w.0 vx w.1,
        λ a b va vb.
            fold-cons M laws x (set (set xs i a) j b) vx (All-set (IsValue M) (set xs i a) j b vb (All-set (IsValue M) xs i a va vxs))
            ∙ ap (M.product x) (w.2 a b va vb)
            ∙ exchanged M laws x a (M.product b w.0) vx va (laws.product_is_value b w.0 vb w.1)
            ∙ ap (M.product a) (exchanged M laws x b w.0 vx vb w.1),
      )

  -- an exchange of the elements at two places keeps the product
  exchange_keeps : (xs : List V) (i j : ℕ) (d : V) → i < length xs → j < length xs → All (IsValue M) xs → fold_of M (set (set xs i (get_or xs j d)) j (get_or xs i d)) ≡ fold_of M xs
  exchange_keeps xs i j d lti ltj vs =
      let x = get_or xs i d in
      let y = get_or xs j d in
      let vx : IsValue M x = All-get_or (IsValue M) xs i d lti vs in
      let vy : IsValue M y = All-get_or (IsValue M) xs j d ltj vs in
      elim (cases_eq i j) [
        | inl e ↦ ap (fold_of M) (exchange_same xs i j d e)
        | inr ne ↦
            let w = two_places xs i j lti ltj ne vs in
            w.2 y x vy vx
            ∙ exchanged M laws y x w.0 vy vx w.1
            ∙ sym (w.2 x y vx vy)
            ∙ ap (λ ys. fold_of M (set ys j y)) (set-get_or xs i d)
            ∙ ap (fold_of M) (set-get_or xs j d)
      ]

  Keeps : List V → List V → Type 0
  Keeps xs l = All (IsValue M) l × (fold_of M l ≡ fold_of M xs)

  swap_keeps : (xs l : List V) (i j : ℕ) → i < length l → j < length l → Keeps xs l → Keeps xs (swap l i j)
  unfolding Keeps
  swap_keeps xs [] i j lti ltj kept = kept
  swap_keeps xs (d ∷ l) i j lti ltj kept =
      let x = get_or (d ∷ l) i d in
      let y = get_or (d ∷ l) j d in
      let vx : IsValue M x = All-get_or (IsValue M) (d ∷ l) i d lti kept.0 in
      let vy : IsValue M y = All-get_or (IsValue M) (d ∷ l) j d ltj kept.0 in (
        All-set (IsValue M) (set (d ∷ l) i y) j x vx (All-set (IsValue M) (d ∷ l) i y vy kept.0),
        exchange_keeps (d ∷ l) i j d lti ltj kept.0 ∙ kept.1,
      )

  -- the product of a rearranged list is that of the list
  pub fold_of-IsPermutation : (xs ys : List V) → IsPermutation xs ys → All (IsValue M) xs → fold_of M ys ≡ fold_of M xs
  unfolding Keeps
  fold_of-IsPermutation xs ys moved vs = (IsPermutation-keeps xs (Keeps xs) (vs, refl) (swap_keeps xs) ys moved).1
