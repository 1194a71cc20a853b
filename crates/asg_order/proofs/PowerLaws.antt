-- What follows from the laws for powers.
use Rattle.asg_order.proofs.Common.{◌≡◌, ℕ, zero, suc, ◌+◌, List, [], ◌∷◌, map, length, replicate, All, sym, ap, ◌∙◌, zero-add, arith, All-head, All-map, All-replicate, All-tail, All-weaker, Monoid, IsValue, IsOrderedMonoid, fold_of, fold_is_value, fold-cons}
use Rattle.asg_order.specs.Powers.{power_of}

module _ {V : Type 0} (M : Monoid V) (laws : IsOrderedMonoid M) where
  -- a power of a value is a value
  pub power_is_value : (x : V) (n : ℕ) → IsValue M x → IsValue M (power_of M x n)
  power_is_value x n vx = fold_is_value M laws (replicate n x) (All-replicate (IsValue M) n x vx)

  -- one factor more
  pub power_of-suc : (x : V) (n : ℕ) → IsValue M x → power_of M x (suc n) ≡ M.product x (power_of M x n)
  power_of-suc x n vx = fold-cons M laws x (replicate n x) vx (All-replicate (IsValue M) n x vx)

  -- a power of a sum of numbers is the product of the powers
  pub power_of-add : (x : V) (i j : ℕ) → IsValue M x → power_of M x (i + j) ≡ M.product (power_of M x i) (power_of M x j)
  power_of-add x zero j vx =
      ap (power_of M x) (zero-add j) ∙ sym (laws.unit_neutral (power_of M x j) (power_is_value x j vx))
  power_of-add x (suc i) j vx =
      let e : suc i + j ≡ suc (i + j) = omega arith in
      ap (power_of M x) e
      ∙ power_of-suc x (i + j) vx
      ∙ ap (M.product x) (power_of-add x i j vx)
      ∙ sym (laws.associative x (power_of M x i) (power_of M x j) vx (power_is_value x i vx) (power_is_value x j vx))
      ∙ ap (λ y. M.product y (power_of M x j)) (sym (power_of-suc x i vx))

  exchanged_pairs : (c x p q : V) → IsValue M c → IsValue M x → IsValue M p → IsValue M q → M.product (M.product c x) (M.product p q) ≡ M.product (M.product c p) (M.product x q)
  exchanged_pairs c x p q vc vx vp vq =
      laws.associative c x (M.product p q) vc vx (laws.product_is_value p q vp vq)
      ∙ ap (M.product c) (sym (laws.associative x p q vx vp vq) ∙ ap (λ y. M.product y q) (laws.commutative x p vx vp) ∙ laws.associative p x q vp vx vq)
      ∙ sym (laws.associative c p (M.product x q) vc vp (laws.product_is_value x q vx vq))

  scaled_values : (c : V) (xs : List V) → IsValue M c → All (IsValue M) xs → All (IsValue M) (map (M.product c) xs)
  scaled_values c xs vc vs =
      All-map (IsValue M) (M.product c) xs (All-weaker (IsValue M) (λ x. IsValue M (M.product c x)) (λ x vx. laws.product_is_value c x vc vx) xs vs)

  -- where each value is multiplied by c, the product is multiplied by a power of c
  pub fold_of-scaled : (c : V) (xs : List V) → IsValue M c → All (IsValue M) xs → fold_of M (map (M.product c) xs) ≡ M.product (power_of M c (length xs)) (fold_of M xs)
  fold_of-scaled c [] vc vs = sym (laws.unit_neutral M.unit laws.unit_is_value)
  fold_of-scaled c (x ∷ xs) vc vs =
      let vx = All-head (IsValue M) x xs vs in
      let vxs = All-tail (IsValue M) x xs vs in
      let n = length xs in
      fold-cons M laws (M.product c x) (map (M.product c) xs) (laws.product_is_value c x vc vx) (scaled_values c xs vc vxs)
      ∙ ap (M.product (M.product c x)) (fold_of-scaled c xs vc vxs)
      ∙ exchanged_pairs c x (power_of M c n) (fold_of M xs) vc vx (power_is_value c n vc) (fold_is_value M laws xs vxs)
      ∙ ap (λ y. M.product y (M.product x (fold_of M xs))) (sym (power_of-suc c n vc))
      ∙ ap (M.product (power_of M c (suc n))) (sym (fold-cons M laws x xs vx vxs))
