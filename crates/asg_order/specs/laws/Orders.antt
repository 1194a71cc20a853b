-- What follows from the laws for the order.
use Rattle.std.proofs.Common.{List, [], ◌∷◌, sym, subst, inl, inr}
use Rattle.std.specs.Prelude.{All}
use Rattle.std.specs.List.{AllZip}
use Rattle.std.proofs.lemmas.List.Elements.{All-head, All-tail}
use Rattle.asg_order.specs.Monoid.{Monoid, IsValue, IsLe, IsLess, IsOrderedMonoid, fold_of}
use Rattle.asg_order.specs.laws.Products.{fold_is_value, fold-cons}

module _ {V : Type 0} (M : Monoid V) (laws : IsOrderedMonoid M) where
  -- each value is at most itself
  pub reflexive : (x : V) → IsValue M x → IsLe M x x
  reflexive x vx = elim (laws.total x x vx vx) [ inl h ↦ h | inr h ↦ h ]

  -- what is strictly less is at most
  pub le_from_less : (x y : V) → IsValue M x → IsValue M y → IsLess M x y → IsLe M x y
  le_from_less x y vx vy less = elim (laws.total x y vx vy) [ inl h ↦ h | inr h ↦ absurd (cc (h, less)) ]

  -- a value is at most its product with another
  pub le_product : (x z : V) → IsValue M x → IsValue M z → IsLe M x (M.product x z)
  le_product x z vx vz =
      subst (λ y. IsLe M y (M.product x z)) (laws.unit_neutral x vx)
      (subst (λ y. IsLe M (M.product M.unit x) y) (laws.commutative z x vz vx)
      (laws.monotone M.unit z x laws.unit_is_value vz vx (laws.unit_least z vz)))

  -- products of greater values are greater
  pub product_le : (x y u v : V) → IsValue M x → IsValue M y → IsValue M u → IsValue M v → IsLe M x y → IsLe M u v → IsLe M (M.product x u) (M.product y v)
  product_le x y u v vx vy vu vv h k =
      laws.transitive (M.product x u) (M.product y u) (M.product y v)
      (laws.product_is_value x u vx vu) (laws.product_is_value y u vy vu) (laws.product_is_value y v vy vv)
      (laws.monotone x y u vx vy vu h)
      (subst (λ w. IsLe M w (M.product y v)) (laws.commutative u y vu vy)
      (subst (λ w. IsLe M (M.product u y) w) (laws.commutative v y vv vy) (laws.monotone u v y vu vv vy k)))

  -- a list of greater values has the greater product
  pub fold_le : (xs ys : List V) → All (IsValue M) xs → All (IsValue M) ys → AllZip (IsLe M) xs ys → IsLe M (fold_of M xs) (fold_of M ys)
  fold_le [] [] vx vy h = reflexive M.unit laws.unit_is_value
  fold_le [] (y ∷ ys) vx vy h = absurd h
  fold_le (x ∷ xs) [] vx vy h = absurd h
  fold_le (x ∷ xs) (y ∷ ys) vx vy h =
      let hx = All-head (IsValue M) x xs vx in
      let tx = All-tail (IsValue M) x xs vx in
      let hy = All-head (IsValue M) y ys vy in
      let ty = All-tail (IsValue M) y ys vy in
      subst (λ w. IsLe M w (fold_of M (y ∷ ys))) (sym (fold-cons M laws x xs hx tx))
      (subst (λ w. IsLe M (M.product x (fold_of M xs)) w) (sym (fold-cons M laws y ys hy ty))
      (product_le x y (fold_of M xs) (fold_of M ys) hx hy (fold_is_value M laws xs tx) (fold_is_value M laws ys ty) h.0 (fold_le xs ys tx ty h.1)))
