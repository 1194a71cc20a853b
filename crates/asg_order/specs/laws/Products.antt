-- What follows from the laws for products of lists.
use Rattle.std.proofs.Common.{◌≡◌, List, [], ◌∷◌, ◌++◌, sym, ap, ◌∙◌}
use Rattle.std.specs.Prelude.{fold, All}
use Rattle.std.proofs.lemmas.List.Elements.{All-head, All-tail}
use Rattle.std.proofs.lemmas.List.Sums.{fold-append}
use Rattle.asg_order.specs.Monoid.{Monoid, IsValue, IsOrderedMonoid, fold_of}

module _ {V : Type 0} (M : Monoid V) (laws : IsOrderedMonoid M) where
  fold_from_is_value : (x : V) (xs : List V) → IsValue M x → All (IsValue M) xs → IsValue M (fold M.product x xs)
  fold_from_is_value x [] vx vs = vx
  fold_from_is_value x (y ∷ ys) vx vs =
      fold_from_is_value (M.product x y) ys (laws.product_is_value x y vx (All-head (IsValue M) y ys vs)) (All-tail (IsValue M) y ys vs)

  -- a product of values is a value
  pub fold_is_value : (xs : List V) → All (IsValue M) xs → IsValue M (fold_of M xs)
  fold_is_value xs vs = fold_from_is_value M.unit xs laws.unit_is_value vs

  pub neutral_right : (x : V) → IsValue M x → M.product x M.unit ≡ x
  neutral_right x vx = laws.commutative x M.unit vx laws.unit_is_value ∙ laws.unit_neutral x vx

  -- a fold that begins at x is the product of x and the fold
  pub fold_from : (x : V) (xs : List V) → IsValue M x → All (IsValue M) xs → fold M.product x xs ≡ M.product x (fold_of M xs)
  fold_from x [] vx vs = sym (neutral_right x vx)
  fold_from x (y ∷ ys) vx vs =
      let vy = All-head (IsValue M) y ys vs in
      let vys = All-tail (IsValue M) y ys vs in
      fold_from (M.product x y) ys (laws.product_is_value x y vx vy) vys
      ∙ laws.associative x y (fold_of M ys) vx vy (fold_is_value ys vys)
      ∙ ap (M.product x) (sym (fold_from y ys vy vys) ∙ ap (λ z. fold M.product z ys) (sym (laws.unit_neutral y vy)))

  -- one more value in front
  pub fold-cons : (x : V) (xs : List V) → IsValue M x → All (IsValue M) xs → fold_of M (x ∷ xs) ≡ M.product x (fold_of M xs)
  fold-cons x xs vx vs = ap (λ z. fold M.product z xs) (laws.unit_neutral x vx) ∙ fold_from x xs vx vs

  -- the product of two lists, one after the other
  pub fold_of-append : (xs ys : List V) → All (IsValue M) xs → All (IsValue M) ys → fold_of M (xs ++ ys) ≡ M.product (fold_of M xs) (fold_of M ys)
  fold_of-append xs ys vx vy =
      fold-append M.product M.unit xs ys ∙ fold_from (fold_of M xs) ys (fold_is_value xs vx) vy

  -- of three factors, the first two change places
  pub exchanged : (x y z : V) → IsValue M x → IsValue M y → IsValue M z → M.product x (M.product y z) ≡ M.product y (M.product x z)
  exchanged x y z vx vy vz =
      sym (laws.associative x y z vx vy vz) ∙ ap (λ w. M.product w z) (laws.commutative x y vx vy) ∙ laws.associative y x z vy vx vz
