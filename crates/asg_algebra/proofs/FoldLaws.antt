-- The fold of an assignment by absorbed cells.
use Rattle.asg_algebra.proofs.Common.{◌≡◌, ℕ, ◌<◌, ◌≢◌, List, [], ◌∷◌, length, get_or, is_some, IfSome, Some, None, All, Option, AllPairs, sym, refl, ap, ◌∙◌, subst, arith, All-head, All-tail, All-weaker, get_or_default, range_with_len, same_Some, IsAbsorbed, Matches, IsMatching, All-filter_map, Monoid, IsValue, IsOrderedMonoid, fold_of, fold_is_value, fold-cons, neutral_right, assignment_values}
use Rattle.asg_proof.specs.Steps.{HasSide, HasValues, assignment_fold}

IfSome-from : {B : Type 0} (o : Option B) (P : B → Type 0) → ((y : B) → o ≡ Some y → P y) → IfSome o P
IfSome-from None P each = tt
IfSome-from (Some y) P each = each y refl

-- different rows have different columns
pub columns_apart : (m : List (Option ℕ)) (side : ℕ) (p : List ℕ) → IsMatching m → length p ≡ side → ((r : ℕ) → r < side → Matches m r (get_or p r 0)) → AllPairs ◌≢◌ p
columns_apart m side p matching whole has i j d before within e =
    let hj : j < side = omega (arith, within, whole) in
    let hi : i < side = omega (arith, before, hj) in
    let same : get_or p i 0 ≡ get_or p j 0 = get_or_default p i 0 d (omega (arith, hi, whole)) ∙ e ∙ sym (get_or_default p j 0 d within) in
    absurd (omega (arith, before, matching.apart i j (get_or p i 0) (has i hi) (subst (Matches m j) (sym same) (has j hj))))

module _ {V : Type 0} (M : Monoid V) (laws : IsOrderedMonoid M) where
  -- an index that absorbs each value absorbs their product
  pub absorbed_fold : (z : V) (xs : List V) → IsValue M z → All (λ x. IsValue M x × (M.product z x ≡ z)) xs → M.product z (fold_of M xs) ≡ z
  absorbed_fold z [] vz all = neutral_right M laws z vz
  absorbed_fold z (x ∷ xs) vz all =
      let head = All-head (λ y. IsValue M y × (M.product z y ≡ z)) x xs all in
      let tail = All-tail (λ y. IsValue M y × (M.product z y ≡ z)) x xs all in
      let vxs = All-weaker (λ y. IsValue M y × (M.product z y ≡ z)) (IsValue M) (λ y h. h.0) xs tail in
      ap (M.product z) (fold-cons M laws x xs head.0 vxs)
      ∙ sym (laws.associative z x (fold_of M xs) vz head.0 (fold_is_value M laws xs vxs))
      ∙ ap (λ y. M.product y (fold_of M xs)) head.1
      ∙ absorbed_fold z xs vz tail

  pub fold_absorbed : (side : ℕ) (square : ℕ → ℕ → Option V) (z : V) (p : List ℕ) → IsValue M z → HasSide side square → HasValues M side square → ((r : ℕ) → r < side → IsAbsorbed M z square r (get_or p r 0)) → M.product z (assignment_fold M side square p) ≡ z
  fold_absorbed side square z p vz inside values absorbed =
      let good = λ (y : V). IsValue M y × (M.product z y ≡ z) in
      absorbed_fold z (assignment_values square side p) vz
      (All-filter_map (λ r. square r (get_or p r 0)) good
      (λ r. IfSome-from (square r (get_or p r 0)) good
      (λ y e.
      let both = inside r (get_or p r 0) (ap is_some e) in
      let at = absorbed r both.0 in
      let same : at.value ≡ y = same_Some at.value y (sym at.there ∙ e) in
      (values r (get_or p r 0) y both.0 both.1 e, subst (λ x. M.product z x ≡ z) same at.is)))
      (range_with_len 0 side))
