-- One key for each column: the product of the steps so far at which its cell is absorbed.
use Rattle.std.proofs.Common.{◌≡◌, Bool, true, false, cond, refl, sym, ◌∙◌, ap, subst}
use Rattle.asg_order.specs.Monoid.{Monoid, IsValue, IsLe, IsOrderedMonoid}
use Rattle.asg_order.specs.Differences.{HasDifferences}
use Rattle.asg_order.specs.laws.Differences.{le_product_of_difference}
use Rattle.asg_order.specs.laws.Orders.{reflexive, product_le}

module _ {V : Type 0} (M : Monoid V) (laws : IsOrderedMonoid M) (difference : V → V → V) (has : HasDifferences M difference) where
  -- a row that entered at sum s with cell x, when the steps since have product p: the key s*x gives
  -- a step that is at most the cell as it is now
  pub key_admitted : (s x p key : V) → IsValue M s → IsValue M x → IsValue M p → IsValue M key → IsLe M key (M.product s x) → IsLe M (difference key (M.product s p)) (difference x p)
  key_admitted s x p key vs vx vp vk h =
      let d = difference x p in
      let vd = has.difference_is_value x p vx vp in
      let vsp = laws.product_is_value s p vs vp in
      let vpd = laws.product_is_value p d vp vd in
      (has.least key (M.product s p) d vk vsp vd).1
      (subst (IsLe M key) (sym (laws.associative s p d vs vp vd))
      (laws.transitive key (M.product s x) (M.product s (M.product p d)) vk (laws.product_is_value s x vs vx) (laws.product_is_value s (M.product p d) vs vpd) h
      (product_le M laws s s x (M.product p d) vs vs vx vpd (reflexive M laws s vs) (le_product_of_difference M laws difference has x p vx vp))))

  greater_cases : (b : Bool) (s p x : V) → M.product s p ≡ M.product s p → (b ≡ true → M.product s x ≡ M.product s p) → M.product s (cond b x p) ≡ M.product s p
  greater_cases true s p x e h = h refl
  greater_cases false s p x e h = e

  -- once the key is at most the product of all steps, the cell as it is now is absorbed by that
  -- product
  pub key_absorbed : (s x p : V) → IsValue M s → IsValue M x → IsValue M p → IsLe M (M.product s x) (M.product s p) → M.product (M.product s p) (difference x p) ≡ M.product s p
  key_absorbed s x p vs vx vp h =
      let d = difference x p in
      let vd = has.difference_is_value x p vx vp in
      laws.associative s p d vs vp vd
      ∙ ap (M.product s) (has.reaches x p vx vp)
      ∙ greater_cases (M.is_le p x) s p x refl
      (λ le. laws.antisymmetric (M.product s x) (M.product s p) (laws.product_is_value s x vs vx) (laws.product_is_value s p vs vp) h
      (product_le M laws s s p x vs vs vp vx (reflexive M laws s vs) le))
