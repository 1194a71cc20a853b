-- What follows from the laws for differences.
use Rattle.std.proofs.Common.{◌≡◌, sym, ap, ◌∙◌, subst, cond}
use Rattle.asg_order.specs.Monoid.{Monoid, IsValue, IsLe, IsOrderedMonoid}
use Rattle.asg_order.specs.Differences.{HasDifferences}
use Rattle.asg_order.specs.laws.Orders.{reflexive}

module _ {V : Type 0} (M : Monoid V) (laws : IsOrderedMonoid M) (difference : V → V → V) (has : HasDifferences M difference) where
  -- where c is at most x, x is the product of c and the difference
  pub product_of_difference : (x c : V) → IsValue M x → IsValue M c → IsLe M c x → M.product c (difference x c) ≡ x
  product_of_difference x c vx vc h = has.reaches x c vx vc ∙ ap (λ b. cond b x c) h

  -- a value is at most the product of c and its difference from c
  pub le_product_of_difference : (x c : V) → IsValue M x → IsValue M c → IsLe M x (M.product c (difference x c))
  le_product_of_difference x c vx vc =
      let vd = has.difference_is_value x c vx vc in
      (has.least x c (difference x c) vx vc vd).0 (reflexive M laws (difference x c) vd)

  -- the greater value has the greater difference
  pub difference_monotone : (x y c : V) → IsValue M x → IsValue M y → IsValue M c → IsLe M x y → IsLe M (difference x c) (difference y c)
  difference_monotone x y c vx vy vc h =
      let vd = has.difference_is_value y c vy vc in
      (has.least x c (difference y c) vx vc vd).1
      (laws.transitive x y (M.product c (difference y c)) vx vy (laws.product_is_value c (difference y c) vc vd) h (le_product_of_difference y c vy vc))

  -- the difference from c and then from d is the difference from their product
  pub difference_of_difference : (x c d : V) → IsValue M x → IsValue M c → IsValue M d → difference (difference x c) d ≡ difference x (M.product c d)
  difference_of_difference x c d vx vc vd =
      let vcd = laws.product_is_value c d vc vd in
      let vxc = has.difference_is_value x c vx vc in
      let vl = has.difference_is_value (difference x c) d vxc vd in
      let vr = has.difference_is_value x (M.product c d) vx vcd in
      let l = difference (difference x c) d in
      let r = difference x (M.product c d) in
      laws.antisymmetric l r vl vr
      ((has.least (difference x c) d r vxc vd vr).1 ((has.least x c (M.product d r) vx vc (laws.product_is_value d r vd vr)).1
      (subst (IsLe M x) (laws.associative c d r vc vd vr) (le_product_of_difference x (M.product c d) vx vcd))))
      ((has.least x (M.product c d) l vx vcd vl).1
      (subst (IsLe M x) (sym (laws.associative c d l vc vd vl))
      ((has.least x c (M.product d l) vx vc (laws.product_is_value d l vd vl)).0
      (le_product_of_difference (difference x c) d vxc vd))))
