use Rattle.std.specs.Prelude.{◌≡◌, ◌↔◌}
use Rattle.asg_order.specs.Monoid.{Monoid, IsValue, IsLe, greater}

-- the laws of a difference over the values: it is a value, the least z for which y is at most the
-- product of x and z, and the product of x with it is the greater of x and y
pub record HasDifferences {V : Type 0} (M : Monoid V) (difference : V → V → V) : Type 0 where
  pub difference_is_value : (y x : V) → IsValue M y → IsValue M x → IsValue M (difference y x)
  pub least : (y x z : V) → IsValue M y → IsValue M x → IsValue M z
      → IsLe M (difference y x) z ↔ IsLe M y (M.product x z)
  pub reaches : (y x : V) → IsValue M y → IsValue M x
      → M.product x (difference y x) ≡ greater M x y
