use Rattle.std.specs.Prelude.{◌≡◌, ◌⊎◌, Bool, false, IsTrue, List, fold, if◌then◌else◌}

-- an ordered monoid, as contracts see it: which elements are its values, its unit, its operation
-- and its order
pub record Monoid (V : Type 0) : Type 0 where
  pub is_value : V → Bool
  pub unit : V
  pub product : V → V → V
  pub is_le : V → V → Bool

-- x is a value of the monoid
abbrev pub IsValue : {V : Type 0} → Monoid V → V → Type 0
IsValue M x = IsTrue (M.is_value x)

-- x is at most y
abbrev pub IsLe : {V : Type 0} → Monoid V → V → V → Type 0
IsLe M x y = IsTrue (M.is_le x y)

-- x is strictly less than y: y isn't at most x
abbrev pub IsLess : {V : Type 0} → Monoid V → V → V → Type 0
IsLess M x y = M.is_le y x ≡ false

-- the greater of x and y
abbrev pub greater : {V : Type 0} → Monoid V → V → V → V
greater M x y = if M.is_le x y then y else x

-- the laws of an ordered monoid over its values: it stays in them; its operation is commutative and
-- associative and has the unit; its order is total; the operation is monotone and the unit is least
pub record IsOrderedMonoid {V : Type 0} (M : Monoid V) : Type 0 where
  pub unit_is_value : IsValue M M.unit
  pub product_is_value : (x y : V) → IsValue M x → IsValue M y → IsValue M (M.product x y)
  pub commutative : (x y : V) → IsValue M x → IsValue M y → M.product x y ≡ M.product y x
  pub associative : (x y z : V) → IsValue M x → IsValue M y → IsValue M z
      → M.product (M.product x y) z ≡ M.product x (M.product y z)
  pub unit_neutral : (x : V) → IsValue M x → M.product M.unit x ≡ x
  pub total : (x y : V) → IsValue M x → IsValue M y → IsLe M x y ⊎ IsLe M y x
  pub transitive : (x y z : V) → IsValue M x → IsValue M y → IsValue M z
      → IsLe M x y → IsLe M y z → IsLe M x z
  pub antisymmetric : (x y : V) → IsValue M x → IsValue M y → IsLe M x y → IsLe M y x → x ≡ y
  pub monotone : (x y z : V) → IsValue M x → IsValue M y → IsValue M z
      → IsLe M x y → IsLe M (M.product x z) (M.product y z)
  pub unit_least : (x : V) → IsValue M x → IsLe M M.unit x

-- the product of a list, the unit for none
abbrev pub fold_of : {V : Type 0} → Monoid V → List V → V
fold_of M values = fold M.product M.unit values
