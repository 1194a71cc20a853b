-- The place of an index among those of slots.
use Rattle.asg_nodes.proofs.Common.{◌≡◌, ℕ, ◌+◌, ◌-◌, ◌<◌, ◌≤◌, List, [], length, get_or, take, drop, All, sym, ◌∙◌, subst, ⊎_elim, arith, length-drop, length-take-le, get_or-drop, get_or-take, cases_lt, false_from_ne_true, get_or_default, slot_of, slot_at, Ascends, HaveValues, AreUpTo, Slot, Monoid, IsValue, IsLe, IsLess, IsOrderedMonoid}

-- what is strictly less than a value is strictly less than each one that the value is at most
less_le : {V : Type 0} (M : Monoid V) (laws : IsOrderedMonoid M) (x y z : V) → IsValue M x → IsValue M y → IsValue M z → IsLess M x y → IsLe M y z → IsLess M x z
less_le M laws x y z vx vy vz less le =
    false_from_ne_true (M.is_le z x)
    (λ (back : IsLe M z x).
    let below : IsLe M y x = laws.transitive y z x vy vz vx le back in
    cc (below, less))

module _ {V : Type 0} (M : Monoid V) (laws : IsOrderedMonoid M) (used : List (Slot V)) (values : HaveValues M used) (ascends : Ascends M used) (index : V) (value : IsValue M index) (place : ℕ) (within : place < length used) where
  value_at : (j : ℕ) → j < length used → IsValue M (slot_at M.unit used j).index
  value_at j h = values j (slot_of 0 M.unit []) h

  -- where a slot is up to the index, those before it are
  pub upto_slot : IsLe M (slot_at M.unit used place).index index → AreUpTo M index (take (place + 1) used)
  upto_slot low k d h =
      let count : length (take (place + 1) used) ≡ place + 1 = length-take-le (place + 1) used (omega (arith, within)) in
      let inside : k < length used = omega (arith, h, count, within) in
      let here : get_or (take (place + 1) used) k d ≡ slot_at M.unit used k =
      get_or-take (place + 1) used k d (omega (arith, h, count)) ∙ get_or_default used k d (slot_of 0 M.unit []) inside in
      subst (λ (x : Slot V). IsLe M x.index index) (sym here)
      (⊎_elim
      (λ (less : k < place). laws.transitive (slot_at M.unit used k).index (slot_at M.unit used place).index index (value_at k inside) (value_at place within) value (ascends k place less within) low)
      (λ (from : place ≤ k).
      let same : place ≡ k = omega (arith, from, h, count) in
      subst (λ n. IsLe M (slot_at M.unit used n).index index) same low)
      (cases_lt k place))

  -- where a slot is above the index, those behind it are
  pub above_slot : IsLess M index (slot_at M.unit used place).index → All (λ (slot : Slot V). IsLess M index slot.index) (drop place used)
  above_slot less k d h =
      let count : length (drop place used) ≡ length used - place = length-drop place used in
      let inside : place + k < length used = omega (arith, h, count) in
      let here : get_or (drop place used) k d ≡ slot_at M.unit used (place + k) =
      get_or-drop place used k d ∙ get_or_default used (place + k) d (slot_of 0 M.unit []) inside in
      subst (λ (x : Slot V). IsLess M index x.index) (sym here)
      (⊎_elim
      (λ (later : place < place + k). less_le M laws index (slot_at M.unit used place).index (slot_at M.unit used (place + k)).index value (value_at place within) (value_at (place + k) inside) less (ascends place (place + k) later inside))
      (λ (upto : place + k ≤ place).
      let same : place ≡ place + k = omega (arith, upto) in
      subst (λ n. IsLess M index (slot_at M.unit used n).index) same less)
      (cases_lt place (place + k)))
