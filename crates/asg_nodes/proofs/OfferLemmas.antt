-- A slot that takes the place of the last one, or that isn't taken.
use Rattle.asg_nodes.proofs.Common.{◌≡◌, ◌+◌, ◌-◌, ◌<◌, ◌≤◌, List, [], ◌∷◌, ◌++◌, length, get_or, take, sym, refl, ap, ◌∙◌, subst, arith, length-take-le, take_all, get_or-take, take_more, slot_of, slot_at, Ascends, HaveValues, Inserts, Replaces, Refuses, Slot, last_greatest, Monoid, IsValue, IsLe, IsLess, IsOrderedMonoid}

-- a list that isn't empty ends with an element
ends_with : {A : Type 0} (xs : List A) (d : A) → 1 ≤ length xs → xs ≡ take (length xs - 1) xs ++ get_or xs (length xs - 1) d ∷ []
ends_with xs d some =
    sym (take_all (length xs) xs (omega arith))
    ∙ ap (λ n. take n xs) (let e : length xs ≡ length xs - 1 + 1 = omega (arith, some) in e)
    ∙ take_more xs (length xs - 1) d (omega (arith, some))

module _ {V : Type 0} (M : Monoid V) (used : List (Slot V)) (some : 1 ≤ length used) where
  pub ascends_before_last : Ascends M used → Ascends M (take (length used - 1) used)
  ascends_before_last ascends i j less h =
      let d = slot_of 0 M.unit [] in
      let count : length (take (length used - 1) used) ≡ length used - 1 = length-take-le (length used - 1) used (omega arith) in
      let within : j < length used - 1 = omega (arith, h, count) in
      subst (λ (x : Slot V). IsLe M x.index (slot_at M.unit (take (length used - 1) used) j).index) (sym (get_or-take (length used - 1) used i d (omega (arith, less, within))))
      (subst (λ (x : Slot V). IsLe M (slot_at M.unit used i).index x.index) (sym (get_or-take (length used - 1) used j d within)) (ascends i j less (omega (arith, within))))

  pub replaced : (slot : Slot V) (rest after : List (Slot V)) → rest ≡ take (length used - 1) used → IsLess M slot.index (slot_at M.unit used (length used - 1)).index → Inserts M rest slot after → Replaces M used slot after
  replaced slot rest after rest_is less inserts = record {
    rest = take (length used - 1) used;
    last = slot_at M.unit used (length used - 1);
    was = ends_with used (slot_of 0 M.unit []) some;
    less = less;
    inserts = subst (λ xs. Inserts M xs slot after) rest_is inserts;
  }

  pub refused : (slot : Slot V) → IsOrderedMonoid M → HaveValues M used → Ascends M used → IsValue M slot.index → IsLe M (slot_at M.unit used (length used - 1)).index slot.index → Refuses M used slot used
  refused slot laws values ascends value low =
      let d = slot_of 0 M.unit [] in
      let last = slot_at M.unit used (length used - 1) in
      let greatest = last_greatest M laws used some values ascends in
      record {
        same = refl;
        upto = λ k e h. laws.transitive (get_or used k e).index last.index slot.index (values k e h) (values (length used - 1) d (omega (arith, some))) value (greatest k e h) low;
      }
