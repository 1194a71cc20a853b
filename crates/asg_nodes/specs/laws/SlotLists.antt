-- Where the slots stand after one was offered.
use Rattle.std.proofs.Common.{◌≡◌, ℕ, suc, ◌+◌, ◌-◌, ◌<◌, ◌≤◌, ◌⊎◌, inl, inr, List, [], ◌∷◌, ◌++◌, length, get_or, refl, sym, ◌∙◌, ap, subst, arith, ⊎_elim}
use Rattle.std.specs.Prelude.{All}
use Rattle.std.proofs.Math.Seq.{get_or-append_seam}
use Rattle.std.proofs.lemmas.Bool.{cases_lt}
use Rattle.std.proofs.lemmas.List.{length-append, get_or_append_left, get_or-append-add, get_or_default}
use Rattle.asg_order.specs.Monoid.{Monoid, IsValue, IsLe, IsLess, IsOrderedMonoid}
use Rattle.asg_order.specs.laws.Orders.{le_from_less, reflexive}
use Rattle.asg_nodes.specs.declared.slots.Slot.{Slot}
use Rattle.asg_nodes.specs.Slots.{slot_of, slot_at, Ascends, HaveValues, AreUpTo, Inserts}

-- a slot stands at a place between those of a list, those before it up to its index and those
-- behind it above
pub record IsInserted {V : Type 0} (M : Monoid V) (old : List (Slot V)) (slot : Slot V) (new : List (Slot V)) : Type 0 where
  pub place : ℕ
  pub within : place ≤ length old
  pub count : length new ≡ length old + 1
  pub before : (j : ℕ) → j < place → slot_at M.unit new j ≡ slot_at M.unit old j
  pub here : slot_at M.unit new place ≡ slot
  pub behind : (j : ℕ) → place ≤ j → j < length old → slot_at M.unit new (j + 1) ≡ slot_at M.unit old j
  pub upto : (j : ℕ) → j < place → IsLe M (slot_at M.unit old j).index slot.index
  pub above : (j : ℕ) → place ≤ j → j < length old → IsLess M slot.index (slot_at M.unit old j).index

module _ {V : Type 0} (M : Monoid V) where
  pub inserted : (old : List (Slot V)) (slot : Slot V) (new : List (Slot V)) → Inserts M old slot new → IsInserted M old slot new
  inserted old slot new i =
      let d = slot_of 0 M.unit [] in
      let left = i.before in
      let right = i.after in
      let old_count : length old ≡ length left + length right = ap length i.was ∙ length-append left right in
      let new_count : length new ≡ length left + length (slot ∷ right) = ap length i.is ∙ length-append left (slot ∷ right) in
      let in_old : (j : ℕ) → length left ≤ j → slot_at M.unit old j ≡ get_or right (j - length left) d =
      λ j h. ap (λ xs. get_or xs j d) i.was ∙ ap (λ n. get_or (left ++ right) n d) (let e : j ≡ length left + (j - length left) = omega (arith, h) in e) ∙ get_or-append-add left right (j - length left) d in
      record {
        place = length left;
        within = omega (arith, old_count);
        count = omega (arith, old_count, new_count);
        before = λ j h. ap (λ xs. get_or xs j d) i.is ∙ get_or_append_left left (slot ∷ right) d j h ∙ sym (get_or_append_left left right d j h) ∙ sym (ap (λ xs. get_or xs j d) i.was);
        here = ap (λ xs. get_or xs (length left) d) i.is ∙ get_or-append_seam left slot right d;
        behind = λ j from h.
            ap (λ xs. get_or xs (j + 1) d) i.is
            ∙ ap (λ n. get_or (left ++ slot ∷ right) n d) (let e : j + 1 ≡ length left + (j - length left + 1) = omega (arith, from) in e)
            ∙ get_or-append-add left (slot ∷ right) (j - length left + 1) d
            ∙ ap (λ n. get_or (slot ∷ right) n d) (let e : j - length left + 1 ≡ suc (j - length left) = omega arith in e)
            ∙ sym (in_old j from);
        upto = λ j h. subst (λ (x : Slot V). IsLe M x.index slot.index) (sym (get_or_append_left left right d j h) ∙ sym (ap (λ xs. get_or xs j d) i.was)) (i.upto j d h);
        above = λ j from h. subst (λ (x : Slot V). IsLess M slot.index x.index) (sym (in_old j from)) (i.above (j - length left) d (omega (arith, from, h, old_count)));
      }

  -- what holds of each slot by its place holds of all
  pub all_slots : (P : Slot V → Type 0) (used : List (Slot V)) → ((j : ℕ) → j < length used → P (slot_at M.unit used j)) → All P used
  all_slots P used each j d h = subst P (get_or_default used j (slot_of 0 M.unit []) d h) (each j h)

-- a slot of the new list is the offered one, or stood at some place of the old list
pub record StoodAt {V : Type 0} (M : Monoid V) (old new : List (Slot V)) (put j : ℕ) : Type 0 where
  pub place : ℕ
  pub within : place < length old
  pub same : slot_at M.unit new j ≡ slot_at M.unit old place
  pub cause : ((j < put) × (place ≡ j)) ⊎ ((put < j) × (place + 1 ≡ j))

module _ {V : Type 0} (M : Monoid V) (laws : IsOrderedMonoid M) (old : List (Slot V)) (slot : Slot V) (new : List (Slot V)) (i : IsInserted M old slot new) where
  pub stood_or_new : (j : ℕ) → j < length new → (slot_at M.unit new j ≡ slot) ⊎ StoodAt M old new i.place j
  stood_or_new j h =
      let count = i.count in
      let within = i.within in
      ⊎_elim
      (λ (low : j < i.place). inr (record { place = j; within = omega (arith, low, within); same = i.before j low; cause = inl (low, refl) }))
      (λ (from : i.place ≤ j).
      ⊎_elim
      (λ (late : i.place < j).
      let back : j ≡ j - 1 + 1 = omega (arith, late) in
      inr (record {
        place = j - 1;
        within = omega (arith, late, h, count);
        same = ap (slot_at M.unit new) back ∙ i.behind (j - 1) (omega (arith, late)) (omega (arith, late, h, count));
        cause = inr (late, omega (arith, late));
      }))
      (λ (upto : j ≤ i.place). let is : i.place ≡ j = omega (arith, from, upto) in inl (subst (λ n. slot_at M.unit new n ≡ slot) is i.here))
      (cases_lt i.place j))
      (cases_lt j i.place)

  -- a slot of the old list stands at some place of the new one, not before its own
  pub stands_now : (j : ℕ) → j < length old → (k : ℕ) × (k < length new) × (j ≤ k) × (slot_at M.unit new k ≡ slot_at M.unit old j)
  stands_now j h =
      let count = i.count in
      let within = i.within in
      ⊎_elim
      (λ (low : j < i.place). (j, omega (arith, h, count), omega arith, i.before j low))
      (λ (from : i.place ≤ j). (j + 1, omega (arith, h, count), omega arith, i.behind j from h))
      (cases_lt j i.place)

  -- the slots up to the offered one's index stay where they are
  pub prefix_stays : (n : ℕ) → n ≤ length old → ((j : ℕ) → j < n → IsLe M (slot_at M.unit old j).index slot.index) → n ≤ i.place
  prefix_stays n within low =
      ⊎_elim
      (λ (less : i.place < n).
      let above = i.above i.place (omega arith) (omega (arith, less, within)) in
      let upto = low i.place less in
      absurd (cc (above, upto)))
      (λ (from : n ≤ i.place). from)
      (cases_lt i.place n)

  -- what holds of each two slots of the old list, and of them and the offered one in their order,
  -- holds of each two
  pub pairs_now : (Q : Slot V → Slot V → Type 0) → ((j k : ℕ) → j < k → k < length old → Q (slot_at M.unit old j) (slot_at M.unit old k)) → ((j : ℕ) → j < i.place → Q (slot_at M.unit old j) slot) → ((j : ℕ) → i.place ≤ j → j < length old → Q slot (slot_at M.unit old j)) → (j k : ℕ) → j < k → k < length new → Q (slot_at M.unit new j) (slot_at M.unit new k)
  pairs_now Q both low high j k less h =
      let count = i.count in
      let within = i.within in
      ⊎_elim
      (λ (low_k : k < i.place).
      subst (λ x. Q x (slot_at M.unit new k)) (sym (i.before j (omega (arith, less, low_k))))
      (subst (Q (slot_at M.unit old j)) (sym (i.before k low_k)) (both j k less (omega (arith, low_k, within)))))
      (λ (from : i.place ≤ k).
      ⊎_elim
      (λ (late : i.place < k).
      let back : k - 1 + 1 ≡ k = omega (arith, late) in
      let at_k : slot_at M.unit new k ≡ slot_at M.unit old (k - 1) = ap (slot_at M.unit new) (sym back) ∙ i.behind (k - 1) (omega (arith, late)) (omega (arith, late, h, count)) in
      subst (Q (slot_at M.unit new j)) (sym at_k)
      (⊎_elim
      (λ (low_j : j < i.place).
      subst (λ x. Q x (slot_at M.unit old (k - 1))) (sym (i.before j low_j)) (both j (k - 1) (omega (arith, low_j, late)) (omega (arith, late, h, count))))
      (λ (from_j : i.place ≤ j).
      ⊎_elim
      (λ (late_j : i.place < j).
      let back_j : j - 1 + 1 ≡ j = omega (arith, late_j) in
      let at_j : slot_at M.unit new j ≡ slot_at M.unit old (j - 1) = ap (slot_at M.unit new) (sym back_j) ∙ i.behind (j - 1) (omega (arith, late_j)) (omega (arith, late_j, less, h, count)) in
      subst (λ x. Q x (slot_at M.unit old (k - 1))) (sym at_j) (both (j - 1) (k - 1) (omega (arith, late_j, less)) (omega (arith, late, h, count))))
      (λ (upto_j : j ≤ i.place).
      let is : i.place ≡ j = omega (arith, from_j, upto_j) in
      subst (λ n. Q (slot_at M.unit new n) (slot_at M.unit old (k - 1))) is
      (subst (λ x. Q x (slot_at M.unit old (k - 1))) (sym i.here) (high (k - 1) (omega (arith, late)) (omega (arith, late, h, count)))))
      (cases_lt i.place j))
      (cases_lt j i.place)))
      (λ (upto : k ≤ i.place).
      let is : i.place ≡ k = omega (arith, from, upto) in
      subst (λ n. Q (slot_at M.unit new j) (slot_at M.unit new n)) is
      (subst (Q (slot_at M.unit new j)) (sym i.here)
      (subst (λ x. Q x slot) (sym (i.before j (omega (arith, less, upto)))) (low j (omega (arith, less, upto))))))
      (cases_lt i.place k))
      (cases_lt k i.place)

  module _ (value : IsValue M slot.index) (values : HaveValues M old) (ascends : Ascends M old) where
    value_at : (j : ℕ) → j < length old → IsValue M (slot_at M.unit old j).index
    value_at j h = values j (slot_of 0 M.unit []) h

    pub values_now : HaveValues M new
    values_now =
        all_slots M (λ x. IsValue M x.index) new
        (λ j h.
        ⊎_elim
        (λ (is : slot_at M.unit new j ≡ slot). subst (λ (x : Slot V). IsValue M x.index) (sym is) value)
        (λ (was : StoodAt M old new i.place j). subst (λ (x : Slot V). IsValue M x.index) (sym was.same) (value_at was.place was.within))
        (stood_or_new j h))

    le_above : (j : ℕ) → i.place ≤ j → j < length old → IsLe M slot.index (slot_at M.unit old j).index
    le_above j from h = le_from_less M laws slot.index (slot_at M.unit old j).index value (value_at j h) (i.above j from h)

    pub ascends_now : Ascends M new
    ascends_now = pairs_now (λ x y. IsLe M x.index y.index) ascends i.upto le_above

-- the last index is the greatest
pub last_greatest : {V : Type 0} (M : Monoid V) (laws : IsOrderedMonoid M) (used : List (Slot V)) → 1 ≤ length used → HaveValues M used → Ascends M used → AreUpTo M (slot_at M.unit used (length used - 1)).index used
last_greatest M laws used some values ascends =
    let last = length used - 1 in
    all_slots M (λ x. IsLe M x.index (slot_at M.unit used last).index) used
    (λ j h.
    ⊎_elim
    (λ (less : j < last). ascends j last less (omega (arith, some)))
    (λ (from : last ≤ j).
    let same : j ≡ last = omega (arith, from, h) in
    subst (λ n. IsLe M (slot_at M.unit used n).index (slot_at M.unit used last).index) (sym same) (reflexive M laws (slot_at M.unit used last).index (values last (slot_of 0 M.unit []) (omega (arith, some)))))
    (cases_lt j last))
