-- The slots after one more child was made.
use Rattle.std.proofs.Common.{◌≡◌, ◌≢◌, ℕ, ◌+◌, ◌<◌, ◌≤◌, ◌⊎◌, inl, inr, List, [], ◌∷◌, ◌++◌, length, get_or, Option, refl, sym, ◌∙◌, ap, subst, arith, ⊎_elim}
use Rattle.std.specs.Prelude.{IfSome}
use Rattle.std.proofs.lemmas.Bool.{cases_lt}
use Rattle.std.proofs.lemmas.List.{length-append, get_or_append_left}
use Rattle.std.proofs.Math.Seq.{get_or-append_seam}
use Rattle.asg_model.specs.Problem.{Problem}
use Rattle.asg_order.specs.Monoid.{IsValue, IsLe, IsOrderedMonoid}
use Rattle.asg_order.specs.laws.Orders.{le_from_less, reflexive}
use Rattle.asg_pool.specs.Forest.{IsLive}
use Rattle.asg_nodes.specs.declared.entries.Entry.{Entry}
use Rattle.asg_nodes.specs.declared.entries.State.TheVariants.{Open}
use Rattle.asg_nodes.specs.declared.slots.Slot.{Slot}
use Rattle.asg_nodes.specs.declared.trees.Tree.{Tree}
use Rattle.asg_nodes.specs.Entries.{entry_at}
use Rattle.asg_nodes.specs.Rules.{Rules, IsSolved, KeepsTrails}
use Rattle.asg_branching.specs.Searches.{winner_in, IsSlot, IsBehind, IsKept, AreSlots}
use Rattle.asg_nodes.specs.Slots.{SlotList, slot_of, slot_at, Ascends, HaveValues, AreUpTo, Inserts, Replaces, Refuses, Offers}
use Rattle.asg_nodes.specs.laws.EntryLists.{entry_before, entry_last, count_more}
use Rattle.asg_nodes.specs.laws.SlotLists.{IsInserted, inserted, all_slots, StoodAt, stood_or_new, stands_now, prefix_stays, pairs_now, values_now, ascends_now}
use Rattle.asg_nodes.specs.laws.Trails.{IsSolved-kept}

-- each node's trail is live
abbrev pub AreLive : {V : Type 0} → V → Tree V → Type 0
AreLive unit T = (n : ℕ) → 1 ≤ n → n ≤ length T.entries.items → IfSome (entry_at unit T.entries.items n).trail (IsLive T.region)

AreSlots-used : {V : Type 0} (R : Rules V) (given : ℕ) (T : Tree V) (part : ℕ → Problem) (side side_now room : ℕ) (used : List (Slot V)) → AreSlots R given T part (record { side = side; room = room; used = used }) → AreSlots R given T part (record { side = side_now; room = room; used = used })
AreSlots-used R given T part side side_now room used are = record {
  few = are.few;
  ascends = are.ascends;
  values = are.values;
  each = are.each;
  open_nodes = are.open_nodes;
  apart = are.apart;
  left = λ n from within is.
      ⊎_elim
      (λ (kept : IsKept R.monoid.unit given used n). inl kept)
      (λ (behind : IsBehind R.monoid (record { side = side; room = room; used = used }) (entry_at R.monoid.unit T.entries.items n).index). inr (record { full = behind.full; upto = behind.upto }))
      (are.left n from within is);
}

-- slots with the same ones in use
AreSlots-same : {V : Type 0} {R : Rules V} {given : ℕ} {T : Tree V} {part : ℕ → Problem} (slots new : SlotList V) → new.used ≡ slots.used → new.room ≡ slots.room → AreSlots R given T part slots → AreSlots R given T part new
AreSlots-same {V} {R} {given} {T} {part} slots new used room are =
    subst (λ xs. AreSlots R given T part (record { side = new.side; room = new.room; used = xs })) (sym used)
    (subst (λ n. AreSlots R given T part (record { side = new.side; room = n; used = slots.used })) (sym room)
    (AreSlots-used R given T part slots.side new.side slots.room slots.used are))

module _ {V : Type 0} (R : Rules V) (laws : IsOrderedMonoid R.monoid) (given : ℕ) (T U : Tree V) (part : ℕ → Problem) (e : Entry V)
    (entries_are : U.entries.items ≡ T.entries.items ++ e ∷ []) (keeps : KeepsTrails T.region U.region) (live : AreLive R.monoid.unit T)
    (indexes : (n : ℕ) → 1 ≤ n → n ≤ length T.entries.items → IsValue R.monoid (entry_at R.monoid.unit T.entries.items n).index)
    (slots : SlotList V) (are : AreSlots R given T part slots)
  where
    total : length U.entries.items ≡ length T.entries.items + 1
    total = ap (λ (xs : List (Entry V)). length xs) entries_are ∙ count_more R.monoid.unit T.entries.items e

    old_entry : (n : ℕ) → 1 ≤ n → n ≤ length T.entries.items → entry_at R.monoid.unit U.entries.items n ≡ entry_at R.monoid.unit T.entries.items n
    old_entry n from within = ap (λ (xs : List (Entry V)). entry_at R.monoid.unit xs n) entries_are ∙ entry_before R.monoid.unit T.entries.items e n from within

    new_entry : entry_at R.monoid.unit U.entries.items (length T.entries.items + 1) ≡ e
    new_entry = ap (λ (xs : List (Entry V)). entry_at R.monoid.unit xs (length T.entries.items + 1)) entries_are ∙ entry_last R.monoid.unit T.entries.items e

    -- a slot of an old node
    abbrev HasOld : Slot V → Type 0
    HasOld slot = IsSlot R U.region (length U.entries.items) (part slot.node) (entry_at R.monoid.unit U.entries.items slot.node) slot

    old_slot : (j : ℕ) → j < length slots.used → HasOld (slot_at R.monoid.unit slots.used j)
    old_slot j h =
        let slot = slot_at R.monoid.unit slots.used j in
        let was = are.each j h in
        let x = entry_at R.monoid.unit T.entries.items slot.node in
        subst (λ y. IsSlot R U.region (length U.entries.items) (part slot.node) y slot) (sym (old_entry slot.node was.from was.upto))
        (record {
          from = was.from;
          upto = let u = was.upto in omega (arith, u, total);
          index_is = was.index_is;
          solved = IsSolved-kept T.region U.region keeps R (part slot.node) x.trail slot.index (live slot.node was.from was.upto) slot.matching was.solved;
        })

    old_open : (j : ℕ) → given ≤ j → j < length slots.used → (entry_at R.monoid.unit U.entries.items (winner_in R.monoid.unit slots.used j)).state ≡ Open
    old_open j from h =
        let was = are.each j h in
        ap (λ (x : Entry V). x.state) (old_entry (winner_in R.monoid.unit slots.used j) was.from was.upto) ∙ are.open_nodes j from h

    -- an open node among the old ones is kept, or behind
    old_left : (n : ℕ) → 1 ≤ n → n ≤ length T.entries.items → (entry_at R.monoid.unit U.entries.items n).state ≡ Open → IsKept R.monoid.unit given slots.used n ⊎ IsBehind R.monoid slots (entry_at R.monoid.unit U.entries.items n).index
    old_left n from within is =
        let same = old_entry n from within in
        ⊎_elim
        (λ (kept : IsKept R.monoid.unit given slots.used n). inl kept)
        (λ (behind : IsBehind R.monoid slots (entry_at R.monoid.unit T.entries.items n).index). inr (subst (λ (x : Entry V). IsBehind R.monoid slots x.index) (sym same) behind))
        (are.left n from within (ap (λ (x : Entry V). x.state) (sym same) ∙ is))

    -- where the new node isn't open, or behind, the slots stay
    pub slots_stay : (e.state ≡ Open → IsBehind R.monoid slots e.index) → AreSlots R given U part slots
    slots_stay new_left = record {
      few = are.few;
      ascends = are.ascends;
      values = are.values;
      each = old_slot;
      open_nodes = old_open;
      apart = are.apart;
      left = λ n from within is.
          ⊎_elim
          (λ (late : length T.entries.items < n).
          let here : length T.entries.items + 1 ≡ n = omega (arith, late, within, total) in
          let same : entry_at R.monoid.unit U.entries.items n ≡ e = ap (entry_at R.monoid.unit U.entries.items) (sym here) ∙ new_entry in
          inr (subst (λ (x : Entry V). IsBehind R.monoid slots x.index) (sym same) (new_left (ap (λ (x : Entry V). x.state) (sym same) ∙ is))))
          (λ (early : n ≤ length T.entries.items). old_left n from early is)
          (cases_lt (length T.entries.items) n);
    }

    module _ (matching : List (Option ℕ)) (is_open : e.state ≡ Open) (value : IsValue R.monoid e.index)
        (solved : IsSolved R U.region (part (length T.entries.items + 1)) e.trail e.index matching)
        (rises : (j : ℕ) → j < given → IsLe R.monoid (slot_at R.monoid.unit slots.used j).index e.index)
      where
        abbrev slot : Slot V
        slot = slot_of (length T.entries.items + 1) e.index matching

        new_slot : HasOld slot
        new_slot =
            subst (λ y. IsSlot R U.region (length U.entries.items) (part slot.node) y slot) (sym new_entry)
            (record {
              from = omega arith;
              upto = omega (arith, total);
              index_is = refl;
              solved = solved;
            })

        new_open : (entry_at R.monoid.unit U.entries.items slot.node).state ≡ Open
        new_open = ap (λ (x : Entry V). x.state) new_entry ∙ is_open

        -- the slot was put among some of the first old ones
        module _ (some : List (Slot V)) (first : (j : ℕ) → j < length some → slot_at R.monoid.unit some j ≡ slot_at R.monoid.unit slots.used j)
            (few : length some ≤ length slots.used) (all : given ≤ length some) (new : SlotList V) (i : IsInserted R.monoid some slot new.used)
          where
            values_some : HaveValues R.monoid some
            values_some = all_slots R.monoid (λ x. IsValue R.monoid x.index) some (λ j h. subst (λ (x : Slot V). IsValue R.monoid x.index) (sym (first j h)) (are.values j (slot_of 0 R.monoid.unit []) (omega (arith, h, few))))

            ascends_some : Ascends R.monoid some
            ascends_some j k less h =
                subst (λ (x : Slot V). IsLe R.monoid x.index (slot_at R.monoid.unit some k).index) (sym (first j (omega (arith, less, h))))
                (subst (λ (x : Slot V). IsLe R.monoid (slot_at R.monoid.unit slots.used j).index x.index) (sym (first k h)) (are.ascends j k less (omega (arith, h, few))))

            prefix : given ≤ i.place
            prefix = prefix_stays R.monoid laws some slot new.used i given all (λ j h. subst (λ (x : Slot V). IsLe R.monoid x.index e.index) (sym (first j (omega (arith, h, all)))) (rises j h))

            -- the slots of the answers stay where they are
            pub answers_stay : (j : ℕ) → j < given → slot_at R.monoid.unit new.used j ≡ slot_at R.monoid.unit slots.used j
            answers_stay j h =
                let p = prefix in
                i.before j (omega (arith, h, p)) ∙ first j (omega (arith, h, all))

            each_now : (P : Slot V → Type 0) → P slot → ((j : ℕ) → j < length slots.used → P (slot_at R.monoid.unit slots.used j)) → (j : ℕ) → j < length new.used → P (slot_at R.monoid.unit new.used j)
            each_now P here old j h =
                ⊎_elim
                (λ (is : slot_at R.monoid.unit new.used j ≡ slot). subst P (sym is) here)
                (λ (was : StoodAt R.monoid some new.used i.place j).
                let within = was.within in
                subst P (sym (was.same ∙ first was.place within)) (old was.place (omega (arith, within, few))))
                (stood_or_new R.monoid laws some slot new.used i j h)

            pub upto_now : (top : V) → IsLe R.monoid e.index top → ((j : ℕ) → j < length slots.used → IsLe R.monoid (slot_at R.monoid.unit slots.used j).index top) → AreUpTo R.monoid top new.used
            upto_now top here old = all_slots R.monoid (λ x. IsLe R.monoid x.index top) new.used (each_now (λ x. IsLe R.monoid x.index top) here old)

            node_old : (j : ℕ) → j < length slots.used → (slot_at R.monoid.unit slots.used j).node ≤ length T.entries.items
            node_old j h = (are.each j h).upto

            apart_now : (j k : ℕ) → j < k → k < length new.used → winner_in R.monoid.unit new.used j ≢ winner_in R.monoid.unit new.used k
            apart_now =
                pairs_now R.monoid laws some slot new.used i (λ x y. x.node ≢ y.node)
                (λ j k less h e. are.apart j k less (omega (arith, h, few)) (ap (λ (x : Slot V). x.node) (sym (first j (omega (arith, less, h)))) ∙ e ∙ ap (λ (x : Slot V). x.node) (first k h)))
                (λ j low e.
                let within = i.within in
                let old = node_old j (omega (arith, low, within, few)) in
                let same : (slot_at R.monoid.unit slots.used j).node ≡ length T.entries.items + 1 = ap (λ (x : Slot V). x.node) (sym (first j (omega (arith, low, within)))) ∙ e in
                omega (arith, same, old))
                (λ j from h e.
                let old = node_old j (omega (arith, h, few)) in
                let same : length T.entries.items + 1 ≡ (slot_at R.monoid.unit slots.used j).node = e ∙ ap (λ (x : Slot V). x.node) (first j h) in
                omega (arith, same, old))

            open_now : (j : ℕ) → given ≤ j → j < length new.used → (entry_at R.monoid.unit U.entries.items (winner_in R.monoid.unit new.used j)).state ≡ Open
            open_now j from h =
                ⊎_elim
                (λ (is : slot_at R.monoid.unit new.used j ≡ slot). subst (λ (x : Slot V). (entry_at R.monoid.unit U.entries.items x.node).state ≡ Open) (sym is) new_open)
                (λ (was : StoodAt R.monoid some new.used i.place j).
                let within = was.within in
                let p = prefix in
                let past : given ≤ was.place = was_past j from was in
                subst (λ (x : Slot V). (entry_at R.monoid.unit U.entries.items x.node).state ≡ Open) (sym (was.same ∙ first was.place within)) (old_open was.place past (omega (arith, within, few))))
                (stood_or_new R.monoid laws some slot new.used i j h)
              where
                was_past : (j : ℕ) → given ≤ j → (was : StoodAt R.monoid some new.used i.place j) → given ≤ was.place
                was_past j from was = let p = prefix in let c = was.cause in ⊎_elim (λ (low : (j < i.place) × (was.place ≡ j)). let e = low.1 in omega (arith, e, from)) (λ (high : (i.place < j) × (was.place + 1 ≡ j)). let e = high.1 in let h = high.0 in omega (arith, e, h, p)) c

            -- a node that was in one of those slots is in one still
            kept_now : (n : ℕ) (k : ℕ) → given ≤ k → k < length some → winner_in R.monoid.unit slots.used k ≡ n → IsKept R.monoid.unit given new.used n
            kept_now n k from h is =
                let now = stands_now R.monoid laws some slot new.used i k h in
                let later = now.2 in
                record {
                  place = now.0;
                  from = omega (arith, from, later);
                  upto = now.1;
                  node = ap (λ (x : Slot V). x.node) (now.3 ∙ first k h) ∙ is;
                }

            new_kept : IsKept R.monoid.unit given new.used (length T.entries.items + 1)
            new_kept = record {
              place = i.place;
              from = prefix;
              upto = let c = i.count in let w = i.within in omega (arith, c, w);
              node = ap (λ (x : Slot V). x.node) i.here;
            }

            -- what is left of the old open nodes: kept, or behind
            pub slots_put : ((n : ℕ) → 1 ≤ n → n ≤ length T.entries.items → (entry_at R.monoid.unit U.entries.items n).state ≡ Open → IsKept R.monoid.unit given new.used n ⊎ IsBehind R.monoid new (entry_at R.monoid.unit U.entries.items n).index) → AreSlots R given U part new
            slots_put old = record {
              few = let p = prefix in let c = i.count in let w = i.within in omega (arith, p, c, w);
              ascends = ascends_now R.monoid laws some slot new.used i value values_some ascends_some;
              values = values_now R.monoid laws some slot new.used i value values_some ascends_some;
              each = each_now HasOld new_slot old_slot;
              open_nodes = open_now;
              apart = apart_now;
              left = λ n from within is.
                  ⊎_elim
                  (λ (late : length T.entries.items < n).
                  let here : length T.entries.items + 1 ≡ n = omega (arith, late, within, total) in
                  inl (subst (IsKept R.monoid.unit given new.used) here new_kept))
                  (λ (early : n ≤ length T.entries.items). old n from early is)
                  (cases_lt (length T.entries.items) n);
            }

        module _ (new : SlotList V) (room : new.room ≡ slots.room) (less : given < slots.room) where
          by_inserting : length slots.used < slots.room → Inserts R.monoid slots.used slot new.used → AreSlots R given U part new × ((j : ℕ) → j < given → slot_at R.monoid.unit new.used j ≡ slot_at R.monoid.unit slots.used j)
          by_inserting free inserts =
              let i = inserted R.monoid slots.used slot new.used inserts in
              let few = are.few in (
                slots_put slots.used (λ j h. refl) (omega arith) few new i
                    (λ n from within is.
                    ⊎_elim
                    (λ (kept : IsKept R.monoid.unit given slots.used n). inl (kept_now slots.used (λ j h. refl) (omega arith) few new i n kept.place kept.from kept.upto kept.node))
                    (λ (behind : IsBehind R.monoid slots (entry_at R.monoid.unit U.entries.items n).index). absurd (let full = behind.full in omega (arith, full, free)))
                    (old_left n from within is)),
                answers_stay slots.used (λ j h. refl) (omega arith) few new i,
              )

          by_replacing : length slots.used ≡ slots.room → Replaces R.monoid slots.used slot new.used → AreSlots R given U part new × ((j : ℕ) → j < given → slot_at R.monoid.unit new.used j ≡ slot_at R.monoid.unit slots.used j)
          by_replacing full replaces =
              let rest = replaces.rest in
              let d = slot_of 0 R.monoid.unit [] in
              let count : length slots.used ≡ length rest + 1 = ap (λ (xs : List (Slot V)). length xs) replaces.was ∙ (let c = length-append rest (replaces.last ∷ []) in let e : length (rest ++ replaces.last ∷ []) ≡ length rest + 1 = omega (arith, c) in e) in
              let first : (j : ℕ) → j < length rest → slot_at R.monoid.unit rest j ≡ slot_at R.monoid.unit slots.used j = λ j h. sym (ap (λ (xs : List (Slot V)). get_or xs j d) replaces.was ∙ get_or_append_left rest (replaces.last ∷ []) d j h) in
              let last_is : slot_at R.monoid.unit slots.used (length rest) ≡ replaces.last = ap (λ (xs : List (Slot V)). get_or xs (length rest) d) replaces.was ∙ get_or-append_seam rest replaces.last [] d in
              let i = inserted R.monoid rest slot new.used replaces.inserts in
              let few : length rest ≤ length slots.used = omega (arith, count) in
              let all : given ≤ length rest = omega (arith, count, full, less) in
              let value_last : IsValue R.monoid replaces.last.index = subst (λ (x : Slot V). IsValue R.monoid x.index) last_is (are.values (length rest) d (omega (arith, count))) in
              let below_last : IsLe R.monoid e.index replaces.last.index = le_from_less R.monoid laws e.index replaces.last.index value value_last replaces.less in
              let now_full : length new.used ≡ new.room = (let c = i.count in omega (arith, c, count, full, room)) in
              let behind_by : (top : V) → IsValue R.monoid top → IsLe R.monoid replaces.last.index top → ((j : ℕ) → j < length slots.used → IsLe R.monoid (slot_at R.monoid.unit slots.used j).index top) → IsBehind R.monoid new top =
              λ top value_top over old. record {
                full = now_full;
                upto = upto_now rest first few all new i top (laws.transitive e.index replaces.last.index top value value_last value_top below_last over) old;
              } in (
                slots_put rest first few all new i
                    (λ n from within is.
                    ⊎_elim
                    (λ (kept : IsKept R.monoid.unit given slots.used n).
                    ⊎_elim
                    (λ (early : kept.place < length rest). inl (kept_now rest first few all new i n kept.place kept.from early kept.node))
                    (λ (late : length rest ≤ kept.place).
                    let here : length rest ≡ kept.place = (let u = kept.upto in omega (arith, late, u, count)) in
                    let slot_is : slot_at R.monoid.unit slots.used kept.place ≡ replaces.last = ap (slot_at R.monoid.unit slots.used) (sym here) ∙ last_is in
                    let node_is : replaces.last.node ≡ n = ap (λ (x : Slot V). x.node) (sym slot_is) ∙ kept.node in
                    let index_is : replaces.last.index ≡ (entry_at R.monoid.unit U.entries.items n).index =
                    subst (λ m. replaces.last.index ≡ (entry_at R.monoid.unit U.entries.items m).index) node_is (subst (λ (x : Slot V). x.index ≡ (entry_at R.monoid.unit U.entries.items x.node).index) slot_is ((old_slot kept.place kept.upto).index_is)) in
                    inr (subst (IsBehind R.monoid new) index_is
                    (behind_by replaces.last.index value_last (reflexive R.monoid laws replaces.last.index value_last)
                    (λ j h. ⊎_elim
                    (λ (low : j < length rest). subst (λ (x : Slot V). IsLe R.monoid (slot_at R.monoid.unit slots.used j).index x.index) last_is (are.ascends j (length rest) low (omega (arith, count))))
                    (λ (high : length rest ≤ j).
                    let same : length rest ≡ j = omega (arith, high, h, count) in
                    subst (λ (x : Slot V). IsLe R.monoid x.index replaces.last.index) (sym (ap (slot_at R.monoid.unit slots.used) (sym same) ∙ last_is)) (reflexive R.monoid laws replaces.last.index value_last))
                    (cases_lt j (length rest))))))
                    (cases_lt kept.place (length rest)))
                    (λ (behind : IsBehind R.monoid slots (entry_at R.monoid.unit U.entries.items n).index).
                    let top = (entry_at R.monoid.unit U.entries.items n).index in
                    let value_top : IsValue R.monoid top = values_of n from within in
                    let over : IsLe R.monoid replaces.last.index top = subst (λ (x : Slot V). IsLe R.monoid x.index top) last_is (behind.upto (length rest) d (omega (arith, count))) in
                    inr (behind_by top value_top over (λ j h. behind.upto j d h)))
                    (old_left n from within is)),
                answers_stay rest first few all new i,
              )
            where
              values_of : (n : ℕ) → 1 ≤ n → n ≤ length T.entries.items → IsValue R.monoid (entry_at R.monoid.unit U.entries.items n).index
              values_of n from within = subst (λ (x : Entry V). IsValue R.monoid x.index) (sym (old_entry n from within)) (indexes n from within)

          by_refusing : length slots.used ≡ slots.room → Refuses R.monoid slots.used slot new.used → AreSlots R given U part new × ((j : ℕ) → j < given → slot_at R.monoid.unit new.used j ≡ slot_at R.monoid.unit slots.used j)
          by_refusing full refuses =
              let stay = slots_stay (λ _. record { full = full; upto = refuses.upto }) in (
                AreSlots-same slots new refuses.same room stay,
                (λ j h. ap (λ (xs : List (Slot V)). slot_at R.monoid.unit xs j) refuses.same),
              )

          -- the slots after the new node was offered
          pub slots_offered : Offers R.monoid slots slot new → AreSlots R given U part new × ((j : ℕ) → j < given → slot_at R.monoid.unit new.used j ≡ slot_at R.monoid.unit slots.used j)
          slots_offered offers =
              ⊎_elim
              (λ (h : (length slots.used < slots.room) × Inserts R.monoid slots.used slot new.used). by_inserting h.0 h.1)
              (λ (h : (length slots.used ≡ slots.room) × (Replaces R.monoid slots.used slot new.used ⊎ Refuses R.monoid slots.used slot new.used)).
              ⊎_elim (by_replacing h.0) (by_refusing h.0) h.1)
              offers
