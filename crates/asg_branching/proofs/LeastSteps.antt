-- The kept node of the least index gives a choice that is new and best of those that weren't given.
use Rattle.asg_branching.proofs.Common.{◌≡◌, ℕ, ◌+◌, ◌*◌, ◌<◌, ◌≤◌, List, [], length, IsTrue, Option, sym, ap, ◌∙◌, subst, ⊎_elim, arith, cases_lt, IsLeastNew, winner_in, IsBehind, IsKept, AreSlots, placed, IsInstance, Problem, square_side, IsValid, entry_at, is_open_at, Rules, SlotList, slot_of, slot_at, IsTree, Tree, open_within, open_here, part_instance, part_live, part_fold, choice_fold, IsValue, IsLe, IsOrderedMonoid, reflexive, phases_to, EntersValues, ProvesIndex, PhaseOf, index_is_value, IsLeastPart, least_valid, least_new, least_best, square_cell}

module _ {V : Type 0} (R : Rules V) (laws : IsOrderedMonoid R.monoid) (X : Problem) (instance : IsInstance X) (enters : EntersValues R.monoid R.enter X)
    (given : List (List (Option ℕ))) (winner : ℕ → ℕ) (T : Tree V) (part : ℕ → Problem) (tree : IsTree R X given winner (length T.entries.items) T part)
    (fold_value : (g : List (Option ℕ)) → IsValue R.monoid (choice_fold R.monoid R.enter X g))
    (lower_bound : (Y : Problem) (phases : List (PhaseOf V)) (z : V) (g : List (Option ℕ)) → IsInstance Y → EntersValues R.monoid R.enter Y → ProvesIndex R.monoid R.difference R.enter Y phases z → IsValid Y g → IsLe R.monoid z (choice_fold R.monoid R.enter Y g))
  where
    abbrev index_at : ℕ → V
    index_at m = (entry_at R.monoid.unit T.entries.items m).index

    before : (a : ℕ) → a < length given → (1 ≤ winner a) × (winner a ≤ 1 + a * placed X)
    before a h = let w = tree.winners a h in (w.from, w.upto)

    within : (m : ℕ) → m ≤ length T.entries.items → m ≤ 1 + length given * placed X
    within m h = let e = tree.upto_is in omega (arith, h, e)

    pub index_value : (m : ℕ) → 1 ≤ m → m ≤ length T.entries.items → IsValue R.monoid (index_at m)
    index_value m low high =
        let leads = (tree.nodes m low high).leads in
        subst (IsValue R.monoid) (sym leads.index_is) (index_is_value R.monoid laws R.difference (square_side (part m)) (phases_to T.region (entry_at R.monoid.unit T.entries.items m).trail) (square_cell (part m) R.monoid.unit R.enter) leads.admitted)

    -- each choice of a part is worth at least its index
    pub worth_at : (m : ℕ) → 1 ≤ m → m ≤ length T.entries.items → (g : List (Option ℕ)) → IsValid (part m) g → IsLe R.monoid (index_at m) (choice_fold R.monoid R.enter X g)
    worth_at m low high g valid =
        let leads = (tree.nodes m low high).leads in
        subst (IsLe R.monoid (index_at m)) (part_fold X given winner part tree.parts before m low (within m high) R.monoid R.enter g valid)
        (lower_bound (part m) (phases_to T.region (entry_at R.monoid.unit T.entries.items m).trail) (index_at m) g
        (part_instance X given winner part tree.parts before m low (within m high) instance)
        (part_live X given winner part tree.parts before m low (within m high) (λ cost. IsValue R.monoid (R.enter cost)) enters)
        (record { admitted = leads.admitted; index = sym leads.index_is }) valid)

    module _ (slots : SlotList V) (are : AreSlots R (length given) T part slots) (more : length given < length slots.used) where
      abbrev n : ℕ
      n = winner_in R.monoid.unit slots.used (length given)

      -- it is the least open node
      pub least_part : IsLeastPart R.monoid (choice_fold R.monoid R.enter X) (is_open_at R.monoid.unit T.entries.items (length T.entries.items)) part index_at n
      least_part =
          let slot = are.each (length given) more in
          record {
            there = open_here R.monoid.unit T.entries.items n slot.from slot.upto (are.open_nodes (length given) (omega arith) more);
            bounds = λ g m h valid. let at = open_within R.monoid.unit T.entries.items m h in worth_at m at.0 at.1 g valid;
            least = λ m h.
                let at = open_within R.monoid.unit T.entries.items m h in
                ⊎_elim
                (λ (kept : IsKept R.monoid.unit (length given) slots.used m).
                let from = kept.from in
                let k = are.each kept.place kept.upto in
                let to : (slot_at R.monoid.unit slots.used kept.place).index ≡ index_at m = k.index_is ∙ ap index_at kept.node in
                ⊎_elim
                (λ (later : length given < kept.place).
                subst (λ z. IsLe R.monoid z (index_at m)) slot.index_is (subst (IsLe R.monoid (slot_at R.monoid.unit slots.used (length given)).index) to (are.ascends (length given) kept.place later kept.upto)))
                (λ (same : kept.place ≤ length given).
                let is : length given ≡ kept.place = omega (arith, from, same) in
                let node : n ≡ m = ap (winner_in R.monoid.unit slots.used) is ∙ kept.node in
                subst (λ q. IsLe R.monoid (index_at n) (index_at q)) node (reflexive R.monoid laws (index_at n) (index_value n slot.from slot.upto)))
                (cases_lt (length given) kept.place))
                (λ (behind : IsBehind R.monoid slots (index_at m)).
                subst (λ z. IsLe R.monoid z (index_at m)) slot.index_is (behind.upto (length given) (slot_of 0 R.monoid.unit []) more))
                (are.left m at.0 at.1 at.2);
          }

      -- and its choice, worth its index, is new and best
      pub least_choice : (f : List (Option ℕ)) → IsValid (part n) f → choice_fold R.monoid R.enter X f ≡ (slot_at R.monoid.unit slots.used (length given)).index → IsLeastNew R X given f
      least_choice f valid worth =
          let is = worth ∙ (are.each (length given) more).index_is in
          let open_at = is_open_at R.monoid.unit T.entries.items (length T.entries.items) in
          let values : (m : ℕ) → IsTrue (open_at m) → IsValue R.monoid (index_at m) = λ m h. (let at = open_within R.monoid.unit T.entries.items m h in index_value m at.0 at.1) in
          record {
            valid = least_valid R.monoid laws (choice_fold R.monoid R.enter X) X given open_at part index_at n f tree.frontier least_part valid is values (λ g _. fold_value g);
            new = least_new R.monoid laws (choice_fold R.monoid R.enter X) X given open_at part index_at n f tree.frontier least_part valid is values (λ g _. fold_value g);
            least = least_best R.monoid laws (choice_fold R.monoid R.enter X) X given open_at part index_at n f tree.frontier least_part valid is values (λ g _. fold_value g);
          }
