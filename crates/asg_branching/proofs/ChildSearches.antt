-- A search after one more child.
use Rattle.asg_branching.proofs.Common.{◌≡◌, ℕ, ◌+◌, ◌-◌, ◌*◌, ◌<◌, ◌≤◌, Bool, List, [], ◌∷◌, ◌++◌, length, vec_capacity, sym, refl, ap, ◌∙◌, subst, arith, IsGrowing, IsExpanding, last_winner, winner_in, given_of, AreSlots, IsBase, HasMemory, Desk, Search, placed, Problem, square_side, AreBitsFor, entry_at, Rules, IsReducedTo, KeepsTrails, IsStanding, SlotList, slot_at, Entry, Tree, KeepsHalls, IsNextChild, entry_before, count_more}
use Rattle.asg_branching.proofs.KeptSquares.{IsReducedTo-kept, standing_kept}
use Rattle.asg_branching.proofs.SearchSteps.{search_more}

module _ {V : Type 0} (R : Rules V) (X : Problem) (count made : ℕ) (S : Search V) (growing : IsGrowing R X count made S) (less : made < placed X)
    (tree : Tree V) (slots : SlotList V) (desk : Desk V) (e : Entry V) (entries_are : tree.entries.items ≡ S.tree.entries.items ++ e ∷ []) (keeps : KeepsTrails S.tree.region tree.region) (halls : KeepsHalls S.tree.halls tree.halls)
    (next : IsNextChild R X (given_of S) (winner_in R.monoid.unit S.slots.used) S.tree tree.region tree.halls growing.search.part (S.given - 1) (made + 1) e)
    (kept : AreSlots R (length (given_of S)) tree growing.search.part slots) (same : (j : ℕ) → j < length (given_of S) → slot_at R.monoid.unit slots.used j ≡ slot_at R.monoid.unit S.slots.used j) (room : slots.room ≡ S.slots.room)
  where
    abbrev now : Search V
    now = record S { tree = tree; slots = slots; desk = desk }

    entry_stays : (n : ℕ) → 1 ≤ n → n ≤ length S.tree.entries.items → entry_at R.monoid.unit tree.entries.items n ≡ entry_at R.monoid.unit S.tree.entries.items n
    entry_stays n from there = ap (λ (xs : List (Entry V)). entry_at R.monoid.unit xs n) entries_are ∙ entry_before R.monoid.unit S.tree.entries.items e n from there

    pub base_kept : IsBase R X tree S.base
    base_kept =
        let live = (growing.search.tree.nodes 1 (omega arith) growing.search.tree.some).leads.live in
        subst (λ x. IsReducedTo R tree.region X x.trail x.index S.base) (sym (entry_stays 1 (omega arith) growing.search.tree.some))
        (IsReducedTo-kept R S.tree.region tree.region keeps X (entry_at R.monoid.unit S.tree.entries.items 1).trail (entry_at R.monoid.unit S.tree.entries.items 1).index S.base live growing.base)

    module _ (memory : HasMemory X (record S { tree = tree; slots = slots; desk = desk })) (capacity : vec_capacity tree.entries ≡ vec_capacity S.tree.entries)
        (spare : (S.slots.room - S.given) * placed X - (made + 1) ≤ tree.region.spare) (sets : length tree.halls.sets + ((S.slots.room - S.given) * placed X - (made + 1)) ≤ tree.halls.most)
        (work_is : desk.work ≡ S.desk.work) (stands_is : desk.node ≡ S.desk.node)
      where
        pub total : length tree.entries.items ≡ length S.tree.entries.items + 1
        total = ap (λ (xs : List (Entry V)). length xs) entries_are ∙ count_more R.monoid.unit S.tree.entries.items e

        pub times : (slots.room - S.given) * placed X ≡ (S.slots.room - S.given) * placed X
        times = ap (λ n. (n - S.given) * placed X) room

        pub standing_more : IsStanding R tree growing.search.part desk.node desk.work
        standing_more =
            subst (λ n. IsStanding R tree growing.search.part n desk.work) (sym stands_is)
            (subst (λ w. IsStanding R tree growing.search.part S.desk.node w) (sym work_is)
            (standing_kept R S.tree tree growing.search.part growing.search.part keeps (omega (arith, total))
            (λ n from there. (growing.search.tree.nodes n from there).leads.live)
            (λ n from there. ap (λ (x : Entry V). x.trail) (entry_stays n from there))
            (λ n from there. ap (λ (x : Entry V). x.index) (entry_stays n from there))
            (λ n there. refl) S.desk.node S.desk.work growing.standing))

        abbrev pub growing_more : IsGrowing R X count (made + 1) (record S { tree = tree; slots = slots; desk = desk })
        growing_more =
            let fit = growing.nodes_fit.entries_fit in
            let made_are = growing.made_are in
            record {
              rankable = growing.rankable;
              some = growing.some;
              search = search_more R X (1 + length (given_of S) * placed X) (given_of S) S.slots slots S.tree tree growing.search e entries_are keeps halls (S.given - 1) (made + 1) next kept same;
              base = base_kept;
              standing = standing_more;
              memory = memory;
              room_is = room ∙ growing.room_is;
              made_upto = omega (arith, less);
              made_are = omega (arith, total, made_are);
              nodes_fit = record {
                entries_fit = omega (arith, fit, total, capacity, less, times);
                phases_fit = omega (arith, spare, times);
                halls_fit = omega (arith, sets, times);
              };
            }

        module _ (before keep : ℕ → ℕ → Bool) (expanding : IsExpanding R X count made before S) (part_is : expanding.growing.search.part ≡ growing.search.part) (bits : AreBitsFor (square_side X) keep desk.bits)
            (node_is : winner_in R.monoid.unit slots.used (S.given - 1) ≡ winner_in R.monoid.unit S.slots.used (S.given - 1)) (node_from : 1 ≤ last_winner R.monoid.unit S) (node_there : last_winner R.monoid.unit S ≤ length S.tree.entries.items)
          where
            pub expanding_more : IsExpanding R X count (made + 1) keep (record S { tree = tree; slots = slots; desk = desk })
            expanding_more =
                let n = last_winner R.monoid.unit S in
                let x = entry_at R.monoid.unit S.tree.entries.items n in
                let live = (growing.search.tree.nodes n node_from node_there).leads.live in
                let entry_is : entry_at R.monoid.unit tree.entries.items n ≡ x = entry_stays n node_from node_there in
                let was = subst (λ part. IsReducedTo R S.tree.region (part n) x.trail x.index S.desk.work) part_is expanding.work in
                let to = IsReducedTo-kept R S.tree.region tree.region keeps (growing.search.part n) x.trail x.index S.desk.work live was in
                let less_room = expanding.less in
                record {
                  growing = growing_more;
                  less = omega (arith, less_room, room);
                  work =
                      subst (λ m. IsReducedTo R tree.region (growing.search.part m) (entry_at R.monoid.unit tree.entries.items m).trail (entry_at R.monoid.unit tree.entries.items m).index desk.work) (sym node_is)
                      (subst (λ y. IsReducedTo R tree.region (growing.search.part n) y.trail y.index desk.work) (sym entry_is)
                      (subst (λ w. IsReducedTo R tree.region (growing.search.part n) x.trail x.index w) (sym work_is) to));
                  bits = bits;
                }
