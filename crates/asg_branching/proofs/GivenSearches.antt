-- A search after one more answer, whose children are to come.
use Rattle.asg_branching.proofs.Common.{◌≡◌, ℕ, ◌+◌, ◌-◌, ◌*◌, ◌<◌, ◌≤◌, List, [], ◌∷◌, ◌++◌, length, take, set, vec_capacity, Option, sym, refl, ap, ◌∙◌, subst, arith, length-set, length-take-le, get_or-set_same, take-set, take_more, IsGrowing, IsLeastNew, IsOneMore, winner_in, given_of, IsAnswer, IsSearch, IsBase, IsReady, HasMemory, Search, placed, Problem, entry_at, with_state, HallSets, Rules, IsReducedTo, IsStanding, SlotList, slot_at, Entry, Answered, entry_kept, count_same, add_one_times, Forest, trail_at}
use Rattle.asg_branching.proofs.KeptSquares.{standing_kept}
use Rattle.asg_branching.proofs.SearchSteps.{search_answered}

-- as many answers as were counted
pub count_given : {V : Type 0} (S : Search V) → S.given ≤ length S.choices.items → length (given_of S) ≡ S.given
count_given S within = length-take-le S.given S.choices.items within

-- one more choice was written
pub given_more : (choices now : List (List (Option ℕ))) (place : ℕ) (f : List (Option ℕ)) → place < length choices → now ≡ set choices place f → take (place + 1) now ≡ take place choices ++ f ∷ []
given_more choices now place f below is =
    ap (take (place + 1)) is
    ∙ take_more (set choices place f) place [] (let c = length-set choices place f in omega (arith, below, c))
    ∙ (λ i. take-set choices place f i ++ get_or-set_same choices place f [] below i ∷ [])

module _ {V : Type 0} (R : Rules V) (X : Problem) (count : ℕ) (S U : Search V) (ready : IsReady R X count S) (less : S.given < length S.slots.used) (f : List (Option ℕ))
    (given_is : U.given ≡ S.given + 1) (choices_are : U.choices.items ≡ set S.choices.items S.given f) (slots_are : U.slots ≡ S.slots) (base_is : U.base ≡ S.base)
    (entries_are : U.tree.entries.items ≡ with_state R.monoid.unit S.tree.entries.items (winner_in R.monoid.unit S.slots.used S.given) (Answered (S.given + 1)))
    (capacity_is : vec_capacity U.tree.entries ≡ vec_capacity S.tree.entries) (region_is : U.tree.region ≡ S.tree.region) (halls_are : U.tree.halls ≡ S.tree.halls) (memory : HasMemory X U)
  where
    fits : S.given < length S.choices.items
    fits = let m = ready.memory.choices_fit in let u = ready.memory.used_fit in omega (arith, m, less, u)

    counted : length (given_of S) ≡ S.given
    counted = count_given S (let h = fits in omega (arith, h))

    pub given_now : given_of U ≡ given_of S ++ f ∷ []
    given_now = ap (λ n. take n U.choices.items) given_is ∙ given_more S.choices.items U.choices.items S.given f fits choices_are

    module _ (answer : IsAnswer R X (ready.search.part (winner_in R.monoid.unit S.slots.used S.given)) (slot_at R.monoid.unit S.slots.used S.given) f) (least : IsLeastNew R X (given_of S) f) where
      pub one_more : IsOneMore R X (given_of S) (given_of U)
      one_more = record { choice = f; appended = given_now; least = least }

      -- a search in which the nodes keep their parts
      abbrev KeepsParts : ℕ → List (List (Option ℕ)) → SlotList V → Type 0
      KeepsParts n given slots = (now : IsSearch R X n given slots U.tree) × ((m : ℕ) → m ≤ length S.tree.entries.items → now.part m ≡ ready.search.part m)

      answered : KeepsParts (length S.tree.entries.items + placed X) (given_of S ++ f ∷ []) S.slots
      answered =
          search_answered R X (given_of S) S.slots S.tree U.tree ready.search ready.rankable.place (omega (arith, counted, less)) f
          (subst (λ a. IsAnswer R X (ready.search.part (winner_in R.monoid.unit S.slots.used a)) (slot_at R.monoid.unit S.slots.used a) f) (sym counted) answer)
          least
          (entries_are ∙ ap (λ a. with_state R.monoid.unit S.tree.entries.items (winner_in R.monoid.unit S.slots.used a) (Answered (a + 1))) (sym counted))
          region_is halls_are

      search_now : KeepsParts (1 + length (given_of U) * placed X) (given_of U) U.slots
      search_now =
          subst (λ s. KeepsParts (1 + length (given_of U) * placed X) (given_of U) s) (sym slots_are)
          (subst (λ g. KeepsParts (1 + length g * placed X) g S.slots) (sym given_now)
          (subst (λ n. KeepsParts n (given_of S ++ f ∷ []) S.slots) answered.0.tree.upto_is answered))

      total : length U.tree.entries.items ≡ length S.tree.entries.items
      total =
          let slot = ready.search.kept.each S.given less in
          ap (λ (xs : List (Entry V)). length xs) entries_are ∙ count_same R.monoid.unit S.tree.entries.items (winner_in R.monoid.unit S.slots.used S.given) slot.from slot.upto (Answered (S.given + 1))

      -- the trails and the indexes stay
      entry_stays : {A : Type 0} (get : Entry V → A) → ((e : Entry V) → get (record e { state = Answered (S.given + 1) }) ≡ get e) → (n : ℕ) → 1 ≤ n → get (entry_at R.monoid.unit U.tree.entries.items n) ≡ get (entry_at R.monoid.unit S.tree.entries.items n)
      entry_stays get same n from =
          let slot = ready.search.kept.each S.given less in
          ap (λ (xs : List (Entry V)). get (entry_at R.monoid.unit xs n)) entries_are ∙ entry_kept R.monoid.unit S.tree.entries.items (winner_in R.monoid.unit S.slots.used S.given) slot.from slot.upto (Answered (S.given + 1)) get same n from

      standing_now : U.desk.work ≡ S.desk.work → U.desk.node ≡ S.desk.node → IsStanding R U.tree search_now.0.part U.desk.node U.desk.work
      standing_now work_is stands_is =
          subst (λ n. IsStanding R U.tree search_now.0.part n U.desk.work) (sym stands_is)
          (subst (λ w. IsStanding R U.tree search_now.0.part S.desk.node w) (sym work_is)
          (standing_kept R S.tree U.tree ready.search.part search_now.0.part (λ t live. ap (λ (F : Forest V). trail_at F t) region_is) (omega (arith, total))
          (λ n from there. (ready.search.tree.nodes n from there).leads.live)
          (λ n from there. entry_stays (λ e. e.trail) (λ e. refl) n from)
          (λ n from there. entry_stays (λ e. e.index) (λ e. refl) n from)
          search_now.1 S.desk.node S.desk.work ready.standing))

      -- the children of its node are to come
      pub growing_now : U.desk.work ≡ S.desk.work → U.desk.node ≡ S.desk.node → IsGrowing R X count 0 U
      growing_now work_is stands_is =
          let made = ready.search.tree.upto_is in
          let times : length (given_of S) * placed X ≡ S.given * placed X = ap (λ n. n * placed X) counted in
          let back : (U.given - 1) * placed X ≡ S.given * placed X = ap (λ n. n * placed X) (let e : U.given - 1 ≡ S.given = omega (arith, given_is) in e) in
          let some = ready.search.tree.some in
          let room : U.slots.room ≡ S.slots.room = ap (λ (s : SlotList V). s.room) slots_are in
          let u = ready.memory.used_fit in
          let left : S.slots.room - S.given ≡ U.slots.room - U.given + 1 = omega (arith, room, given_is, less, u) in
          let nodes : (S.slots.room - S.given) * placed X ≡ (U.slots.room - U.given) * placed X + placed X = ap (λ n. n * placed X) left ∙ add_one_times (U.slots.room - U.given) (placed X) in
          let phases : (S.slots.room - 1 - S.given) * placed X ≡ (U.slots.room - U.given) * placed X = ap (λ n. n * placed X) (let e : S.slots.room - 1 - S.given ≡ U.slots.room - U.given = omega (arith, room, given_is) in e) in
          let entries_fit = ready.nodes_fit.entries_fit in
          let phases_fit = ready.nodes_fit.phases_fit in
          let halls_fit = ready.nodes_fit.halls_fit in
          let spare : U.tree.region.spare ≡ S.tree.region.spare = ap (λ (F : Forest V). F.spare) region_is in
          let sets : length U.tree.halls.sets ≡ length S.tree.halls.sets = ap (λ (h : HallSets). length h.sets) halls_are in
          let most : U.tree.halls.most ≡ S.tree.halls.most = ap (λ (h : HallSets). h.most) halls_are in
          record {
            rankable = ready.rankable;
            some = omega (arith, given_is);
            search = search_now.0;
            base = base_now;
            standing = standing_now work_is stands_is;
            memory = memory;
            room_is = room ∙ ready.room_is;
            made_upto = omega arith;
            made_are = omega (arith, total, made, times, back);
            nodes_fit = record {
              entries_fit = omega (arith, entries_fit, capacity_is, total, nodes);
              phases_fit = omega (arith, phases_fit, spare, phases);
              halls_fit = omega (arith, halls_fit, sets, most, phases);
            };
          }
        where
          base_now : IsBase R X U.tree U.base
          base_now =
              let was = ready.base (omega (arith, less)) in
              let trail : (entry_at R.monoid.unit U.tree.entries.items 1).trail ≡ (entry_at R.monoid.unit S.tree.entries.items 1).trail = entry_stays (λ e. e.trail) (λ e. refl) 1 (omega arith) in
              let index : (entry_at R.monoid.unit U.tree.entries.items 1).index ≡ (entry_at R.monoid.unit S.tree.entries.items 1).index = entry_stays (λ e. e.index) (λ e. refl) 1 (omega arith) in
              subst (λ b. IsBase R X U.tree b) (sym base_is)
              (subst (λ t. IsReducedTo R U.tree.region X t (entry_at R.monoid.unit U.tree.entries.items 1).index S.base) (sym trail)
              (subst (λ z. IsReducedTo R U.tree.region X (entry_at R.monoid.unit S.tree.entries.items 1).trail z S.base) (sym index)
              (subst (λ F. IsReducedTo R F X (entry_at R.monoid.unit S.tree.entries.items 1).trail (entry_at R.monoid.unit S.tree.entries.items 1).index S.base) (sym region_is) was)))
