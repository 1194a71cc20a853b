-- A search after one more child, and after one more answer.
use Rattle.asg_branching.proofs.Common.{◌≡◌, ℕ, ◌+◌, ◌<◌, ◌≤◌, ◌≢◌, List, [], ◌∷◌, ◌++◌, length, Contains, Option, sym, refl, ap, ◌∙◌, subst, ⊎_elim, arith, Contains-get_or, all_pairs_push, cases_lt, get_or-append_seam, get_or_append_left, IsLeastNew, winner_in, IsAnswer, AreSlots, IsSearch, placed, Problem, entry_at, with_state, child_number, Rules, KeepsTrails, SlotList, slot_at, given_at, HasState, IsWinner, IsChildOf, IsTree, Entry, State, Answered, Open, Empty, Slot, Tree, KeepsHalls, IsNextChild, more_children, child}
use Rattle.asg_branching.proofs.AnswerSteps.{part_now, tree_now, slots_now, old_part, more}
use Rattle.asg_model.specs.declared.parts.Place.TheVariants.{All as PlaceAll}

-- a tree with other numbers of the nodes with answers that are the same
pub winners_same : {V : Type 0} (R : Rules V) (X : Problem) (given : List (List (Option ℕ))) (winner other : ℕ → ℕ) (upto : ℕ) (T : Tree V) (part : ℕ → Problem) → ((a : ℕ) → a < length given → other a ≡ winner a) → IsTree R X given winner upto T part → IsTree R X given other upto T part
winners_same {V} R X given winner other upto T part same tree = record {
  parts = record {
    root = tree.parts.root;
    children = λ a i less from high. tree.parts.children a i less from high ∙ (λ q. child_of (sym (same a less) q) (given_at given a) i);
  };
  upto_is = tree.upto_is;
  some = tree.some;
  few = tree.few;
  root = tree.root;
  nodes = λ n from within.
      let was = tree.nodes n from within in
      record { leads = was.leads; state_is = state n (entry_at R.monoid.unit T.entries.items n).state was.state_is };
  winners = λ a less. subst (λ n. IsWinner (placed X) a (length T.entries.items) n (entry_at R.monoid.unit T.entries.items n)) (sym (same a less)) (tree.winners a less);
  children = λ a i less from high within.
      subst (λ n. IsChildOf T.region n (entry_at R.monoid.unit T.entries.items n) i (entry_at R.monoid.unit T.entries.items (child_number (placed X) a i))) (sym (same a less)) (tree.children a i less from high within);
  frontier = tree.frontier;
}
  where
    child_of : ℕ → List (Option ℕ) → ℕ → Problem
    child_of n f i = child (part n) f i

    state : (n : ℕ) (s : State) → HasState given winner T.halls (part n) n s → HasState given other T.halls (part n) n s
    state n (Answered b) is = (is.0, is.1, is.2, same is.0 is.2 ∙ is.3)
    state n Open is = tt
    state n (Empty h) is = is

module _ {V : Type 0} (R : Rules V) (X : Problem) (upto : ℕ) (given : List (List (Option ℕ))) (slots new : SlotList V) (T U : Tree V) (search : IsSearch R X upto given slots T) where
  -- one more child was made
  abbrev pub search_more : (e : Entry V) → U.entries.items ≡ T.entries.items ++ e ∷ [] → KeepsTrails T.region U.region → KeepsHalls T.halls U.halls → (a i : ℕ) → IsNextChild R X given (winner_in R.monoid.unit slots.used) T U.region U.halls search.part a i e → AreSlots R (length given) U search.part new → ((j : ℕ) → j < length given → slot_at R.monoid.unit new.used j ≡ slot_at R.monoid.unit slots.used j) → IsSearch R X upto given new U
  search_more e entries_are keeps halls a i next are same = record {
    part = search.part;
    tree = winners_same R X given (winner_in R.monoid.unit slots.used) (winner_in R.monoid.unit new.used) upto U search.part (λ b less. ap (λ (x : Slot V). x.node) (same b less)) (more_children R X given (winner_in R.monoid.unit slots.used) upto T search.part search.tree U e entries_are keeps halls a i next);
    kept = are;
    answers = λ b less. subst (λ (x : Slot V). IsAnswer R X (search.part x.node) x (given_at given b)) (sym (same b less)) (search.answers b less);
    different = search.different;
  }

-- one more answer was given; the nodes keep their parts
pub search_answered : {V : Type 0} (R : Rules V) (X : Problem) (given : List (List (Option ℕ))) (slots : SlotList V) (T U : Tree V) (search : IsSearch R X (length T.entries.items) given slots T) (all : X.place ≡ PlaceAll) (less : length given < length slots.used) (f : List (Option ℕ))
    (answer : IsAnswer R X (search.part (winner_in R.monoid.unit slots.used (length given))) (slot_at R.monoid.unit slots.used (length given)) f) (least : IsLeastNew R X given f)
    (entries_are : U.entries.items ≡ with_state R.monoid.unit T.entries.items (winner_in R.monoid.unit slots.used (length given)) (Answered (length given + 1)))
    (region_is : U.region ≡ T.region) (halls_are : U.halls ≡ T.halls)
    → (now : IsSearch R X (length T.entries.items + placed X) (given ++ f ∷ []) slots U) × ((m : ℕ) → m ≤ length T.entries.items → now.part m ≡ search.part m)
search_answered {V} R X given slots T U search all less f answer least entries_are region_is halls_are =
    let n = winner_in R.monoid.unit slots.used (length given) in
    let slot = search.kept.each (length given) less in
    let is_open = search.kept.open_nodes (length given) (omega arith) less in
    let winner = winner_in R.monoid.unit slots.used in
    let total : length (given ++ f ∷ []) ≡ length given + 1 = more R X given winner (length T.entries.items) T search.part search.tree all refl n slot.from slot.upto is_open f answer.valid refl U entries_are region_is halls_are in
    let now = part_now R X given winner (length T.entries.items) T search.part search.tree all refl n slot.from slot.upto is_open f answer.valid refl U entries_are region_is halls_are in
    let keep = old_part R X given winner (length T.entries.items) T search.part search.tree all refl n slot.from slot.upto is_open f answer.valid refl U entries_are region_is halls_are in (
      record {
        part = now;
        tree = tree_now R X given winner (length T.entries.items) T search.part search.tree all refl n slot.from slot.upto is_open f answer.valid refl U entries_are region_is halls_are;
        kept = subst (λ g. AreSlots R g U now slots) (sym total) (slots_now R X given winner (length T.entries.items) T search.part search.tree all refl n slot.from slot.upto is_open f answer.valid refl U entries_are region_is halls_are slots search.kept less refl);
        answers = λ a h.
            ⊎_elim
            (λ (old : a < length given).
            let upto = (search.kept.each a (omega (arith, old, less))).upto in
            subst (λ g. IsAnswer R X (now (winner a)) (slot_at R.monoid.unit slots.used a) g) (sym (get_or_append_left given (f ∷ []) [] a old))
            (subst (λ Y. IsAnswer R X Y (slot_at R.monoid.unit slots.used a) (given_at given a)) (sym (keep (winner a) upto)) (search.answers a old)))
            (λ (late : length given ≤ a).
            let here : length given ≡ a = omega (arith, late, h, total) in
            subst (λ b. IsAnswer R X (now (winner b)) (slot_at R.monoid.unit slots.used b) (given_at (given ++ f ∷ []) b)) here
            (subst (λ g. IsAnswer R X (now n) (slot_at R.monoid.unit slots.used (length given)) g) (sym (get_or-append_seam given f [] []))
            (subst (λ Y. IsAnswer R X Y (slot_at R.monoid.unit slots.used (length given)) f) (sym (keep n slot.upto)) answer)))
            (cases_lt a (length given));
        different = all_pairs_push ◌≢◌ given f search.different (λ k d h same. least.new (subst (Contains given) same (Contains-get_or given k d h)));
      },
      keep,
    )
