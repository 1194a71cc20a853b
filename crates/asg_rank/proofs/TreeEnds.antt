-- The tree at the end of a ranking.
use Rattle.asg_rank.proofs.Common.{◌≡◌, ℕ, ◌+◌, ◌-◌, ◌*◌, ◌^◌, ◌<◌, ◌≤◌, ◌≢◌, ◌↔◌, List, [], length, All, Option, AllPairs, sym, refl, subst, arith, get_or_default, winner_in, IsSearch, placed, IsInstance, Problem, IsValid, Objective, Cost, entry_at, Rules, SlotList, slot_at, given_at, Tree, part_valid, choice_fold, IsLe, IsOrderedMonoid, Word, IsExhausted, answer_room, AreWrittenNodes, node_at, IsNumber, answer_at, AreListed, IsBetterChoice, last_answer, MayStayOpen, IsSearchTree, Node, IsSquareChoice}
use Rattle.asg_rank.proofs.EndSteps.{none_kept, open_behind, last_le}
use Rattle.asg_rank.proofs.RankingSteps.{IsBridged, at_number, not_better, all_asked}
use Rattle.asg_rank.proofs.WrittenTrees.{sound_node, given_node, has_trail, state_of_open}
use Rattle.asg_rankings.specs.declared.nodes.Mark.TheVariants.{Open as MarkOpen}

module _ {V : Type 0} (R : Rules V) (laws : IsOrderedMonoid R.monoid) (word_of : V → Word) (X : Problem) (instance : IsInstance X) (count : ℕ) (given : List (List (Option ℕ))) (slots : SlotList V) (T : Tree V)
    (search : IsSearch R X (length T.entries.items) given slots T) (some : 1 ≤ length given) (few : length given ≤ count) (room_is : slots.room ≡ answer_room X count) (fits : length slots.used ≤ slots.room) (done : IsExhausted X count given)
    (choices : (Z : Problem) (free : V) (enter : Cost → V) (f : List (Option ℕ)) → IsInstance Z → IsValid Z f ↔ IsSquareChoice Z free enter f)
    (counted : (fs : List (List (Option ℕ))) → All (IsValid X) fs → AllPairs ◌≢◌ fs → length fs ≤ length X.columns ^ placed X)
  where
    before : (a : ℕ) → a < length given → (1 ≤ winner_in R.monoid.unit slots.used a) × (winner_in R.monoid.unit slots.used a ≤ 1 + a * placed X)
    before a h = let w = search.tree.winners a h in (w.from, w.upto)

    -- each answer is valid
    pub answer_valid : (a : ℕ) → a < length given → IsValid X (given_at given a)
    answer_valid a h =
        let w = search.tree.winners a h in
        let t = w.there in
        let e = search.tree.upto_is in
        part_valid X given (winner_in R.monoid.unit slots.used) search.part search.tree.parts before (winner_in R.monoid.unit slots.used a) w.from (omega (arith, t, e)) (given_at given a) (search.answers a h).valid

    pub all_valid : All (IsValid X) given
    all_valid k d h = subst (IsValid X) (get_or_default given k [] d h) (answer_valid k h)

    module _ (nodes : List Node) (written : AreWrittenNodes R.monoid.unit word_of T nodes) where
      valid_parts : (a : ℕ) → a < length given → IsValid (search.part (winner_in R.monoid.unit slots.used a)) (given_at given a)
      valid_parts a h = (search.answers a h).valid

      -- an open node may stay so
      may_stay : (n : ℕ) → IsNumber nodes n → (node_at nodes n).mark ≡ MarkOpen → MayStayOpen R.monoid R.difference word_of R.enter X count given nodes n
      may_stay n number is =
          let c = written.count in
          let high = number.1 in
          let state = state_of_open R word_of X given (winner_in R.monoid.unit slots.used) T search.part search.tree valid_parts nodes written n number.0 number.1 is in
          let behind = open_behind R X given slots T search laws instance choices count room_is fits done n number.0 (omega (arith, high, c)) state in
          let none = none_kept R X given slots T search laws instance choices count room_is fits done in
          let full = behind.full in
          let asked = all_asked X counted count given all_valid search.different (omega (arith, none, full, room_is)) in
          record {
            full = omega (arith, asked);
            trail = has_trail R word_of X given (winner_in R.monoid.unit slots.used) T search.part search.tree valid_parts nodes written n number.0 number.1;
            bound = subst (IsLe R.monoid (choice_fold R.monoid R.enter X (last_answer given))) (search.tree.nodes n number.0 (omega (arith, high, c))).leads.index_is (last_le R X given slots T search some (entry_at R.monoid.unit T.entries.items n).index (omega (arith, none)) behind);
          }

      -- the nodes are a search tree of the answers
      pub search_tree : IsSearchTree R.monoid R.difference word_of R.enter X count given nodes
      search_tree = record {
        root = let c = written.count in let s = search.tree.some in omega (arith, c, s);
        sound = sound_node R word_of X given (winner_in R.monoid.unit slots.used) T search.part search.tree valid_parts nodes written;
        given = given_node R word_of X given (winner_in R.monoid.unit slots.used) T search.part search.tree valid_parts nodes written;
        open_nodes = may_stay;
      }

    -- the answers may be listed
    pub listed : (objective : Objective) → IsBridged R objective X → AreListed objective X count given
    listed objective bridge = record {
      some = some;
      few = few;
      different = search.different;
      in_order = λ a from less.
          let low : a - 1 < length given = omega (arith, from, less) in
          let first : answer_at given a ≡ given_at given (a - 1) = refl in
          let second : answer_at given (a + 1) ≡ given_at given a = at_number given a in
          let here = search.answers (a - 1) low in
          let next = search.answers a less in
          let kept = search.kept.few in
          subst (λ f. ¬ IsBetterChoice objective X f (given_at given (a - 1))) (sym second)
          (not_better R objective X bridge (given_at given (a - 1)) (given_at given a) (answer_valid (a - 1) low) (answer_valid a less)
          (subst (λ z. IsLe R.monoid z (choice_fold R.monoid R.enter X (given_at given a))) (sym here.worth)
          (subst (IsLe R.monoid (slot_at R.monoid.unit slots.used (a - 1)).index) (sym next.worth) (search.kept.ascends (a - 1) a (omega (arith, from)) (omega (arith, less, kept))))));
    }
