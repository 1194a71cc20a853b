-- A search with its root alone.
use Rattle.asg_rank.proofs.Common.{◌≡◌, ℕ, ◌+◌, ◌-◌, ◌*◌, ◌<◌, ◌≤◌, ◌⊎◌, List, [], ◌∷◌, ◌++◌, length, get_or, take, None, vec_len, vec_capacity, Option, sym, refl, ap, ◌∙◌, subst, inl, inr, ⊎_elim, mul-le-mul_right, arith, get_or-append_seam, Solved, winner_in, given_of, AreSlots, IsSearch, IsDesk, IsReady, Search, placed, IsHall, Problem, square_side, IsValid, Whole, entry_at, entry_of, HallSets, hall_at, Rules, Leads, IsSolved, IsReducedTo, SlotList, slot_of, Inserts, Replaces, Refuses, Offers, HasState, IsNode, IsRoot, IsTree, HasRoomFor, Entry, Open, Empty, Tree, open_within, open_here, Monoid, IsOrderedMonoid, Forest, trail_at, IsPlantable, length-append}
use Rattle.asg_branching.specs.declared.desks.Desk.{Desk}
use Rattle.asg_nodes.specs.declared.slots.Slot.{Slot}
use Rattle.asg_branching.specs.laws.SlotSteps.{slots_stay, slots_offered}

-- a tree with its root alone
module _ {V : Type 0} (R : Rules V) (X : Problem) (U : Tree V) (e : Entry V) (items : U.entries.items ≡ e ∷ []) (root : IsRoot e) (leads : Leads R U.region X e.trail e.index)
    (open_or_none : (e.state ≡ Open) ⊎ ((g : List (Option ℕ)) → IsValid X g → ⊥))
  where
    abbrev whole_part : ℕ → Problem
    whole_part n = X

    one : length U.entries.items ≡ 1
    one = ap (λ (xs : List (Entry V)). length xs) items

    pub first_is : entry_at R.monoid.unit U.entries.items 1 ≡ e
    first_is = ap (λ (xs : List (Entry V)). entry_at R.monoid.unit xs 1) items

    pub root_tree : (winner : ℕ → ℕ) → HasState [] winner U.halls X 1 e.state → IsTree R X [] winner (length U.entries.items) U whole_part
    root_tree winner state =
        let o = one in
        let times : 1 + 0 * placed X ≡ 1 = omega arith in
        record {
          parts = record { root = refl; children = λ a i less from upto. absurd (omega (arith, less)) };
          upto_is = o ∙ sym times;
          some = omega (arith, o);
          few = omega arith;
          root = subst IsRoot (sym first_is) root;
          nodes = λ n from upto.
              let is : 1 ≡ n = omega (arith, from, upto, o) in
              subst (λ m. IsNode R [] winner U.region U.halls X m (entry_at R.monoid.unit U.entries.items m)) is
              (subst (IsNode R [] winner U.region U.halls X 1) (sym first_is) (record { leads = leads; state_is = state }));
          winners = λ a less. absurd (omega (arith, less));
          children = λ a i less from upto there. absurd (omega (arith, less));
          frontier = record {
            whole = λ g valid.
                ⊎_elim
                (λ (is_open : e.state ≡ Open). inr (1, open_here R.monoid.unit U.entries.items 1 (omega arith) (omega (arith, o)) (ap (λ (x : Entry V). x.state) first_is ∙ is_open), valid))
                (λ (none : (h : List (Option ℕ)) → IsValid X h → ⊥). absurd (none g valid))
                open_or_none;
            sound = λ g n there valid. valid;
            apart = λ g n m there there_m valid valid_m.
                let a = open_within R.monoid.unit U.entries.items n there in
                let b = open_within R.monoid.unit U.entries.items m there_m in
                let low = a.0 in
                let high = a.1 in
                let low_m = b.0 in
                let high_m = b.1 in
                omega (arith, low, high, low_m, high_m, o);
            fresh = λ g n there valid given. (let less = given.1 in absurd (omega (arith, less)));
          };
        }

    -- the search of such a tree
    pub root_search : (slots : SlotList V) → HasState [] (winner_in R.monoid.unit slots.used) U.halls X 1 e.state → AreSlots R 0 U whole_part slots → IsSearch R X (length U.entries.items) [] slots U
    root_search slots state kept = record {
      part = whole_part;
      tree = root_tree (winner_in R.monoid.unit slots.used) state;
      kept = kept;
      answers = λ a less. absurd (omega (arith, less));
      different = λ i j d less within. absurd (omega (arith, within));
    }

-- a slot that is offered where none is in use is put there
pub offered_one : {V : Type 0} (M : Monoid V) (old : SlotList V) (slot : Slot V) (new : SlotList V) → old.used ≡ [] → 1 ≤ old.room → Offers M old slot new → length new.used ≡ 1
offered_one {V} M old slot new none some offers =
    let zero_count : length old.used ≡ 0 = ap (λ (xs : List (Slot V)). length xs) none in
    ⊎_elim
    (λ (free : (length old.used < old.room) × Inserts M old.used slot new.used).
    let i = free.1 in
    let was : length old.used ≡ length (i.before ++ i.after) = ap (λ (xs : List (Slot V)). length xs) i.was in
    let is : length new.used ≡ length (i.before ++ slot ∷ i.after) = ap (λ (xs : List (Slot V)). length xs) i.is in
    omega (arith, zero_count, was, is, length-append i.before i.after, length-append i.before (slot ∷ i.after)))
    (λ (full : (length old.used ≡ old.room) × (Replaces M old.used slot new.used ⊎ Refuses M old.used slot new.used)).
    let same = full.0 in absurd (omega (arith, same, zero_count, some)))
    offers

module _ {V : Type 0} (R : Rules V) (laws : IsOrderedMonoid R.monoid) (X : Problem) (count : ℕ) (S : Search V) (ended : Solved) (matching : List (Option ℕ)) (is : IsPlantable R X count S ended matching)
  where
    abbrev the_part : ℕ → Problem
    the_part n = X

    given_none : given_of S ≡ []
    given_none = ap (λ n. take n S.choices.items) is.blank.none_given

    -- there is room for an answer
    pub room_some : 1 ≤ S.slots.room
    room_some = let some = is.some in let room = is.blank.room_is in omega (arith, some, room)

    no_entry : length S.tree.entries.items ≡ 0
    no_entry = ap (λ (xs : List (Entry V)). length xs) is.blank.no_node

    pub no_used : length S.slots.used ≡ 0
    no_used = ap (λ (xs : List (Slot V)). length xs) is.blank.no_slot

    blank_slots : AreSlots R 0 S.tree the_part S.slots
    blank_slots =
        let none = no_used in
        let empty = no_entry in
        record {
          few = omega arith;
          ascends = λ i j less within. absurd (omega (arith, within, none));
          values = λ k d within. absurd (omega (arith, within, none));
          each = λ j within. absurd (omega (arith, within, none));
          open_nodes = λ j from within. absurd (omega (arith, within, none));
          apart = λ i j less within. absurd (omega (arith, within, none));
          left = λ n from upto state. absurd (omega (arith, from, upto, empty));
        }

    -- there is memory for the first node
    pub entry_fits : length S.tree.entries.items < vec_capacity S.tree.entries
    entry_fits = let none = no_entry in let fit = is.blank.entries_fit in omega (arith, none, fit)

    pub hall_fits : length S.tree.halls.sets < S.tree.halls.most
    hall_fits =
        let none : length S.tree.halls.sets ≡ 0 = ap (λ (xs : List (List ℕ)). length xs) is.blank.no_hall in
        let fit = is.blank.halls_fit in
        omega (arith, none, fit)

    -- what is ready once the root was made
    module _ (U : Tree V) (slots : SlotList V) (desk : Desk V) (search : IsSearch R X (length U.entries.items) [] slots U)
        (one : length U.entries.items ≡ 1) (capacity : vec_capacity U.entries ≡ vec_capacity S.tree.entries) (region : U.region ≡ S.tree.region)
        (few_halls : length U.halls.sets ≤ 1) (most : U.halls.most ≡ S.tree.halls.most) (width : U.halls.width ≡ S.tree.halls.width)
        (side : slots.side ≡ S.slots.side) (room : slots.room ≡ S.slots.room) (few : length slots.used ≤ slots.room)
        (is_desk : IsDesk (square_side X) desk) (no_square : desk.node ≡ 0)
      where
        abbrev planted : Search V
        planted = record S { tree = U; slots = slots; desk = desk }

        planted_room : HasRoomFor U ((slots.room - S.given) * placed X) ((slots.room - 1 - S.given) * placed X)
        planted_room =
            let none = is.blank.none_given in
            let room_is = is.blank.room_is in
            let all : slots.room - S.given ≡ count = omega (arith, none, room, room_is) in
            let rest : slots.room - 1 - S.given ≡ count - 1 = omega (arith, none, room, room_is) in
            let nodes : (slots.room - S.given) * placed X ≡ count * placed X = ap (λ n. n * placed X) all in
            let phases : (slots.room - 1 - S.given) * placed X ≡ (count - 1) * placed X = ap (λ n. n * placed X) rest in
            let fewer : (count - 1) * placed X ≤ count * placed X = mul-le-mul_right (placed X) (let h : count - 1 ≤ count = omega arith in h) in
            let entries = is.blank.entries_fit in
            let spare = is.phases_fit in
            let halls = is.blank.halls_fit in
            let spare_is : U.region.spare ≡ S.tree.region.spare = ap (λ (f : Forest V). f.spare) region in
            record {
              entries_fit = omega (arith, nodes, entries, capacity, one);
              phases_fit = omega (arith, phases, spare, spare_is);
              halls_fit = omega (arith, phases, fewer, halls, few_halls, most);
            }

        pub planted_ready : (1 ≤ length slots.used → IsReducedTo R U.region X (entry_at R.monoid.unit U.entries.items 1).trail (entry_at R.monoid.unit U.entries.items 1).index S.base) → IsReady R X count planted
        planted_ready base =
            let memory = is.memory in
            let given_fit = memory.given_fit in
            let small = memory.small in
            let choices = memory.choices_fit in
            let slots_side = memory.slots_side in
            let halls = memory.halls_width in
            let none = is.blank.none_given in
            let some = room_some in
            let times : slots.room * placed X ≡ S.slots.room * placed X = ap (λ n. n * placed X) room in
            record {
              rankable = is.rankable;
              search = subst (λ given. IsSearch R X (length U.entries.items) given slots U) (sym given_none) search;
              base = base;
              standing = record { upto = omega (arith, no_square); reduced = λ number. absurd (omega (arith, number, no_square)) };
              memory = record {
                given_fit = omega (arith, given_fit, room);
                used_fit = few;
                small = omega (arith, small, times);
                choices_fit = choices ∙ sym room;
                choices_over = memory.choices_over;
                slots_side = side ∙ slots_side;
                region_side = ap (λ (f : Forest V). f.side) region ∙ memory.region_side;
                base_side = memory.base_side;
                halls_width = omega (arith, halls, width);
                desk = is_desk;
              };
              room_is = room ∙ is.blank.room_is;
              nodes_fit = planted_room;
              last = λ all i from upto. absurd (omega (arith, all, none, room, some));
            }

    -- the root has its best choice
    module _ (last : Option ℕ) (to : IsReducedTo R S.tree.region X last S.base.index S.base) (leads : Leads R S.tree.region X last S.base.index) (solved : IsSolved R S.tree.region X last S.base.index matching)
        (U : Tree V) (entries_are : U.entries.items ≡ S.tree.entries.items ++ entry_of 0 0 Open last S.base.index ∷ []) (capacity : vec_capacity U.entries ≡ vec_capacity S.tree.entries)
        (region : U.region ≡ S.tree.region) (halls : U.halls ≡ S.tree.halls)
        (slots : SlotList V) (side : slots.side ≡ S.slots.side) (room : slots.room ≡ S.slots.room) (offers : Offers R.monoid S.slots (slot_of 1 S.base.index matching) slots)
      where
        abbrev best : Entry V
        best = entry_of 0 0 Open last S.base.index

        best_items : U.entries.items ≡ best ∷ []
        best_items = entries_are ∙ ap (λ (xs : List (Entry V)). xs ++ best ∷ []) is.blank.no_node

        best_slots : AreSlots R 0 U the_part slots
        best_slots =
            let none = no_entry in
            let some = room_some in
            let number : 1 ≡ length S.tree.entries.items + 1 = omega (arith, none) in
            (slots_offered R laws 0 S.tree U the_part best entries_are (λ t live. ap (λ (f : Forest V). trail_at f t) region)
            (λ n from upto. absurd (omega (arith, from, upto, none)))
            (λ n from upto. absurd (omega (arith, from, upto, none)))
            S.slots blank_slots matching refl to.values.index
            (subst (λ (f : Forest V). IsSolved R f X last S.base.index matching) (sym region) solved)
            (λ j less. absurd (omega (arith, less)))
            slots room (omega (arith, some))
            (subst (λ n. Offers R.monoid S.slots (slot_of n S.base.index matching) slots) number offers)).0

        pub best_ready : IsReady R X count (record S { tree = U; slots = slots })
        best_ready =
            let some = room_some in
            let used = offered_one R.monoid S.slots (slot_of 1 S.base.index matching) slots is.blank.no_slot some offers in
            let none : length U.halls.sets ≡ 0 = ap (λ (h : HallSets). length h.sets) halls ∙ ap (λ (xs : List (List ℕ)). length xs) is.blank.no_hall in
            let leads_now : Leads R U.region X last S.base.index = subst (λ (f : Forest V). Leads R f X last S.base.index) (sym region) leads in
            let root : IsRoot best = record { parent_is = refl; branch_is = refl; empty = tt } in
            let first = first_is R X U best best_items root leads_now (inl refl) in
            planted_ready U slots S.desk
            (root_search R X U best best_items root leads_now (inl refl) slots tt best_slots)
            (ap (λ (xs : List (Entry V)). length xs) best_items) capacity region (omega (arith, none)) (ap (λ (h : HallSets). h.most) halls) (ap (λ (h : HallSets). h.width) halls)
            side room (omega (arith, used, some, room)) is.memory.desk is.blank.no_square
            (λ more. subst (λ (e : Entry V). IsReducedTo R U.region X e.trail e.index S.base) (sym first) (subst (λ (f : Forest V). IsReducedTo R f X last S.base.index S.base) (sym region) to))

    -- the root has no choice
    module _ (U : Tree V) (set : List ℕ) (hall : IsHall X Whole set) (no_choice : (g : List (Option ℕ)) → IsValid X g → ⊥)
        (entries_are : U.entries.items ≡ S.tree.entries.items ++ entry_of 0 0 (Empty (length S.tree.halls.sets)) None R.monoid.unit ∷ []) (capacity : vec_capacity U.entries ≡ vec_capacity S.tree.entries)
        (region : U.region ≡ S.tree.region) (halls : U.halls ≡ record S.tree.halls { sets = S.tree.halls.sets ++ set ∷ [] })
        (desk : Desk V) (same : desk ≡ record S.desk { ids = desk.ids }) (ids : vec_len desk.ids ≡ vec_len S.desk.ids)
      where
        abbrev closed : Entry V
        closed = entry_of 0 0 (Empty (length S.tree.halls.sets)) None R.monoid.unit

        closed_items : U.entries.items ≡ closed ∷ []
        closed_items = entries_are ∙ ap (λ (xs : List (Entry V)). xs ++ closed ∷ []) is.blank.no_node

        closed_slots : AreSlots R 0 U the_part S.slots
        closed_slots =
            let none = no_entry in
            slots_stay R laws 0 S.tree U the_part closed entries_are (λ t live. ap (λ (f : Forest V). trail_at f t) region)
            (λ n from upto. absurd (omega (arith, from, upto, none)))
            (λ n from upto. absurd (omega (arith, from, upto, none)))
            S.slots blank_slots (λ is_open. absurd (cc is_open))

        closed_desk : IsDesk (square_side X) desk
        closed_desk =
            let was = is.memory.desk in
            let many = was.ids in
            subst (IsDesk (square_side X)) (sym same)
            (record {
              work = was.work;
              bit_rows = was.bit_rows;
              bit_columns = was.bit_columns;
              bench = was.bench;
              trial = was.trial;
              steps = was.steps;
              columns = was.columns;
              ids = omega (arith, many, ids);
            })

        pub closed_ready : IsReady R X count (record S { tree = U; desk = desk })
        closed_ready =
            let some = room_some in
            let unused = no_used in
            let empty : length S.tree.halls.sets ≡ 0 = ap (λ (xs : List (List ℕ)). length xs) is.blank.no_hall in
            let sets : U.halls.sets ≡ S.tree.halls.sets ++ set ∷ [] = ap (λ (h : HallSets). h.sets) halls in
            let total : length U.halls.sets ≡ length (S.tree.halls.sets ++ set ∷ []) = ap (λ (xs : List (List ℕ)). length xs) sets in
            let more : length (S.tree.halls.sets ++ set ∷ []) ≡ length S.tree.halls.sets + 1 = omega (arith, length-append S.tree.halls.sets (set ∷ [])) in
            let there : hall_at U.halls (length S.tree.halls.sets) ≡ set = ap (λ (xs : List (List ℕ)). get_or xs (length S.tree.halls.sets) []) sets ∙ get_or-append_seam S.tree.halls.sets set [] [] in
            let leads_now : Leads R U.region X None R.monoid.unit = record { live = tt; admitted = tt; index_is = refl } in
            let root : IsRoot closed = record { parent_is = refl; branch_is = refl; empty = refl } in
            planted_ready U S.slots desk
            (root_search R X U closed closed_items root leads_now (inr no_choice) S.slots (omega (arith, total, more), subst (IsHall X Whole) (sym there) hall) closed_slots)
            (ap (λ (xs : List (Entry V)). length xs) closed_items) capacity region (omega (arith, total, more, empty)) (ap (λ (h : HallSets). h.most) halls) (ap (λ (h : HallSets). h.width) halls)
            refl refl (omega (arith, unused)) closed_desk (ap (λ (d : Desk V). d.node) same ∙ is.blank.no_square)
            (λ used. absurd (omega (arith, used, unused)))
