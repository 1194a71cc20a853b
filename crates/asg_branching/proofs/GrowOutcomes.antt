-- The search after the next child was made: it was left open, or it has its best choice, or it has
-- none.
use Rattle.asg_branching.proofs.Common.{◌≡◌, ℕ, ◌+◌, ◌-◌, ◌*◌, ◌<◌, ◌≤◌, true, ◌⊎◌, List, [], ◌∷◌, ◌++◌, length, get_or, is_some, IfSome, slice_set, Some, None, vec_capacity, Option, sym, refl, ap, ◌∙◌, subst, inl, ⊎_elim, arith, cases_lt, false≢true, get_or-append_seam, get_or_append_left, IsAtLimit, IsBranch, IsLed, stage_of, IsExpanding, kept_for, last_winner, given_of, IsBehind, Desk, Search, AreLive, slots_stay, slots_offered, masked_reduced, GivesHallSets, Matches-set_other, Some-from_test, placed, IsHall, Problem, square_side, IsValid, Whole, Cost, AreBitsFor, entry_at, entry_of, is_open_state, IsNext, HallSets, hall_at, Rules, Leads, IsSolved, KeepsTrails, SlotList, slot_of, slot_at, HaveValues, IsLimit, Inserts, Replaces, Refuses, Offers, given_at, Entry, Open, Empty, Slot, Tree, KeepsHalls, inserted, Monoid, IsValue, IsLe, IsOrderedMonoid, reflexive, Forest, phases_to, PhaseOf, is_some-phases, index_is_value, child, keeps_cell, IsPresent, square_cell, cell_at, keeps, masked_grid, has_cell, length-append}
use Rattle.asg_branching.proofs.Branched.{LeadsChild, leads_child, masked_child, led_pushes, led_child, led_rises, solved_child}
use Rattle.asg_branching.proofs.ChildSearches.{expanding_more}
use Rattle.asg_branching.proofs.DeskSteps.{DeskStays, memory_with}
use Rattle.asg_branching.proofs.GrowCases.{Raises, given_count, last_less, node_from, node_there, next_part, node_leads, node_rows, node_columns, node_place, raised_child, node_solved, branch_bits, next_open, next_empty}
use Rattle.asg_branching.proofs.ReadySearches.{one_spare}

-- an index that came to the limit is behind all slots
pub behind_limit : {V : Type 0} (M : Monoid V) (laws : IsOrderedMonoid M) (slots : SlotList V) → HaveValues M slots.used → (index : V) → IsValue M index → (limit : Option V) → IsLimit M slots limit → IsAtLimit M limit index → IsBehind M slots index
behind_limit M laws slots values index value None is far = absurd far
behind_limit M laws slots values index value (Some top) is far = record {
  full = is.0;
  upto = λ j d h. laws.transitive (get_or slots.used j d).index top index (values j d h) is.2 value (is.1 j d h) far;
}

-- a limit is a value
pub limit_value : {V : Type 0} (M : Monoid V) (slots : SlotList V) (limit : Option V) → IsLimit M slots limit → IfSome limit (IsValue M)
limit_value M slots None is = tt
limit_value M slots (Some top) is = is.2

-- slots that were offered one fit as before
pub offered_fit : {V : Type 0} (M : Monoid V) (slots : SlotList V) (slot : Slot V) (new : SlotList V) → Offers M slots slot new → new.room ≡ slots.room → length new.used ≤ new.room
offered_fit {V} M slots slot new offers room =
    ⊎_elim
    (λ (h : (length slots.used < slots.room) × Inserts M slots.used slot new.used).
    let free = h.0 in
    let c = (inserted M slots.used slot new.used h.1).count in
    omega (arith, c, free, room))
    (λ (h : (length slots.used ≡ slots.room) × (Replaces M slots.used slot new.used ⊎ Refuses M slots.used slot new.used)).
    let full = h.0 in
    ⊎_elim
    (λ (r : Replaces M slots.used slot new.used).
    let c = (inserted M r.rest slot new.used r.inserts).count in
    let count : length slots.used ≡ length r.rest + 1 = ap (λ (xs : List (Slot V)). length xs) r.was ∙ (let a = length-append r.rest (r.last ∷ []) in let e : length (r.rest ++ r.last ∷ []) ≡ length r.rest + 1 = omega (arith, a) in e) in
    omega (arith, c, count, full, room))
    (λ (r : Refuses M slots.used slot new.used).
    let same : length new.used ≡ length slots.used = ap (λ (xs : List (Slot V)). length xs) r.same in
    omega (arith, same, full, room))
    h.1)
    offers

-- what a region became while a child grew on the trail of its parent
pub record Grows {V : Type 0} (R : Rules V) (F G : Forest V) (Z : Problem) (before trail : Option ℕ) (index : V) : Type 0 where
  pub keeps : KeepsTrails F G
  pub next : IsNext G before trail
  pub leads : Leads R G Z trail index
  pub spare : F.spare ≤ G.spare + 1
  pub side : G.side ≡ F.side

module _ {V : Type 0} (R : Rules V) (laws : IsOrderedMonoid R.monoid) where
  pub led_value : (F : Forest V) (Z : Problem) (trail : Option ℕ) (index : V) → Leads R F Z trail index → IsValue R.monoid index
  led_value F Z trail index leads =
      subst (λ z. R.monoid.is_value z ≡ true) (sym leads.index_is) (index_is_value R.monoid laws R.difference (square_side Z) (phases_to F trail) (square_cell Z R.monoid.unit R.enter) leads.admitted)

  module _ (raises : Raises R) (X : Problem) (count made : ℕ) (S : Search V) (expanding : IsExpanding R X count made (kept_for X made S) S) where
    -- the node, its part, its entry, and the part of the next child
    abbrev pub node : ℕ
    node = last_winner R.monoid.unit S

    abbrev pub part_here : Problem
    part_here = expanding.growing.search.part (last_winner R.monoid.unit S)

    abbrev pub above : Entry V
    above = entry_at R.monoid.unit S.tree.entries.items (last_winner R.monoid.unit S)

    abbrev pub choice_here : List (Option ℕ)
    choice_here = given_at (given_of S) (S.given - 1)

    abbrev pub part_next : Problem
    part_next = child part_here choice_here (made + 1)

    abbrev pub Grew : Forest V → Option ℕ → V → Type 0
    Grew G trail index = Grows R S.tree.region G part_next above.trail trail index

    raised : LeadsChild R part_here part_next
    raised = raised_child R X count made S expanding.growing laws raises

    leads_here : Leads R S.tree.region part_here above.trail above.index
    leads_here = node_leads R X count made S expanding.growing

    pub grew_none : Grew S.tree.region above.trail above.index
    grew_none = record {
      keeps = λ t live. refl;
      next = inl refl;
      leads = leads_child R laws S.tree.region part_here choice_here (made + 1) above.trail above.index leads_here raised;
      spare = omega arith;
      side = refl;
    }

    bits_here : (r k : ℕ) → r < square_side part_here → k < square_side part_here → keeps S.desk.work.now.side S.desk.bits.words r k ≡ keeps_cell part_here choice_here (made + 1) r k
    bits_here = branch_bits R X count made S expanding

    module _ {G : Forest V} {last : Option ℕ} {now : V} (phase : PhaseOf V) (led : IsLed R.monoid R.difference (masked_reduced S.desk.work S.desk.bits.words) phase now S.tree.region G above.trail last) where
      pub grew_led : Grew G last now
      grew_led =
          let p = led_pushes R laws S.tree.region part_here choice_here (made + 1) above.trail above.index leads_here raised S.desk.work expanding.work S.desk.bits.words bits_here phase led in
          record {
            keeps = p.keeps;
            next = p.next;
            leads = led_child R laws S.tree.region part_here choice_here (made + 1) above.trail above.index leads_here raised S.desk.work expanding.work S.desk.bits.words bits_here phase led;
            spare = p.spare;
            side = p.side;
          }

      pub grew_rises : IsLe R.monoid above.index now
      grew_rises = led_rises R laws S.tree.region part_here choice_here (made + 1) above.trail above.index leads_here raised S.desk.work expanding.work S.desk.bits.words bits_here phase led

    -- where the row got a column, the child is solved
    pub grew_solved : (G : Forest V) (last : Option ℕ) (now : V) (after : List (Option ℕ)) (row : ℕ)
        → IsBranch R.monoid R.difference (stage_of (masked_reduced S.desk.work S.desk.bits.words) (slice_set (slot_at R.monoid.unit S.slots.used (S.given - 1)).matching row None) S.tree.region) (stage_of (masked_reduced S.desk.work S.desk.bits.words) after G) now above.trail last row
        → IsSolved R G part_next last now after
    grew_solved G last now after row branched =
        let solved = node_solved R X count made S expanding.growing in
        let matching = (slot_at R.monoid.unit S.slots.used (S.given - 1)).matching in
        solved_child R laws S.tree.region part_here choice_here (made + 1) above.trail above.index leads_here raised S.desk.work expanding.work S.desk.bits.words bits_here row branched
        (λ r h other.
        let x = Some-from_test (get_or matching r None) (solved.all r h) in
        ap is_some (Matches-set_other matching row None r x.0 other x.1))

    -- the Hall set of the rows that have too few cells left is one of the child
    pub grew_hall : ((Z : Problem) (free : V) (enter : Cost → V) (r c : ℕ) → is_some (square_cell Z free enter r c) ≡ has_cell Z Whole r c) → (set : List ℕ)
        → GivesHallSets X (IsPresent (cell_at (masked_grid S.desk.work.now S.desk.bits.words))) set → IsHall part_next Whole set
    grew_hall presence set gives =
        let square = masked_child R laws S.tree.region part_here choice_here (made + 1) above.trail above.index leads_here raised S.desk.work expanding.work S.desk.bits.words bits_here in
        gives part_next Whole (node_rows R X count made S expanding.growing) (node_columns R X count made S expanding.growing) (node_place R X count made S expanding.growing)
        (λ r c.
        let e : is_some (cell_at (masked_grid S.desk.work.now S.desk.bits.words) r c) ≡ has_cell part_next Whole r c =
        ap (λ (cells : ℕ → ℕ → Option V). is_some (cells r c)) square
        ∙ is_some-phases R.monoid R.difference (phases_to S.tree.region above.trail) (square_cell part_next R.monoid.unit R.enter) r c
        ∙ presence part_next R.monoid.unit R.enter r c in
        (λ h. sym e ∙ h, λ h. e ∙ h))

    module _ (less : made < placed X) where
      spare_one : 1 ≤ (S.slots.room - S.given) * placed X - made
      spare_one = one_spare S.slots.room S.given (placed X) made expanding.less less

      live : AreLive R.monoid.unit S.tree
      live n from within = (expanding.growing.search.tree.nodes n from within).leads.live

      indexes : (n : ℕ) → 1 ≤ n → n ≤ length S.tree.entries.items → IsValue R.monoid (entry_at R.monoid.unit S.tree.entries.items n).index
      indexes n from within =
          led_value S.tree.region (expanding.growing.search.part n) (entry_at R.monoid.unit S.tree.entries.items n).trail (entry_at R.monoid.unit S.tree.entries.items n).index
          (expanding.growing.search.tree.nodes n from within).leads

      halls_same : (H : HallSets) → H ≡ S.tree.halls → KeepsHalls S.tree.halls H
      halls_same H e = record {
        kept = λ h below. subst (λ (K : HallSets). h < length K.sets) (sym e) below;
        same = λ h below. ap (λ (K : HallSets). hall_at K h) e;
      }

      -- the slots of the answers go up to the index of the node
      answers_upto : (j : ℕ) → j < length (given_of S) → IsLe R.monoid (slot_at R.monoid.unit S.slots.used j).index above.index
      answers_upto j h =
          let last = S.given - 1 in
          let slots = expanding.growing.search.kept in
          let few = slots.few in
          let below = last_less R X count made S expanding.growing in
          let count_is = given_count R X count made S expanding.growing in
          let here = slots.each last (omega (arith, few, below)) in
          subst (IsLe R.monoid (slot_at R.monoid.unit S.slots.used j).index) here.index_is
          (⊎_elim
          (λ (early : j < last). slots.ascends j last early (omega (arith, few, below)))
          (λ (late : last ≤ j).
          let same : j ≡ last = omega (arith, late, h, count_is) in
          subst (λ n. IsLe R.monoid (slot_at R.monoid.unit S.slots.used n).index (slot_at R.monoid.unit S.slots.used last).index) (sym same)
          (reflexive R.monoid laws (slot_at R.monoid.unit S.slots.used last).index (slots.values last (slot_of 0 R.monoid.unit []) (omega (arith, few, below)))))
          (cases_lt j last))

      module _ (tree : Tree V) (desk : Desk V) (capacity : vec_capacity tree.entries ≡ vec_capacity S.tree.entries) (stays : DeskStays (square_side X) S.desk desk) where
        bits_stay : AreBitsFor (square_side X) (kept_for X made S) desk.bits
        bits_stay = subst (AreBitsFor (square_side X) (kept_for X made S)) (sym stays.bits) expanding.bits

        -- the child was left open
        pub child_left : (trail : Option ℕ) (index : V) → tree.entries.items ≡ S.tree.entries.items ++ entry_of node (made + 1) Open trail index ∷ []
            → Grew tree.region trail index → tree.halls ≡ S.tree.halls → IsBehind R.monoid S.slots index
            → IsExpanding R X count (made + 1) (kept_for X made S) (record S { tree = tree; desk = desk })
        child_left trail index entries grew halls behind =
            let growing = expanding.growing in
            let e = entry_of node (made + 1) Open trail index in
            let kept = slots_stay R laws (length (given_of S)) S.tree tree growing.search.part e entries grew.keeps live indexes S.slots growing.search.kept (λ is. behind) in
            let memory = memory_with X S growing.memory tree S.slots desk refl refl growing.memory.used_fit grew.side (ap (λ (H : HallSets). H.width) halls) stays.is in
            let one = spare_one in
            let phases = growing.nodes_fit.phases_fit in
            let sets = growing.nodes_fit.halls_fit in
            let spare = grew.spare in
            let count_is : length tree.halls.sets ≡ length S.tree.halls.sets = ap (λ (H : HallSets). length H.sets) halls in
            let most : tree.halls.most ≡ S.tree.halls.most = ap (λ (H : HallSets). H.most) halls in
            expanding_more R X count made S growing less tree S.slots desk e entries grew.keeps (halls_same tree.halls halls)
            (next_open R X count made S growing less tree.region tree.halls trail index grew.leads grew.next)
            kept (λ j h. refl) refl memory capacity (omega (arith, one, phases, spare)) (omega (arith, one, sets, count_is, most)) stays.work stays.node
            (kept_for X made S) (kept_for X made S) expanding refl bits_stay refl (node_from R X count made S growing) (node_there R X count made S growing)

        -- the child has its best choice, and was offered a slot
        pub child_kept : (slots : SlotList V) (matching : List (Option ℕ)) (trail : Option ℕ) (index : V) → tree.entries.items ≡ S.tree.entries.items ++ entry_of node (made + 1) Open trail index ∷ []
            → Grew tree.region trail index → tree.halls ≡ S.tree.halls → slots.side ≡ S.slots.side → slots.room ≡ S.slots.room
            → Offers R.monoid S.slots (slot_of (length S.tree.entries.items + 1) index matching) slots
            → IsSolved R tree.region part_next trail index matching → IsLe R.monoid above.index index
            → IsExpanding R X count (made + 1) (kept_for X made S) (record S { tree = tree; slots = slots; desk = desk })
        child_kept slots matching trail index entries grew halls side room offers solved rises =
            let growing = expanding.growing in
            let e = entry_of node (made + 1) Open trail index in
            let value = led_value tree.region part_next trail index grew.leads in
            let value_above = indexes node (node_from R X count made S growing) (node_there R X count made S growing) in
            let few = growing.search.kept.few in
            let below = last_less R X count made S growing in
            let count_given = given_count R X count made S growing in
            let room_left = expanding.less in
            let rising : (j : ℕ) → j < length (given_of S) → IsLe R.monoid (slot_at R.monoid.unit S.slots.used j).index index =
            λ j h. laws.transitive (slot_at R.monoid.unit S.slots.used j).index above.index index (growing.search.kept.values j (slot_of 0 R.monoid.unit []) (omega (arith, h, few))) value_above value (answers_upto j h) rises in
            let both = slots_offered R laws (length (given_of S)) S.tree tree growing.search.part e entries grew.keeps live indexes S.slots growing.search.kept matching refl value
            (subst (λ Z. IsSolved R tree.region Z trail index matching) (sym (next_part R X count made S growing less)) solved) rising slots room (omega (arith, count_given, room_left)) offers in
            let memory = memory_with X S growing.memory tree slots desk room side (offered_fit R.monoid S.slots (slot_of (length S.tree.entries.items + 1) index matching) slots offers room) grew.side (ap (λ (H : HallSets). H.width) halls) stays.is in
            let one = spare_one in
            let phases = growing.nodes_fit.phases_fit in
            let sets = growing.nodes_fit.halls_fit in
            let spare = grew.spare in
            let count_is : length tree.halls.sets ≡ length S.tree.halls.sets = ap (λ (H : HallSets). length H.sets) halls in
            let most : tree.halls.most ≡ S.tree.halls.most = ap (λ (H : HallSets). H.most) halls in
            expanding_more R X count made S growing less tree slots desk e entries grew.keeps (halls_same tree.halls halls)
            (next_open R X count made S growing less tree.region tree.halls trail index grew.leads grew.next)
            both.0 both.1 room memory capacity (omega (arith, one, phases, spare)) (omega (arith, one, sets, count_is, most)) stays.work stays.node
            (kept_for X made S) (kept_for X made S) expanding refl bits_stay (ap (λ (x : Slot V). x.node) (both.1 (S.given - 1) below)) (node_from R X count made S growing) (node_there R X count made S growing)

        -- the child has no choice
        pub child_empty : (set : List ℕ) → tree.entries.items ≡ S.tree.entries.items ++ entry_of node (made + 1) (Empty (length S.tree.halls.sets)) above.trail above.index ∷ []
            → tree.region ≡ S.tree.region → tree.halls ≡ record S.tree.halls { sets = S.tree.halls.sets ++ set ∷ [] } → IsHall part_next Whole set → ((g : List (Option ℕ)) → IsValid part_next g → ⊥)
            → IsExpanding R X count (made + 1) (kept_for X made S) (record S { tree = tree; desk = desk })
        child_empty set entries region halls hall none =
            let growing = expanding.growing in
            let h = length S.tree.halls.sets in
            let e = entry_of node (made + 1) (Empty h) above.trail above.index in
            let grew : Grew tree.region above.trail above.index = subst (λ G. Grew G above.trail above.index) (sym region) grew_none in
            let total : length tree.halls.sets ≡ h + 1 = ap (λ (H : HallSets). length H.sets) halls ∙ (let a = length-append S.tree.halls.sets (set ∷ []) in let e : length (S.tree.halls.sets ++ set ∷ []) ≡ h + 1 = omega (arith, a) in e) in
            let most : tree.halls.most ≡ S.tree.halls.most = ap (λ (H : HallSets). H.most) halls in
            let keeps : KeepsHalls S.tree.halls tree.halls = record {
              kept = λ p below. omega (arith, below, total);
              same = λ p below. ap (λ (H : HallSets). hall_at H p) halls ∙ get_or_append_left S.tree.halls.sets (set ∷ []) [] p below;
            } in
            let here : hall_at tree.halls h ≡ set = ap (λ (H : HallSets). hall_at H h) halls ∙ get_or-append_seam S.tree.halls.sets set [] [] in
            let kept = slots_stay R laws (length (given_of S)) S.tree tree growing.search.part e entries grew.keeps live indexes S.slots growing.search.kept (λ is. absurd (empty_open h is)) in
            let memory = memory_with X S growing.memory tree S.slots desk refl refl growing.memory.used_fit grew.side (ap (λ (H : HallSets). H.width) halls) stays.is in
            let one = spare_one in
            let phases = growing.nodes_fit.phases_fit in
            let sets = growing.nodes_fit.halls_fit in
            let spare = grew.spare in
            expanding_more R X count made S growing less tree S.slots desk e entries grew.keeps keeps
            (next_empty R X count made S growing less tree.region tree.halls h above.index grew.leads (omega (arith, total)) (subst (IsHall part_next Whole) (sym here) hall) none)
            kept (λ j below. refl) refl memory capacity (omega (arith, one, phases, spare)) (omega (arith, one, sets, total, most)) stays.work stays.node
            (kept_for X made S) (kept_for X made S) expanding refl bits_stay refl (node_from R X count made S growing) (node_there R X count made S growing)
          where
            empty_open : (h : ℕ) → Empty h ≡ Open → ⊥
            empty_open h e = absurd (false≢true (ap is_open_state e))
