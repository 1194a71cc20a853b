-- The ends of the growth of the next child, told of the node and its entry as they were read.
use Rattle.asg_branching.proofs.Common.{◌≡◌, ℕ, ◌+◌, ◌-◌, ◌<◌, List, [], ◌∷◌, ◌++◌, length, is_some, slice_set, None, vec_capacity, Option, sym, ap, ◌∙◌, subst, IsBranch, IsLeft, IsLed, stage_of, IsExpanding, kept_for, last_winner, IsBehind, Desk, Search, masked_reduced, GivesHallSets, placed, IsHall, Problem, square_side, IsValid, Whole, Cost, entry_at, entry_of, Rules, IsSolved, SlotList, slot_of, slot_at, IsLimit, Offers, Entry, State, Open, Empty, Tree, IsOrderedMonoid, Forest, IsPresent, square_cell, cell_at, masked_grid, has_cell}
use Rattle.asg_branching.proofs.DeskSteps.{DeskStays}
use Rattle.asg_branching.proofs.GrowCases.{Raises}
use Rattle.asg_branching.proofs.GrowOutcomes.{behind_limit, Grows, led_value, grew_none, grew_led, grew_rises, grew_solved, grew_hall, child_left, child_kept, child_empty, part_next}

module _ {V : Type 0} (R : Rules V) (laws : IsOrderedMonoid R.monoid) (raises : Raises R) (X : Problem) (count made : ℕ) (S : Search V) (expanding : IsExpanding R X count made (kept_for X made S) S) (less : made < placed X)
    (n : ℕ) (x : Entry V) (n_is : n ≡ last_winner R.monoid.unit S) (x_is : x ≡ entry_at R.monoid.unit S.tree.entries.items (last_winner R.monoid.unit S))
    (tree : Tree V) (desk : Desk V) (capacity : vec_capacity tree.entries ≡ vec_capacity S.tree.entries) (stays : DeskStays (square_side X) S.desk desk)
  where
    abbrev above : Entry V
    above = entry_at R.monoid.unit S.tree.entries.items (last_winner R.monoid.unit S)

    abbrev Grew : Forest V → Option ℕ → V → Type 0
    Grew G trail index = Grows R S.tree.region G (part_next R laws raises X count made S expanding) above.trail trail index

    entries_with : (s : State) (trail : Option ℕ) (index : V) → tree.entries.items ≡ S.tree.entries.items ++ entry_of n (made + 1) s trail index ∷ [] → tree.entries.items ≡ S.tree.entries.items ++ entry_of (last_winner R.monoid.unit S) (made + 1) s trail index ∷ []
    entries_with s trail index e = e ∙ ap (λ q. S.tree.entries.items ++ entry_of q (made + 1) s trail index ∷ []) n_is

    entries_above : (s : State) → tree.entries.items ≡ S.tree.entries.items ++ entry_of n (made + 1) s x.trail x.index ∷ [] → tree.entries.items ≡ S.tree.entries.items ++ entry_of (last_winner R.monoid.unit S) (made + 1) s above.trail above.index ∷ []
    entries_above s e = entries_with s x.trail x.index e ∙ ap (λ (y : Entry V). S.tree.entries.items ++ entry_of (last_winner R.monoid.unit S) (made + 1) s y.trail y.index ∷ []) x_is

    -- the parent's index was behind all slots already
    pub ends_still : tree.entries.items ≡ S.tree.entries.items ++ entry_of n (made + 1) Open x.trail x.index ∷ [] → tree.region ≡ S.tree.region → tree.halls ≡ S.tree.halls → IsBehind R.monoid S.slots x.index
        → IsExpanding R X count (made + 1) (kept_for X made S) (record S { tree = tree; desk = desk })
    ends_still entries region halls behind =
        child_left R laws raises X count made S expanding less tree desk capacity stays above.trail above.index (entries_above Open entries)
        (subst (λ G. Grew G above.trail above.index) (sym region) (grew_none R laws raises X count made S expanding)) halls
        (subst (λ (y : Entry V). IsBehind R.monoid S.slots y.index) x_is behind)

    module _ (G : Forest V) (region : tree.region ≡ G) (halls : tree.halls ≡ S.tree.halls) (matching after : List (Option ℕ)) (matching_is : matching ≡ (slot_at R.monoid.unit S.slots.used (S.given - 1)).matching) (row : ℕ) (index : V) (last : Option ℕ)
        (entries : tree.entries.items ≡ S.tree.entries.items ++ entry_of n (made + 1) Open last index ∷ [])
      where
        -- the tree was left at the limit
        pub ends_left : (limit : Option V) → IsLimit R.monoid S.slots limit → IsLeft R.monoid R.difference (stage_of (masked_reduced S.desk.work S.desk.bits.words) (slice_set matching row None) S.tree.region) (stage_of (masked_reduced S.desk.work S.desk.bits.words) after G) limit index x.trail last
            → IsExpanding R X count (made + 1) (kept_for X made S) (record S { tree = tree; desk = desk })
        ends_left limit limit_is left =
            let led = subst (λ (y : Entry V). IsLed R.monoid R.difference (masked_reduced S.desk.work S.desk.bits.words) left.phase index S.tree.region G y.trail last) x_is left.led in
            let grew = grew_led R laws raises X count made S expanding left.phase led in
            let value = led_value R laws G (part_next R laws raises X count made S expanding) last index grew.leads in
            child_left R laws raises X count made S expanding less tree desk capacity stays last index (entries_with Open last index entries)
            (subst (λ F. Grew F last index) (sym region) grew) halls
            (behind_limit R.monoid laws S.slots expanding.growing.search.kept.values index value limit limit_is left.far)

        -- the row got a column
        pub ends_kept : (slots : SlotList V) → slots.side ≡ S.slots.side → slots.room ≡ S.slots.room → Offers R.monoid S.slots (slot_of (length S.tree.entries.items + 1) index after) slots
            → IsBranch R.monoid R.difference (stage_of (masked_reduced S.desk.work S.desk.bits.words) (slice_set matching row None) S.tree.region) (stage_of (masked_reduced S.desk.work S.desk.bits.words) after G) index x.trail last row
            → IsExpanding R X count (made + 1) (kept_for X made S) (record S { tree = tree; slots = slots; desk = desk })
        ends_kept slots side room offers branched =
            let there = subst (λ (y : Entry V). IsBranch R.monoid R.difference (stage_of (masked_reduced S.desk.work S.desk.bits.words) (slice_set (slot_at R.monoid.unit S.slots.used (S.given - 1)).matching row None) S.tree.region) (stage_of (masked_reduced S.desk.work S.desk.bits.words) after G) index y.trail last row) x_is
            (subst (λ m. IsBranch R.monoid R.difference (stage_of (masked_reduced S.desk.work S.desk.bits.words) (slice_set m row None) S.tree.region) (stage_of (masked_reduced S.desk.work S.desk.bits.words) after G) index x.trail last row) matching_is branched) in
            let grew = grew_led R laws raises X count made S expanding there.phase there.led in
            let solved = grew_solved R laws raises X count made S expanding G last index after row there in
            child_kept R laws raises X count made S expanding less tree desk capacity stays slots after last index (entries_with Open last index entries)
            (subst (λ F. Grew F last index) (sym region) grew) halls side room offers
            (subst (λ F. IsSolved R F (part_next R laws raises X count made S expanding) last index after) (sym region) solved)
            (grew_rises R laws raises X count made S expanding there.phase there.led)

    -- the row got none
    pub ends_empty : (infeasible : (Z : Problem) (ids : List ℕ) (f : List (Option ℕ)) → IsHall Z Whole ids → IsValid Z f → ⊥) (presence : (Z : Problem) (free : V) (enter : Cost → V) (r c : ℕ) → is_some (square_cell Z free enter r c) ≡ has_cell Z Whole r c)
        → tree.entries.items ≡ S.tree.entries.items ++ entry_of n (made + 1) (Empty (length S.tree.halls.sets)) x.trail x.index ∷ [] → tree.region ≡ S.tree.region
        → (set : List ℕ) × (tree.halls ≡ record S.tree.halls { sets = S.tree.halls.sets ++ set ∷ [] }) × GivesHallSets X (IsPresent (cell_at (masked_grid S.desk.work.now S.desk.bits.words))) set
        → IsExpanding R X count (made + 1) (kept_for X made S) (record S { tree = tree; desk = desk })
    ends_empty infeasible presence entries region sets =
        let hall = grew_hall R laws raises X count made S expanding presence sets.0 sets.2 in
        child_empty R laws raises X count made S expanding less tree desk capacity stays sets.0 (entries_above (Empty (length S.tree.halls.sets)) entries) region sets.1 hall
        (λ g valid. infeasible (part_next R laws raises X count made S expanding) sets.0 g hall valid)
