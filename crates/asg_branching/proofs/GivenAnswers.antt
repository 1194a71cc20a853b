-- The kept node of the least index: where its matching stands, and the choice that it gives.
use Rattle.asg_branching.proofs.Common.{◌≡◌, ℕ, ◌+◌, ◌*◌, ◌<◌, ◌≤◌, Bool, true, false, cond, ◌↔◌, List, map, length, set, is_some, IfSome, IsSome, slice_get, slice_index, Some, None, All, Option, option_and_then, sym, refl, ap, ◌∙◌, subst, arith, length-set, All-map, All-set, length-map-range_with_len, Reduced, IsChosenBy, IsLeastNew, winner_in, given_of, IsAnswer, IsDesk, IsReady, HasMemory, Search, IsAbsorbed, Matches, IsPerfect, placed, IsInstance, live_at, Problem, square_side, IsValid, costs_of, Whole, Cost, entry_at, HallSets, Rules, IsSolved, Leads, IsReducedTo, SlotList, slot_at, Entry, fold_is, AreBefore, part_keeps, part_instance, part_rows, part_columns, part_place, part_live, part_fold, same_side, costs_fold, choice_fold, Monoid, IsValue, IsLe, IsOrderedMonoid, fold_of, fold_is_value, Forest, phases_to, EntersValues, ProvesIndex, PhaseOf, AreAdmittedPhases, after_phases, index_of, HasSide, HasValues, assignment_fold, is_some-phases, keeps_cell, square_cell-child, IsAssignment, IsPresent, IsSquareChoice, choice_of, square_cell, assignment_values, Grid, cell_at, IsWithinSquareOf, IsPerm, grid_chosen, grid_choice, has_cell}
use Rattle.asg_match.specs.laws.Choices.{costs_each}
use Rattle.asg_branching.proofs.GiveSteps.{within_of, answer_of}
use Rattle.asg_branching.proofs.GivenSearches.{count_given}
use Rattle.asg_branching.proofs.LeastSteps.{least_choice}

some_masked : {V : Type 0} (b : Bool) (o : Option V) → IsSome (cond b o None) → IsSome o
some_masked true o h = h
some_masked false o h = absurd (cc h)

module _ {V : Type 0} (R : Rules V) (laws : IsOrderedMonoid R.monoid) (X : Problem) (enters : EntersValues R.monoid R.enter X) where
  chosen_value : (r : ℕ) (o : Option (Option ℕ)) → IfSome (option_and_then (λ chosen. option_and_then (live_at X r) chosen) o) (λ cost. IsValue R.monoid (R.enter cost))
  chosen_value r None = tt
  chosen_value r (Some None) = tt
  chosen_value r (Some (Some c)) = enters r c

  -- the product of a choice is a value
  pub fold_value : (g : List (Option ℕ)) → IsValue R.monoid (choice_fold R.monoid R.enter X g)
  fold_value g =
      fold_is_value R.monoid laws (map R.enter (costs_of X g))
      (All-map (IsValue R.monoid) R.enter (costs_of X g) (costs_each X g (λ cost. IsValue R.monoid (R.enter cost)) (λ r h. chosen_value r (slice_get g r))))

module _ {V : Type 0} (R : Rules V) (laws : IsOrderedMonoid R.monoid) (X : Problem) (instance : IsInstance X) (count : ℕ) (S : Search V) (ready : IsReady R X count S) (less : S.given < length S.slots.used) where
  abbrev n : ℕ
  n = winner_in R.monoid.unit S.slots.used S.given

  abbrev node : Entry V
  node = entry_at R.monoid.unit S.tree.entries.items n

  abbrev matching : List (Option ℕ)
  matching = (slot_at R.monoid.unit S.slots.used S.given).matching

  pub given_within : S.given < length S.choices.items
  given_within = let m = ready.memory.choices_fit in let u = ready.memory.used_fit in omega (arith, m, less, u)

  counted : length (given_of S) ≡ S.given
  counted = count_given S (let h = given_within in omega (arith, h))

  before : AreBefore (placed X) (length (given_of S)) (winner_in R.monoid.unit S.slots.used)
  before a h = let w = ready.search.tree.winners a h in (w.from, w.upto)

  within : n ≤ 1 + length (given_of S) * placed X
  within = let u = (ready.search.kept.each S.given less).upto in let e = ready.search.tree.upto_is in omega (arith, u, e)

  pub node_from : 1 ≤ n
  node_from = (ready.search.kept.each S.given less).from

  pub node_upto : n ≤ length S.tree.entries.items
  node_upto = (ready.search.kept.each S.given less).upto

  base_is : IsReducedTo R S.tree.region X (entry_at R.monoid.unit S.tree.entries.items 1).trail (entry_at R.monoid.unit S.tree.entries.items 1).index S.base
  base_is = ready.base (omega (arith, less))

  leads : Leads R S.tree.region (ready.search.part n) node.trail node.index
  leads = (ready.search.tree.nodes n node_from node_upto).leads

  solved : IsSolved R S.tree.region (ready.search.part n) node.trail node.index matching
  solved =
      let slot = ready.search.kept.each S.given less in
      subst (λ z. IsSolved R S.tree.region (ready.search.part n) node.trail z matching) slot.index_is slot.solved

  rows_same : (ready.search.part n).rows ≡ X.rows
  rows_same = part_rows X (given_of S) (winner_in R.monoid.unit S.slots.used) ready.search.part ready.search.tree.parts before n node_from within

  columns_same : (ready.search.part n).columns ≡ X.columns
  columns_same = part_columns X (given_of S) (winner_in R.monoid.unit S.slots.used) ready.search.part ready.search.tree.parts before n node_from within

  place_same : (ready.search.part n).place ≡ X.place
  place_same = part_place X (given_of S) (winner_in R.monoid.unit S.slots.used) ready.search.part ready.search.tree.parts before n node_from within

  -- where the part's square has a cell the instance's has one
  present : (r k : ℕ) → IsPresent (square_cell (ready.search.part n) R.monoid.unit R.enter) r k → IsPresent (square_cell X R.monoid.unit R.enter) r k
  present =
      part_keeps X (given_of S) (winner_in R.monoid.unit S.slots.used) ready.search.part ready.search.tree.parts before
      (λ Y. (r k : ℕ) → IsPresent (square_cell Y R.monoid.unit R.enter) r k → IsPresent (square_cell X R.monoid.unit R.enter) r k)
      (λ r k h. h)
      (λ Y f branch up r k h.
      up r k (some_masked (keeps_cell Y f branch r k) (square_cell Y R.monoid.unit R.enter r k)
      (subst (λ (cells : ℕ → ℕ → Option V). IsSome (cells r k)) (square_cell-child Y R.monoid.unit R.enter f branch) h)))
      n node_from within

  matched_present : (r k : ℕ) → Matches matching r k → IsPresent (cell_at S.base.now) r k
  matched_present r k matched =
      let absorbed = solved.cells r k matched in
      let trail = (entry_at R.monoid.unit S.tree.entries.items 1).trail in
      ap is_some (base_is.cells r k)
      ∙ is_some-phases R.monoid R.difference (phases_to S.tree.region trail) (square_cell X R.monoid.unit R.enter) r k
      ∙ present r k
      (sym (is_some-phases R.monoid R.difference (phases_to S.tree.region node.trail) (square_cell (ready.search.part n) R.monoid.unit R.enter) r k)
      ∙ ap is_some absorbed.there)

  -- its matching is a perfect assignment of the square of the instance after the root's phases
  pub perfect_base : IsPerfect (IsPresent (cell_at S.base.now)) S.base.now.side matching
  perfect_base =
      let side : S.base.now.side ≡ square_side (ready.search.part n) = base_is.labels.side ∙ sym (same_side X (ready.search.part n) rows_same columns_same place_same) in
      record {
        rows = solved.rows ∙ sym side;
        columns = solved.columns;
        all = λ r h. solved.all r (subst (λ m. r < m) side h);
        cells = matched_present;
      }

  pub base_rows : S.base.now.rows ≡ length X.rows
  base_rows = base_is.labels.rows

  -- the choice that it gives is over the rows
  pub chosen_over : (f : List (Option ℕ)) → IsChosenBy S.base.now matching f → length f ≡ length X.rows
  chosen_over f chosen = ap length chosen.chosen ∙ length-map-range_with_len (grid_chosen S.base.now chosen.columns) 0 S.base.now.rows ∙ base_rows

  module _ (f : List (Option ℕ)) (chosen : IsChosenBy S.base.now matching f)
      (fold_law : (side : ℕ) (phases : List (PhaseOf V)) (square after : ℕ → ℕ → Option V) (m : List (Option ℕ)) (p : List ℕ) → HasSide side square → HasValues R.monoid side square → AreAdmittedPhases R.monoid R.difference side phases square → ((r k : ℕ) → after r k ≡ after_phases R.monoid R.difference phases square r k) → IsPerfect (IsAbsorbed R.monoid (index_of R.monoid phases) after) side m → length p ≡ side → ((r : ℕ) → r < side → Matches m r (slice_index p r)) → IsAssignment square side p × (assignment_fold R.monoid side square p ≡ index_of R.monoid phases))
      (lower_bound : (Y : Problem) (phases : List (PhaseOf V)) (z : V) (g : List (Option ℕ)) → IsInstance Y → EntersValues R.monoid R.enter Y → ProvesIndex R.monoid R.difference R.enter Y phases z → IsValid Y g → IsLe R.monoid z (choice_fold R.monoid R.enter Y g))
      (choices : (Z : Problem) (free : V) (enter : Cost → V) (g : List (Option ℕ)) → IsInstance Z → IsValid Z g ↔ IsSquareChoice Z free enter g)
      (folds : (M : Monoid V) (Z : Problem) (enter : Cost → V) (p : List ℕ) → IsOrderedMonoid M → IsInstance Z → ((r c : ℕ) → IfSome (live_at Z r c) (λ cost. IsValue M (enter cost))) → IsAssignment (square_cell Z M.unit enter) (square_side Z) p → fold_of M (assignment_values (square_cell Z M.unit enter) (square_side Z) p) ≡ costs_fold M enter (costs_of Z (choice_of Z p)))
      (presence : (Z : Problem) (free : V) (enter : Cost → V) (r c : ℕ) → is_some (square_cell Z free enter r c) ≡ has_cell Z Whole r c)
      (grid : (Z : Problem) (Q : Grid V) (p : List ℕ) → IsInstance Z → IsWithinSquareOf Z Q → IsPerm Q p → grid_choice Q p ≡ choice_of Z p)
    where
      -- the choice is the answer of its slot
      pub given_answer : IsAnswer R X (ready.search.part n) (slot_at R.monoid.unit S.slots.used S.given) f
      given_answer =
          let Y = ready.search.part n in
          let winner = winner_in R.monoid.unit S.slots.used in
          let parts = ready.search.tree.parts in
          let enters = part_live X (given_of S) winner ready.search.part parts before n node_from within (λ cost. IsValue R.monoid (R.enter cost)) ready.rankable.enters in
          let root = (entry_at R.monoid.unit S.tree.entries.items 1).trail in
          answer_of R laws S.tree.region X Y rows_same columns_same place_same ready.rankable.place instance
          (part_instance X (given_of S) winner ready.search.part parts before n node_from within instance)
          enters node.trail node.index leads S.base.now base_is.labels matching f solved chosen
          (slot_at R.monoid.unit S.slots.used S.given, refl, (ready.search.kept.each S.given less).index_is)
          choices folds
          (grid X S.base.now chosen.columns instance (within_of R S.tree.region X root (entry_at R.monoid.unit S.tree.entries.items 1).index S.base base_is (λ free enter r c. presence X free enter r c)) chosen.perm)
          (fold_is R laws S.tree.region Y node.trail node.index leads matching solved chosen.columns chosen.over chosen.matched enters fold_law)
          (λ valid. part_fold X (given_of S) winner ready.search.part parts before n node_from within R.monoid R.enter f valid)

      -- it is new, and best of the choices that weren't given
      pub given_least : IsLeastNew R X (given_of S) f
      given_least =
          let answer =
          subst (λ a. IsAnswer R X (ready.search.part (winner_in R.monoid.unit S.slots.used a)) (slot_at R.monoid.unit S.slots.used a) f) (sym counted) given_answer
          in
          least_choice R laws X instance ready.rankable.enters (given_of S) (winner_in R.monoid.unit S.slots.used) S.tree ready.search.part ready.search.tree
          (fold_value R laws X ready.rankable.enters) lower_bound S.slots ready.search.kept (omega (arith, counted, less)) f answer.valid answer.worth

-- the memory of a search in which one more choice was written
pub memory_given : {V : Type 0} (X : Problem) (S U : Search V) → HasMemory X S → S.given < length S.slots.used → (f : List (Option ℕ)) → length f ≡ length X.rows → U.given ≡ S.given + 1 → U.choices.items ≡ set S.choices.items S.given f → U.slots ≡ S.slots → U.base ≡ S.base → U.tree.region ≡ S.tree.region → U.tree.halls ≡ S.tree.halls → IsDesk (square_side X) U.desk → HasMemory X U
memory_given {V} X S U memory less f over given_is choices_are slots_are base_is region_is halls_are desk =
    let room : U.slots.room ≡ S.slots.room = ap (λ (s : SlotList V). s.room) slots_are in
    let used : length U.slots.used ≡ length S.slots.used = ap (λ (s : SlotList V). length s.used) slots_are in
    let u = memory.used_fit in
    let small = memory.small in
    let times : U.slots.room * placed X ≡ S.slots.room * placed X = ap (λ m. m * placed X) room in
    record {
      given_fit = omega (arith, room, given_is, less, u);
      used_fit = omega (arith, room, used, u);
      small = omega (arith, times, small);
      choices_fit = U.choices.ok.0 ∙ ap length choices_are ∙ length-set S.choices.items S.given f ∙ sym S.choices.ok.0 ∙ memory.choices_fit ∙ sym room;
      choices_over = subst (λ xs. All (λ g. length g ≡ length X.rows) xs) (sym choices_are) (All-set (λ g. length g ≡ length X.rows) S.choices.items S.given f over memory.choices_over);
      slots_side = ap (λ (s : SlotList V). s.side) slots_are ∙ memory.slots_side;
      region_side = ap (λ (F : Forest V). F.side) region_is ∙ memory.region_side;
      base_side = ap (λ (b : Reduced V). b.now.side) base_is ∙ memory.base_side;
      halls_width = subst (λ (h : HallSets). length X.rows ≤ h.width) (sym halls_are) memory.halls_width;
      desk = desk;
    }
