-- What is known of the next child while it is made.
use Rattle.asg_branching.proofs.Common.{◌≡◌, ℕ, ◌+◌, ◌-◌, ◌*◌, ◌<◌, ◌≤◌, List, length, Option, sym, refl, ap, ◌∙◌, subst, inl, inr, arith, length-take-le, IsGrowing, IsExpanding, kept_for, last_winner, winner_in, given_of, Search, placed, IsHall, Problem, square_side, IsValid, Whole, entry_at, entry_of, child_number, IsNext, HallSets, hall_at, Rules, Leads, IsSolved, slot_at, given_at, Entry, Open, Empty, IsNextChild, part_live, part_rows, part_columns, part_place, same_side, same_keeps, IsValue, IsOrderedMonoid, Forest, EntersValues, IsRaised, ProvesIndex, PhaseOf, index_of, child, keeps_cell, keeps}
use Rattle.asg_rankings.specs.laws.ChildFolds.{IsRaised-child, live-in_child}
use Rattle.asg_branching.proofs.Branched.{LeadsChild}

-- phases prove of an instance with raised cells what they prove of the instance
abbrev pub Raises : {V : Type 0} → Rules V → Type 0
Raises {V} R = (Y Z : Problem) (phases : List (PhaseOf V)) (z : V) → EntersValues R.monoid R.enter Y → EntersValues R.monoid R.enter Z → IsRaised R.monoid R.enter Y Z
    → ProvesIndex R.monoid R.difference R.enter Y phases z → ProvesIndex R.monoid R.difference R.enter Z phases z

-- so they prove it of a child
pub leads_to_child : {V : Type 0} (R : Rules V) (laws : IsOrderedMonoid R.monoid) (raises : Raises R) (Y : Problem) (f : List (Option ℕ)) (branch : ℕ) → EntersValues R.monoid R.enter Y → LeadsChild R Y (child Y f branch)
leads_to_child R laws raises Y f branch enters phases admitted =
    (raises Y (child Y f branch) phases (index_of R.monoid phases) enters (live-in_child (λ cost. IsValue R.monoid (R.enter cost)) Y f branch enters) (IsRaised-child R.monoid laws R.enter Y f branch enters) (record { admitted = admitted; index = refl })).admitted

module _ {V : Type 0} (R : Rules V) (X : Problem) (count made : ℕ) (S : Search V) (growing : IsGrowing R X count made S) where
  abbrev pub given : List (List (Option ℕ))
  given = given_of S

  -- the place of the last answer, its node, and its choice
  abbrev pub last : ℕ
  last = S.given - 1

  abbrev pub node : ℕ
  node = last_winner R.monoid.unit S

  abbrev pub chosen : List (Option ℕ)
  chosen = given_at (given_of S) (S.given - 1)

  pub given_count : length (given_of S) ≡ S.given
  given_count = length-take-le S.given S.choices.items (let fit = growing.memory.given_fit in let c = growing.memory.choices_fit in omega (arith, fit, c))

  pub last_less : last < length (given_of S)
  last_less = let c = given_count in let s = growing.some in omega (arith, c, s)

  before : (a : ℕ) → a < length (given_of S) → (1 ≤ winner_in R.monoid.unit S.slots.used a) × (winner_in R.monoid.unit S.slots.used a ≤ 1 + a * placed X)
  before a h = let w = growing.search.tree.winners a h in (w.from, w.upto)

  pub node_from : 1 ≤ node
  node_from = (growing.search.tree.winners last last_less).from

  pub node_there : node ≤ length S.tree.entries.items
  node_there = (growing.search.tree.winners last last_less).there

  node_upto : node ≤ 1 + length (given_of S) * placed X
  node_upto = let few = growing.search.tree.few in let h = node_there in omega (arith, few, h)

  -- the next child is that of the node by the next branch
  pub next_number : length S.tree.entries.items + 1 ≡ child_number (placed X) last (made + 1)
  next_number = let e = growing.made_are in omega (arith, e)

  pub next_part : made < placed X → growing.search.part (length S.tree.entries.items + 1) ≡ child (growing.search.part node) chosen (made + 1)
  next_part less =
      ap growing.search.part next_number
      ∙ growing.search.tree.parts.children last (made + 1) last_less (omega arith) (omega (arith, less))

  pub node_leads : Leads R S.tree.region (growing.search.part node) (entry_at R.monoid.unit S.tree.entries.items node).trail (entry_at R.monoid.unit S.tree.entries.items node).index
  node_leads = (growing.search.tree.nodes node node_from node_there).leads

  pub node_enters : EntersValues R.monoid R.enter (growing.search.part node)
  node_enters = part_live X (given_of S) (winner_in R.monoid.unit S.slots.used) growing.search.part growing.search.tree.parts before node node_from node_upto (λ cost. IsValue R.monoid (R.enter cost)) growing.rankable.enters

  pub node_rows : (growing.search.part node).rows ≡ X.rows
  node_rows = part_rows X (given_of S) (winner_in R.monoid.unit S.slots.used) growing.search.part growing.search.tree.parts before node node_from node_upto

  pub node_columns : (growing.search.part node).columns ≡ X.columns
  node_columns = part_columns X (given_of S) (winner_in R.monoid.unit S.slots.used) growing.search.part growing.search.tree.parts before node node_from node_upto

  pub node_place : (growing.search.part node).place ≡ X.place
  node_place = part_place X (given_of S) (winner_in R.monoid.unit S.slots.used) growing.search.part growing.search.tree.parts before node node_from node_upto

  pub node_side : square_side (growing.search.part node) ≡ square_side X
  node_side = same_side X (growing.search.part node) node_rows node_columns node_place

  pub raised_child : IsOrderedMonoid R.monoid → Raises R → LeadsChild R (growing.search.part node) (child (growing.search.part node) chosen (made + 1))
  raised_child laws raises = leads_to_child R laws raises (growing.search.part node) chosen (made + 1) node_enters

  -- the matching of the node's choice
  pub node_solved : IsSolved R S.tree.region (growing.search.part node) (entry_at R.monoid.unit S.tree.entries.items node).trail (entry_at R.monoid.unit S.tree.entries.items node).index (slot_at R.monoid.unit S.slots.used last).matching
  node_solved =
      let few = growing.search.kept.few in
      let less = last_less in
      let slot = growing.search.kept.each last (omega (arith, few, less)) in
      subst (λ z. IsSolved R S.tree.region (growing.search.part node) (entry_at R.monoid.unit S.tree.entries.items node).trail z (slot_at R.monoid.unit S.slots.used last).matching) slot.index_is slot.solved

module _ {V : Type 0} (R : Rules V) (X : Problem) (count made : ℕ) (S : Search V) (expanding : IsExpanding R X count made (kept_for X made S) S) where
  -- the bits tell which cells of the node's part the next branch keeps
  pub branch_bits : (r k : ℕ) → r < square_side (expanding.growing.search.part (last_winner R.monoid.unit S)) → k < square_side (expanding.growing.search.part (last_winner R.monoid.unit S)) → keeps S.desk.work.now.side S.desk.bits.words r k ≡ keeps_cell (expanding.growing.search.part (last_winner R.monoid.unit S)) (given_at (given_of S) (S.given - 1)) (made + 1) r k
  branch_bits r k hr hk =
      let growing = expanding.growing in
      let side = node_side R X count made S growing in
      let Y = growing.search.part (last_winner R.monoid.unit S) in
      ap (λ n. keeps n S.desk.bits.words r k) (expanding.work.labels.side ∙ side ∙ sym expanding.bits.columns)
      ∙ expanding.bits.each r k (subst (λ n. r < n) side hr) (subst (λ n. k < n) side hk)
      ∙ sym (same_keeps X Y (node_rows R X count made S growing) (node_columns R X count made S growing) (node_place R X count made S growing) (given_at (given_of S) (S.given - 1)) (made + 1) r k)

module _ {V : Type 0} (R : Rules V) (X : Problem) (count made : ℕ) (S : Search V) (growing : IsGrowing R X count made S) (less : made < placed X) where
  abbrev next_child : Problem
  next_child = child (growing.search.part (last_winner R.monoid.unit S)) (given_at (given_of S) (S.given - 1)) (made + 1)

  abbrev IsNextEntry : Forest V → HallSets → Entry V → Type 0
  IsNextEntry F halls e = IsNextChild R X (given_of S) (winner_in R.monoid.unit S.slots.used) S.tree F halls growing.search.part (S.given - 1) (made + 1) e

  -- the next child, left open
  pub next_open : (F : Forest V) (halls : HallSets) (trail : Option ℕ) (index : V) → Leads R F next_child trail index → IsNext F (entry_at R.monoid.unit S.tree.entries.items (last_winner R.monoid.unit S)).trail trail → IsNextEntry F halls (entry_of (last_winner R.monoid.unit S) (made + 1) Open trail index)
  next_open F halls trail index leads next = record {
    less = last_less R X count made S growing;
    from = omega arith;
    upto = omega (arith, less);
    is = next_number R X count made S growing;
    node = record {
      leads = subst (λ Y. Leads R F Y trail index) (sym (next_part R X count made S growing less)) leads;
      state_is = tt;
    };
    child_of = record { parent_is = refl; branch_is = refl; next = next; empty = tt };
    open_or_empty = inl refl;
  }

  -- and where it has no choice
  pub next_empty : (F : Forest V) (halls : HallSets) (h : ℕ) (index : V) → Leads R F next_child (entry_at R.monoid.unit S.tree.entries.items (last_winner R.monoid.unit S)).trail index → h < length halls.sets → IsHall next_child Whole (hall_at halls h) → ((g : List (Option ℕ)) → IsValid next_child g → ⊥) → IsNextEntry F halls (entry_of (last_winner R.monoid.unit S) (made + 1) (Empty h) (entry_at R.monoid.unit S.tree.entries.items (last_winner R.monoid.unit S)).trail index)
  next_empty F halls h index leads there hall none = record {
    less = last_less R X count made S growing;
    from = omega arith;
    upto = omega (arith, less);
    is = next_number R X count made S growing;
    node = record {
      leads = subst (λ Y. Leads R F Y (entry_at R.monoid.unit S.tree.entries.items (last_winner R.monoid.unit S)).trail index) (sym (next_part R X count made S growing less)) leads;
      state_is = (there, subst (λ Y. IsHall Y Whole (hall_at halls h)) (sym (next_part R X count made S growing less)) hall);
    };
    child_of = record { parent_is = refl; branch_is = refl; next = inl refl; empty = refl };
    open_or_empty = inr (λ g valid. none g (subst (λ Y. IsValid Y g) (next_part R X count made S growing less) valid));
  }
