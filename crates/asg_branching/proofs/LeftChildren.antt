-- The children of a node, where none of them can be kept: they are left open.
use Rattle.asg_branching.proofs.Common.{◌≡◌, ℕ, ◌+◌, ◌-◌, ◌<◌, ◌≤◌, List, [], ◌∷◌, ◌++◌, length, vec_capacity, sym, refl, ap, ◌∙◌, subst, inl, ⊎_elim, arith, cases_lt, IsGrowing, IsLastBehind, last_winner, given_of, IsBehind, Search, AreLive, slots_stay, placed, Problem, entry_at, entry_of, child_number, HallSets, hall_at, Rules, Leads, KeepsTrails, slot_at, AreUpTo, given_at, Entry, Open, Tree, KeepsHalls, entry_before, entry_last, last_greatest, IsValue, IsOrderedMonoid, Forest, trail_at, child}
use Rattle.asg_branching.proofs.Branched.{leads_child}
use Rattle.asg_branching.proofs.ChildSearches.{growing_more}
use Rattle.asg_branching.proofs.DeskSteps.{memory_with}
use Rattle.asg_branching.proofs.GrowCases.{Raises, given_count, last_less, node_from, node_there, next_number, node_leads, raised_child, next_open}
use Rattle.asg_branching.proofs.GrowOutcomes.{led_value}

-- where there is room for no more answers, the index of the last answer's node is behind all slots
pub behind_last : {V : Type 0} (R : Rules V) → IsOrderedMonoid R.monoid → (X : Problem) (count made : ℕ) (S : Search V) → IsGrowing R X count made S → S.given ≡ S.slots.room → IsLastBehind R.monoid S
behind_last R laws X count made S growing full =
    let slots = growing.search.kept in
    let few = slots.few in
    let fit = growing.memory.used_fit in
    let counted = given_count R X count made S growing in
    let below = last_less R X count made S growing in
    let all : length S.slots.used ≡ S.slots.room = omega (arith, few, fit, counted, full) in
    let last : length S.slots.used - 1 ≡ S.given - 1 = omega (arith, all, full) in
    let some : 1 ≤ length S.slots.used = omega (arith, few, below) in
    let here = slots.each (S.given - 1) (omega (arith, few, below)) in
    record {
      full = all;
      upto = subst (λ z. AreUpTo R.monoid z S.slots.used) (ap (λ n. (slot_at R.monoid.unit S.slots.used n).index) last ∙ here.index_is)
          (last_greatest R.monoid laws S.slots.used some slots.values slots.ascends);
    }

module _ {V : Type 0} (R : Rules V) (laws : IsOrderedMonoid R.monoid) (raises : Raises R) (X : Problem) (count made : ℕ) (S : Search V) (growing : IsGrowing R X count made S) (behind : IsLastBehind R.monoid S) where
  abbrev pub above : Entry V
  above = entry_at R.monoid.unit S.tree.entries.items (last_winner R.monoid.unit S)

  module _ (less : made < placed X) (tree : Tree V) (entries : tree.entries.items ≡ S.tree.entries.items ++ entry_of (last_winner R.monoid.unit S) (made + 1) Open above.trail above.index ∷ [])
    where
      -- one more child was left
      pub left_more : vec_capacity tree.entries ≡ vec_capacity S.tree.entries → tree.region ≡ S.tree.region → tree.halls ≡ S.tree.halls → IsGrowing R X count (made + 1) (record S { tree = tree })
      left_more capacity region halls =
          let e = entry_of (last_winner R.monoid.unit S) (made + 1) Open above.trail above.index in
          let part = growing.search.part (last_winner R.monoid.unit S) in
          let f = given_at (given_of S) (S.given - 1) in
          let keeps : KeepsTrails S.tree.region tree.region = λ t live. ap (λ (F : Forest V). trail_at F t) region in
          let keeps_halls : KeepsHalls S.tree.halls tree.halls = record {
            kept = λ h below. subst (λ (K : HallSets). h < length K.sets) (sym halls) below;
            same = λ h below. ap (λ (K : HallSets). hall_at K h) halls;
          } in
          let live : AreLive R.monoid.unit S.tree = λ n from within. (growing.search.tree.nodes n from within).leads.live in
          let indexes : (n : ℕ) → 1 ≤ n → n ≤ length S.tree.entries.items → IsValue R.monoid (entry_at R.monoid.unit S.tree.entries.items n).index =
          λ n from within. led_value R laws S.tree.region (growing.search.part n) (entry_at R.monoid.unit S.tree.entries.items n).trail (entry_at R.monoid.unit S.tree.entries.items n).index (growing.search.tree.nodes n from within).leads in
          let leads : Leads R tree.region (child part f (made + 1)) above.trail above.index =
          subst (λ F. Leads R F (child part f (made + 1)) above.trail above.index) (sym region)
          (leads_child R laws S.tree.region part f (made + 1) above.trail above.index (node_leads R X count made S growing) (raised_child R X count made S growing laws raises)) in
          let kept = slots_stay R laws (length (given_of S)) S.tree tree growing.search.part e entries keeps live indexes S.slots growing.search.kept (λ is. behind) in
          let memory = memory_with X S growing.memory tree S.slots S.desk refl refl growing.memory.used_fit (ap (λ (F : Forest V). F.side) region) (ap (λ (H : HallSets). H.width) halls) growing.memory.desk in
          let phases = growing.nodes_fit.phases_fit in
          let sets = growing.nodes_fit.halls_fit in
          let spare : tree.region.spare ≡ S.tree.region.spare = ap (λ (F : Forest V). F.spare) region in
          let count_is : length tree.halls.sets ≡ length S.tree.halls.sets = ap (λ (H : HallSets). length H.sets) halls in
          let most : tree.halls.most ≡ S.tree.halls.most = ap (λ (H : HallSets). H.most) halls in
          growing_more R X count made S growing less tree S.slots S.desk e entries keeps keeps_halls
          (next_open R X count made S growing less tree.region tree.halls above.trail above.index leads (inl refl))
          kept (λ j h. refl) refl memory capacity (omega (arith, phases, spare)) (omega (arith, sets, count_is, most)) refl refl

      -- and is open, as those before it
      pub open_more : ((i : ℕ) → 1 ≤ i → i < made + 1 → (entry_at R.monoid.unit S.tree.entries.items (child_number (placed X) (S.given - 1) i)).state ≡ Open)
          → (i : ℕ) → 1 ≤ i → i < made + 1 + 1 → (entry_at R.monoid.unit tree.entries.items (child_number (placed X) (S.given - 1) i)).state ≡ Open
      open_more before i from upto =
          let e = entry_of (last_winner R.monoid.unit S) (made + 1) Open above.trail above.index in
          let next = next_number R X count made S growing in
          ap (λ (xs : List (Entry V)). (entry_at R.monoid.unit xs (child_number (placed X) (S.given - 1) i)).state) entries
          ∙ ⊎_elim
          (λ (early : i < made + 1).
          ap (λ (x : Entry V). x.state) (entry_before R.monoid.unit S.tree.entries.items e (child_number (placed X) (S.given - 1) i) (omega arith) (omega (arith, next, early)))
          ∙ before i from early)
          (λ (late : made + 1 ≤ i).
          let same : child_number (placed X) (S.given - 1) i ≡ length S.tree.entries.items + 1 = omega (arith, next, late, upto) in
          ap (λ n. (entry_at R.monoid.unit (S.tree.entries.items ++ e ∷ []) n).state) same ∙ ap (λ (x : Entry V). x.state) (entry_last R.monoid.unit S.tree.entries.items e))
          (cases_lt i (made + 1))

module _ {V : Type 0} (R : Rules V) (laws : IsOrderedMonoid R.monoid) (raises : Raises R) (X : Problem) (count branch : ℕ) (from : 1 ≤ branch) (S : Search V) (growing : IsGrowing R X count (branch - 1) S) (upto : branch ≤ placed X)
    (node : ℕ) (x : Entry V) (node_is : node ≡ last_winner R.monoid.unit S) (x_is : entry_at R.monoid.unit S.tree.entries.items node ≡ x) (behind : IsBehind R.monoid S.slots x.index)
    (tree : Tree V) (entries : tree.entries.items ≡ S.tree.entries.items ++ entry_of node branch Open x.trail x.index ∷ [])
  where
    back : branch ≡ branch - 1 + 1
    back = omega (arith, from)

    before : branch - 1 < placed X
    before = omega (arith, from, upto)

    entry_is : x ≡ entry_at R.monoid.unit S.tree.entries.items (last_winner R.monoid.unit S)
    entry_is = sym x_is ∙ ap (entry_at R.monoid.unit S.tree.entries.items) node_is

    behind_here : IsLastBehind R.monoid S
    behind_here = subst (λ (y : Entry V). IsBehind R.monoid S.slots y.index) entry_is behind

    entries_are : tree.entries.items ≡ S.tree.entries.items ++ entry_of (last_winner R.monoid.unit S) (branch - 1 + 1) Open (entry_at R.monoid.unit S.tree.entries.items (last_winner R.monoid.unit S)).trail (entry_at R.monoid.unit S.tree.entries.items (last_winner R.monoid.unit S)).index ∷ []
    entries_are = entries ∙ (λ i. S.tree.entries.items ++ entry_of (node_is i) (back i) Open (entry_is i).trail (entry_is i).index ∷ [])

    -- the child by this branch was left
    pub left_next : vec_capacity tree.entries ≡ vec_capacity S.tree.entries → tree.region ≡ S.tree.region → tree.halls ≡ S.tree.halls → IsGrowing R X count (branch + 1 - 1) (record S { tree = tree })
    left_next capacity region halls =
        let next : branch - 1 + 1 ≡ branch + 1 - 1 = omega (arith, from) in
        subst (λ n. IsGrowing R X count n (record S { tree = tree })) next
        (left_more R laws raises X count (branch - 1) S growing behind_here before tree entries_are capacity region halls)

    pub open_next : ((i : ℕ) → 1 ≤ i → i < branch → (entry_at R.monoid.unit S.tree.entries.items (child_number (placed X) (S.given - 1) i)).state ≡ Open)
        → (i : ℕ) → 1 ≤ i → i < branch + 1 → (entry_at R.monoid.unit tree.entries.items (child_number (placed X) (S.given - 1) i)).state ≡ Open
    open_next all i low high =
        open_more R laws raises X count (branch - 1) S growing behind_here before tree entries_are
        (λ j h below. all j h (omega (arith, below, from))) i low (omega (arith, high, from))

    -- the parent stays
    pub parent_next : (unit : V) → entry_at unit tree.entries.items node ≡ entry_at unit S.tree.entries.items node
    parent_next unit =
        let there = node_there R X count (branch - 1) S growing in
        let first = node_from R X count (branch - 1) S growing in
        let e = entry_of node branch Open x.trail x.index in
        ap (λ (xs : List (Entry V)). entry_at unit xs node) entries ∙ entry_before unit S.tree.entries.items e node (omega (arith, first, node_is)) (omega (arith, there, node_is))
