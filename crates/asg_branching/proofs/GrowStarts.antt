-- Where the next child starts to grow.
use Rattle.asg_branching.proofs.Common.{◌≡◌, ℕ, ◌+◌, ◌-◌, ◌*◌, ◌^◌, ◌<◌, ◌≤◌, max, true, ◌≢◌, List, length, vec_capacity, Option, sym, ap, ◌∙◌, subst, mul-le-mul_right, arith, Branches, Stage, IsGrowing, IsExpanding, kept_for, last_winner, given_of, Search, IsRestOf, Matches, Matches-below, placed, total_capacity, is_active, Problem, square_side, side_by, count_below, row-from_active, entry_at, Rules, slot_at, given_at, add_one_times, same_keeps, Monoid, keeps_cell, keeps}
use Rattle.asg_algebra.specs.declared.branching.Branch.{Branch}
use Rattle.asg_algebra.specs.declared.branching.Branch.TheVariants.{Reached, Left, Short}
use Rattle.asg_branching.proofs.GrowCases.{last_less, node_rows, node_columns, node_place, node_side, node_solved, branch_bits}
use Rattle.asg_branching.proofs.GrowSteps.{kept_matched, rest_of}
use Rattle.asg_branching.proofs.ReadySearches.{one_spare}
use Rattle.asg_model.specs.declared.parts.Place.TheVariants.{All as PlaceAll}

-- a row that is there is a row of the square
pub row_within : (X : Problem) → X.place ≡ PlaceAll → (row : ℕ) → row < length X.rows → row < square_side X
row_within X all row there =
    let side : square_side X ≡ max (length X.rows) (total_capacity X) = ap (λ place. side_by place (length X.rows) (total_capacity X)) all in
    omega (arith, side, there)

module _ {V : Type 0} (R : Rules V) (X : Problem) (count made : ℕ) (S : Search V) (growing : IsGrowing R X count made S) where
  -- the slot of the node that gave the last answer is there, and its choice
  pub last_used : S.given - 1 < length S.slots.used
  last_used = let few = growing.search.kept.few in let below = last_less R X count made S growing in omega (arith, few, below)

  pub last_choice : S.given - 1 < length S.choices.items
  last_choice = let fit = growing.memory.given_fit in let c = growing.memory.choices_fit in let some = growing.some in omega (arith, fit, c, some)

  -- so many branches are few
  pub few_left : placed X + 1 < 2 ^ 32
  few_left =
      let small = growing.memory.small in
      let some = growing.some in
      let fit = growing.memory.given_fit in
      let times : S.slots.room * placed X ≡ (S.slots.room - 1) * placed X + placed X = ap (λ n. n * placed X) (let e : S.slots.room ≡ S.slots.room - 1 + 1 = omega (arith, some, fit) in e) ∙ add_one_times (S.slots.room - 1) (placed X) in
      omega (arith, small, times)

  module _ (less : made < placed X) where
    -- so many nodes are few
    pub few_nodes : length S.tree.entries.items + 1 < 2 ^ 32
    few_nodes =
        let small = growing.memory.small in
        let some = growing.some in
        let fit = growing.memory.given_fit in
        let made_are = growing.made_are in
        let far = mul-le-mul_right (placed X) fit in
        let times : S.given * placed X ≡ (S.given - 1) * placed X + placed X = ap (λ n. n * placed X) (let e : S.given ≡ S.given - 1 + 1 = omega (arith, some) in e) ∙ add_one_times (S.given - 1) (placed X) in
        omega (arith, small, far, times, made_are, less)

    pub few_children : made + 1 < 2 ^ 32
    few_children = let few = few_nodes in let made_are = growing.made_are in omega (arith, few, made_are)

    -- there is room for one more
    pub node_fits : length S.tree.entries.items < vec_capacity S.tree.entries
    node_fits = let fit = growing.nodes_fit.entries_fit in omega (arith, fit, less)

    pub phase_fits : S.given < S.slots.room → 1 ≤ S.tree.region.spare
    phase_fits room = let one = one_spare S.slots.room S.given (placed X) made room less in let fit = growing.nodes_fit.phases_fit in omega (arith, one, fit)

    pub hall_fits : S.given < S.slots.room → length S.tree.halls.sets < S.tree.halls.most
    hall_fits room = let one = one_spare S.slots.room S.given (placed X) made room less in let fit = growing.nodes_fit.halls_fit in omega (arith, one, fit)

module _ {V : Type 0} (R : Rules V) (X : Problem) (count made : ℕ) (S : Search V) (expanding : IsExpanding R X count made (kept_for X made S) S) where
  abbrev pub part_here : Problem
  part_here = expanding.growing.search.part (last_winner R.monoid.unit S)

  abbrev pub matching_here : List (Option ℕ)
  matching_here = (slot_at R.monoid.unit S.slots.used (S.given - 1)).matching

  -- the matching stands in absorbed cells
  pub start_rest : IsRestOf R.monoid S.desk.work matching_here
  start_rest =
      let e = entry_at R.monoid.unit S.tree.entries.items (last_winner R.monoid.unit S) in
      rest_of R S.tree.region part_here e.trail e.index S.desk.work expanding.work matching_here (node_solved R X count made S expanding.growing)

  -- the side of the square, and that of the matching
  pub start_side : S.desk.work.now.side ≡ square_side X
  start_side = expanding.work.labels.side ∙ node_side R X count made S expanding.growing

  pub start_rows : length matching_here ≡ square_side X
  start_rows = (node_solved R X count made S expanding.growing).rows ∙ node_side R X count made S expanding.growing

  module _ (row : ℕ) (active : is_active X row ≡ true) (number : count_below (is_active X) row ≡ made) where
    pub start_row : row < S.desk.work.now.side
    start_row = subst (λ n. row < n) (sym start_side) (row_within X expanding.growing.rankable.place row (row-from_active X row active))

    -- the matched cells of the other rows are kept
    pub start_kept : (r k : ℕ) → r ≢ row → Matches matching_here r k → keeps S.desk.work.now.side S.desk.bits.words r k ≡ true
    start_kept r k other matched =
        let growing = expanding.growing in
        let f = given_at (given_of S) (S.given - 1) in
        let solved = node_solved R X count made S growing in
        let hr : r < square_side part_here = subst (λ n. r < n) solved.rows (Matches-below matching_here r k matched) in
        let hk : k < square_side part_here = subst (λ n. k < n) solved.rows (solved.columns.below r k matched) in
        branch_bits R X count made S expanding r k hr hk
        ∙ same_keeps X part_here (node_rows R X count made S growing) (node_columns R X count made S growing) (node_place R X count made S growing) f (made + 1) r k
        ∙ ap (λ n. keeps_cell X f (n + 1) r k) (sym number)
        ∙ kept_matched X growing.rankable.place matching_here f (growing.search.answers (S.given - 1) (last_less R X count made S growing)).by row active r k other matched

-- a tree leaves the matching as long as it was
pub branch_length : {V : Type 0} (M : Monoid V) (difference : V → V → V) (before after : Stage V) (limit : Option V) (trail : Option ℕ) (root : ℕ) (rows : List ℕ) (b : Branch V) → length before.matching ≡ before.square.now.side
    → Branches M difference before after limit trail root rows b → length after.matching ≡ length before.matching
branch_length M difference before after limit trail root rows (Reached index last) side is = is.rest.matching_side ∙ sym side
branch_length M difference before after limit trail root rows (Left index last) side is = ap length is.same_matching
branch_length M difference before after limit trail root rows Short side is = ap (λ s. length s.matching) is.0
