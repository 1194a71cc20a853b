-- What a ranker tells once no answer is left.
use Rattle.asg_rank.proofs.Common.{◌≡◌, ℕ, ◌-◌, ◌^◌, ◌<◌, ◌≤◌, ◌≢◌, ◌↔◌, List, length, All, Option, AllPairs, sym, subst, mul-le-mul_right, arith, winner_in, given_of, IsReady, Search, placed, IsInstance, most_cost, Problem, PassesNegative, square_side, IsValid, Objective, Cost, entry_at, child_number, Rules, given_at, Open, room_small, Bridges, IsOrderedMonoid, Word, IsForest, lies_within, AreCountable, IsExhausted, HaveFewPhases, LeaveLastOpen, answer_room, IsTold, AreWrittenNodes, AreListed, IsSearchTree, Node, IsSquareChoice}
use Rattle.asg_rank.proofs.FewPhases.{few_phases, last_open}
use Rattle.asg_rank.proofs.FollowSteps.{counted_ready}
use Rattle.asg_rank.proofs.RankingSteps.{IsBridged}
use Rattle.asg_rank.proofs.ToldSteps.{told}
use Rattle.asg_rank.proofs.TreeEnds.{listed, search_tree}

-- the bridge of a kind, for an instance within its reach
pub kind_bridge : {V : Type 0} (R : Rules V) (objective : Objective) (reach : ℕ) (X : Problem) → Bridges R.monoid R.enter objective reach → most_cost ≤ reach → IsInstance X → PassesNegative objective X → IsBridged R objective X
kind_bridge R objective reach X bridges far instance passes f g valid_f valid_g =
    bridges X f g instance.well_formed.few_rows (lies_within reach X far instance) passes valid_f valid_g

module _ {V : Type 0} (R : Rules V) (X : Problem) (count : ℕ) (S : Search V) (ready : IsReady R X (answer_room X count) S) (instance : IsInstance X) where
  small : S.given < 2 ^ 32
  small =
      let few = room_small X instance ready.rankable.place S.slots.room ready.memory.small in
      let fit = ready.memory.given_fit in
      omega (arith, few, fit)

  given_count : length (given_of S) ≡ S.given
  given_count = counted_ready R X (answer_room X count) S ready

  fits : length (given_of S) < 2 ^ 32
  fits = omega (arith, given_count, small)

  within_room : length (given_of S) ≤ S.slots.room
  within_room = let fit = ready.memory.given_fit in omega (arith, given_count, fit)

  few : length (given_of S) ≤ count
  few = let fit = ready.memory.given_fit in let room = ready.room_is in omega (arith, given_count, fit, room)

  -- where each node stands
  pub told_now : (n : ℕ) → 1 ≤ n → n ≤ length S.tree.entries.items → IsTold R.monoid S.tree (entry_at R.monoid.unit S.tree.entries.items n)
  told_now n low high = told R X (given_of S) (winner_in R.monoid.unit S.slots.used) S.tree ready.search.part ready.search.tree fits n low high

  valid : (a : ℕ) → a < length (given_of S) → IsValid (ready.search.part (winner_in R.monoid.unit S.slots.used a)) (given_at (given_of S) a)
  valid a h = (ready.search.answers a h).valid

  module _ (word_of : V → Word) (nodes : List Node) (written : AreWrittenNodes R.monoid.unit word_of S.tree nodes) where
    -- each node but the root has at most one phase of its own
    pub few_now : IsForest S.tree.region → HaveFewPhases (square_side X) nodes
    few_now forest =
        few_phases R word_of X (given_of S) (winner_in R.monoid.unit S.slots.used) S.tree ready.search.part ready.search.tree fits valid nodes written forest (square_side X) ready.memory.region_side

    -- the nodes can be counted in 32 bits, and so can the phases of the root
    pub countable_now : AreCountable nodes
    countable_now =
        let all = written.count in
        let upto = ready.search.tree.upto_is in
        let some = ready.search.tree.some in
        let times = mul-le-mul_right (placed X) within_room in
        let small = ready.memory.small in
        record {
          nodes_fit = omega (arith, all, upto, times, small);
          root_fits = (written.each 1 (omega arith) (omega (arith, all, some))).own_are.root_fits ready.search.tree.root.parent_is;
        }

    -- where all answers were given that were asked for, the children of the last one's node are open
    pub last_now : LeaveLastOpen count (given_of S) nodes
    last_now =
        last_open R word_of X (given_of S) (winner_in R.monoid.unit S.slots.used) S.tree ready.search.part ready.search.tree fits valid nodes written count
        (λ full i from upto.
        let fit = ready.memory.given_fit in
        let room = ready.room_is in
        let last = ready.last (omega (arith, full, given_count, fit, room)) i from upto in
        subst (λ g. (entry_at R.monoid.unit S.tree.entries.items (child_number (placed X) (g - 1) i)).state ≡ Open) (sym given_count) last)

  module _ (word_of : V → Word) (laws : IsOrderedMonoid R.monoid) (some : 1 ≤ length (given_of S)) (done : IsExhausted X count (given_of S))
      (choices : (Z : Problem) (free : V) (enter : Cost → V) (f : List (Option ℕ)) → IsInstance Z → IsValid Z f ↔ IsSquareChoice Z free enter f)
      (counted : (fs : List (List (Option ℕ))) → All (IsValid X) fs → AllPairs ◌≢◌ fs → length fs ≤ length X.columns ^ placed X)
    where
      -- the answers may be listed
      pub listed_now : (objective : Objective) → IsBridged R objective X → AreListed objective X count (given_of S)
      listed_now objective bridge =
          listed R laws word_of X instance count (given_of S) S.slots S.tree ready.search some few ready.room_is ready.memory.used_fit done choices counted objective bridge

      -- the nodes are a search tree of the answers
      pub tree_now : (nodes : List Node) → AreWrittenNodes R.monoid.unit word_of S.tree nodes → IsSearchTree R.monoid R.difference word_of R.enter X count (given_of S) nodes
      tree_now nodes written =
          search_tree R laws word_of X instance count (given_of S) S.slots S.tree ready.search some few ready.room_is ready.memory.used_fit done choices counted nodes written
