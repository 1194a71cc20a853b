-- A search before the first child of a node is made, and after the last one.
use Rattle.asg_branching.proofs.Common.{◌≡◌, ℕ, ◌+◌, ◌-◌, ◌*◌, ◌<◌, ◌≤◌, length, ap, ◌∙◌, subst, ⊎_elim, arith, cases_lt, IsGrowing, IsExpanding, last_winner, fixed_for, winner_in, given_of, IsReady, HasMemory, Desk, Search, placed, Problem, square_side, AreBitsFor, fixes_cell, entry_at, child_number, Rules, IsReducedTo, IsStanding, given_at, IsTree, Open, add_one_times}
use Rattle.asg_branching.proofs.GivenSearches.{count_given}

less_times : (room given k : ℕ) → given < room → (room - given) * k ≡ (room - 1 - given) * k + k
less_times room given k less = ap (λ n. n * k) (let e : room - given ≡ room - 1 - given + 1 = omega (arith, less) in e) ∙ add_one_times (room - 1 - given) k

-- a phase is spare for each child that may grow
pub one_spare : (room given k made : ℕ) → given < room → made < k → 1 ≤ (room - given) * k - made
one_spare room given k made less more = let times = less_times room given k less in omega (arith, times, more)

pub no_times : (k : ℕ) → 0 * k ≡ 0
no_times k = omega arith

-- the phases that are spare after the last child
pub rest_upto : (room given k : ℕ) → (room - 1 - given) * k ≤ (room - given) * k - k
rest_upto room given k =
    ⊎_elim
    (λ (less : given < room). let times = less_times room given k less in omega (arith, times))
    (λ (upto : room ≤ given).
    let none : (room - 1 - given) * k ≡ 0 = ap (λ n. n * k) (let e : room - 1 - given ≡ 0 = omega (arith, upto) in e) ∙ no_times k in
    omega (arith, none))
    (cases_lt given room)

-- the search is ready for the next answer when all children were made
pub ready_when_made : {V : Type 0} (R : Rules V) (X : Problem) (count : ℕ) (S : Search V) → IsGrowing R X count (placed X) S → (S.given ≡ S.slots.room → (i : ℕ) → 1 ≤ i → i ≤ placed X → (entry_at R.monoid.unit S.tree.entries.items (child_number (placed X) (S.given - 1) i)).state ≡ Open) → IsReady R X count S
ready_when_made R X count S growing last =
    let some = growing.some in
    let choices = growing.memory.choices_fit in
    let given_fit = growing.memory.given_fit in
    let counted = count_given S (omega (arith, choices, given_fit)) in
    let made = growing.made_are in
    let times : length (given_of S) * placed X ≡ S.given * placed X = ap (λ n. n * placed X) counted in
    let back : S.given * placed X ≡ (S.given - 1) * placed X + placed X = ap (λ n. n * placed X) (let e : S.given ≡ S.given - 1 + 1 = omega (arith, some) in e) ∙ add_one_times (S.given - 1) (placed X) in
    let rest = rest_upto S.slots.room S.given (placed X) in
    let entries = growing.nodes_fit.entries_fit in
    let phases = growing.nodes_fit.phases_fit in
    let sets = growing.nodes_fit.halls_fit in
    record {
      rankable = growing.rankable;
      search = record {
        part = growing.search.part;
        tree =
            subst (λ n. IsTree R X (given_of S) (winner_in R.monoid.unit S.slots.used) n S.tree growing.search.part)
            (let e : 1 + length (given_of S) * placed X ≡ length S.tree.entries.items = omega (arith, made, times, back) in e) growing.search.tree;
        kept = growing.search.kept;
        answers = growing.search.answers;
        different = growing.search.different;
      };
      base = λ used. growing.base;
      standing = growing.standing;
      memory = growing.memory;
      room_is = growing.room_is;
      nodes_fit = record {
        entries_fit = omega (arith, entries);
        phases_fit = omega (arith, phases, rest);
        halls_fit = omega (arith, sets, rest);
      };
      last = last;
    }

-- children may grow when the square was made and all of its cells are kept
pub expanding_first : {V : Type 0} (R : Rules V) (X : Problem) (count : ℕ) (S : Search V) (desk : Desk V) (growing : IsGrowing R X count 0 S) → S.given < S.slots.room → HasMemory X (record S { desk = desk })
    → IsReducedTo R S.tree.region (growing.search.part (last_winner R.monoid.unit S)) (entry_at R.monoid.unit S.tree.entries.items (last_winner R.monoid.unit S)).trail (entry_at R.monoid.unit S.tree.entries.items (last_winner R.monoid.unit S)).index desk.work
    → IsStanding R S.tree growing.search.part desk.node desk.work
    → AreBitsFor (square_side X) (fixes_cell X (given_at (given_of S) (S.given - 1)) 1) desk.bits
    → IsExpanding R X count 0 (fixed_for X 0 S) (record S { desk = desk })
expanding_first R X count S desk growing less memory work standing bits = record {
  growing = record {
    rankable = growing.rankable;
    some = growing.some;
    search = growing.search;
    base = growing.base;
    standing = standing;
    memory = memory;
    room_is = growing.room_is;
    made_upto = growing.made_upto;
    made_are = growing.made_are;
    nodes_fit = growing.nodes_fit;
  };
  less = less;
  work = work;
  bits = bits;
}
