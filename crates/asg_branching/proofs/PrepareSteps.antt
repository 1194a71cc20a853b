-- The desk before the first child is made.
use Rattle.asg_branching.proofs.Common.{◌≡◌, ℕ, ◌+◌, ◌-◌, ◌*◌, ◌<◌, ◌≤◌, Bool, length, IsTrue, vec_len, sym, refl, ap, ◌∙◌, subst, arith, All-take, has_bit, IsGrowing, IsExpanding, last_winner, fixed_for, winner_in, given_of, IsReady, Desk, Search, placed, Problem, square_side, entry_at, Rules, IsReducedTo, IsRebuilt, given_at}
use Rattle.asg_branching.proofs.ChildBits.{bits_first}
use Rattle.asg_branching.proofs.DeskSteps.{memory_with}
use Rattle.asg_branching.proofs.GrowCases.{node_there, node_side}
use Rattle.asg_branching.proofs.ReadySearches.{expanding_first, ready_when_made}

module _ {V : Type 0} (R : Rules V) (X : Problem) (count : ℕ) (S : Search V) (growing : IsGrowing R X count 0 S) where
  -- the base is the square of the root's part
  pub root_base : IsReducedTo R S.tree.region (growing.search.part 1) (entry_at R.monoid.unit S.tree.entries.items 1).trail (entry_at R.monoid.unit S.tree.entries.items 1).index S.base
  root_base =
      let root = entry_at R.monoid.unit S.tree.entries.items 1 in
      subst (λ Y. IsReducedTo R S.tree.region Y root.trail root.index S.base) (sym growing.search.tree.parts.root) growing.base

  -- what the square of a node's part is made from
  pub rebuilt_here : IsRebuilt R.monoid R.difference X S.tree (given_of S) S.base S.desk.node S.desk.work
  rebuilt_here =
      record {
        enter = R.enter;
        winner = winner_in R.monoid.unit S.slots.used;
        upto = 1 + length (given_of S) * placed X;
        part = growing.search.part;
        tree = growing.search.tree;
        base_is = root_base;
        over = All-take (λ f. length f ≡ length X.rows) S.given S.choices.items growing.memory.choices_over;
        standing = growing.standing;
      }

  -- children may grow once the square was made and all bits were set
  pub prepared : S.given < S.slots.room → (desk : Desk V) → desk ≡ record S.desk { work = desk.work; node = desk.node; bits = desk.bits; room = desk.room } → vec_len desk.room ≡ vec_len S.desk.room
      → desk.node ≡ last_winner R.monoid.unit S
      → desk.bits.rows ≡ S.desk.bits.rows → desk.bits.columns ≡ S.desk.bits.columns → ((r k : ℕ) → r < S.desk.bits.rows → k < S.desk.bits.columns → IsTrue (has_bit desk.bits r k))
      → IsReducedTo R S.tree.region (growing.search.part (last_winner R.monoid.unit S)) (entry_at R.monoid.unit S.tree.entries.items (last_winner R.monoid.unit S)).trail (entry_at R.monoid.unit S.tree.entries.items (last_winner R.monoid.unit S)).index desk.work
      → IsExpanding R X count 0 (fixed_for X 0 S) (record S { desk = desk })
  prepared less desk same room node_is rows columns set work =
      let is = growing.memory.desk in
      let ids : vec_len desk.ids ≡ vec_len S.desk.ids = ap (λ (d : Desk V). vec_len d.ids) same in
      let steps = is.steps in
      let many = is.ids in
      let bits_rows = rows ∙ is.bit_rows in
      let bits_columns = columns ∙ is.bit_columns in
      let memory = memory_with X S growing.memory S.tree S.slots desk refl refl growing.memory.used_fit refl refl
      (record {
        work = work.labels.side ∙ node_side R X count 0 S growing;
        bit_rows = bits_rows;
        bit_columns = bits_columns;
        bench = ap (λ (d : Desk V). d.bench.side) same ∙ is.bench;
        trial = ap (λ (d : Desk V). length d.trial) same ∙ is.trial;
        steps = omega (arith, room, steps);
        columns = ap (λ (d : Desk V). vec_len d.columns) same ∙ is.columns;
        ids = omega (arith, ids, many);
      }) in
      expanding_first R X count S desk growing less memory work
      (record {
        upto = subst (λ n. n ≤ length S.tree.entries.items) (sym node_is) (node_there R X count 0 S growing);
        reduced = λ some. subst (λ n. IsReducedTo R S.tree.region (growing.search.part n) (entry_at R.monoid.unit S.tree.entries.items n).trail (entry_at R.monoid.unit S.tree.entries.items n).index desk.work) (sym node_is) work;
      })
      (bits_first X growing.rankable.place (given_at (given_of S) (S.given - 1)) (square_side X) desk.bits bits_rows bits_columns
      (λ r k hr hk. set r k (subst (λ n. r < n) (sym is.bit_rows) hr) (subst (λ n. k < n) (sym is.bit_columns) hk)))

-- the search is ready when each child may have grown
pub ready_expanded : {V : Type 0} (R : Rules V) (X : Problem) (count made : ℕ) (keep : ℕ → ℕ → Bool) (S : Search V) → IsExpanding R X count made keep S → made ≡ placed X → IsReady R X count S
ready_expanded R X count made keep S expanding all =
    ready_when_made R X count S (subst (λ n. IsGrowing R X count n S) all expanding.growing)
    (λ full i from upto. absurd (let less = expanding.less in omega (arith, full, less)))
