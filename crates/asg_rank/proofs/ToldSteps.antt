-- What is known of a tree when its nodes are written, and how many phases they have.
use Rattle.asg_rank.proofs.Common.{◌≡◌, ℕ, ◌^◌, ◌<◌, ◌≤◌, List, length, Option, sym, ap, ◌∙◌, subst, ⊎_elim, arith, cases_lt, admitted_values, placed, Problem, square_side, entry_at, IsNext, HallSets, Rules, HasState, IsTree, State, Answered, Open, Empty, Tree, placed_at, phases_to, IsStateOf, IsTold, square_cell}

state_told : (given : List (List (Option ℕ))) (winner : ℕ → ℕ) (halls : HallSets) (Y : Problem) (n : ℕ) (s : State) → length given < 2 ^ 32 → HasState given winner halls Y n s → IsStateOf halls s
state_told given winner halls Y n (Answered b) fits state = let is = state.1 in let less = state.2 in omega (arith, is, less, fits)
state_told given winner halls Y n Open fits state = tt
state_told given winner halls Y n (Empty h) fits state = state.0

module _ {V : Type 0} (R : Rules V) (X : Problem) (given : List (List (Option ℕ))) (winner : ℕ → ℕ) (T : Tree V) (part : ℕ → Problem) (tree : IsTree R X given winner (length T.entries.items) T part) (fits : length given < 2 ^ 32) where
  -- where each node stands
  pub told : (n : ℕ) → 1 ≤ n → n ≤ length T.entries.items → IsTold R.monoid T (entry_at R.monoid.unit T.entries.items n)
  told n low high =
      let e = entry_at R.monoid.unit T.entries.items n in
      let node = tree.nodes n low high in
      let parts = parent_facts n low high in
      record {
        state = state_told given winner T.halls (part n) n e.state fits node.state_is;
        live = node.leads.live;
        values = admitted_values R.monoid R.difference (square_side (part n)) (phases_to T.region e.trail) (square_cell (part n) R.monoid.unit R.enter) node.leads.admitted;
        parent_upto = parts.0;
        next = parts.1;
      }
    where
      parent_facts : (n : ℕ) → 1 ≤ n → n ≤ length T.entries.items → ((entry_at R.monoid.unit T.entries.items n).parent ≤ length T.entries.items) × (1 ≤ (entry_at R.monoid.unit T.entries.items n).parent → IsNext T.region (entry_at R.monoid.unit T.entries.items (entry_at R.monoid.unit T.entries.items n).parent).trail (entry_at R.monoid.unit T.entries.items n).trail)
      parent_facts n low high =
          ⊎_elim
          (λ (root : n < 2).
          let is : 1 ≡ n = omega (arith, root, low) in
          let none = ap (λ m. (entry_at R.monoid.unit T.entries.items m).parent) (sym is) ∙ tree.root.parent_is in
          (omega (arith, none), λ some. absurd (omega (arith, none, some))))
          (λ (later : 2 ≤ n).
          let e = tree.upto_is in
          let at = placed_at (placed X) (length given) n later (omega (arith, high, e)) in
          let is = at.is in
          let child_of = tree.children at.answer at.branch at.given at.from at.upto (omega (arith, high, is)) in
          let w = tree.winners at.answer at.given in
          let there = w.there in
          let parent = ap (λ m. (entry_at R.monoid.unit T.entries.items m).parent) at.is ∙ child_of.parent_is in
          let next = subst (λ m. IsNext T.region (entry_at R.monoid.unit T.entries.items (winner at.answer)).trail (entry_at R.monoid.unit T.entries.items m).trail) (sym at.is) child_of.next in (
            omega (arith, parent, there),
            λ _. subst (λ m. IsNext T.region (entry_at R.monoid.unit T.entries.items m).trail (entry_at R.monoid.unit T.entries.items n).trail) (sym parent) next,
          ))
          (cases_lt n 2)
