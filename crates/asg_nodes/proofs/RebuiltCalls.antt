-- What the calls of a rebuilding know of a node below the root and the node above it.
use Rattle.asg_nodes.proofs.Common.{◌≡◌, ℕ, ◌+◌, ◌-◌, ◌<◌, ◌≤◌, List, length, Some, Option, sym, refl, ap, ◌∙◌, subst, arith, Reduced, Problem, square_side, LosesCells, entry_at, IsNext, Rules, rules_of, IsReducedTo, IsOwn, SettlesOwn, IsStanding, answer_in, given_at, IsTree, Entry, Tree, Monoid, IsOrderedMonoid, phases_of, last_phase, IsForest, IsAdmittedPhase, keeps_cell, answer_at, Grid, HasLabelsOf, cell_at}
use Rattle.asg_model.specs.declared.parts.Cost.{Cost}
use Rattle.asg_nodes.proofs.RebuiltNodes.{place_of, above, child_is, winner_is, above_less, chosen, labels_above, cut_is, node_admitted, node_settled}

module _ {V : Type 0} (M : Monoid V) (difference : V → V → V) (enter : Cost → V) (X : Problem) (given : List (List (Option ℕ))) (winner : ℕ → ℕ) (upto : ℕ) (T : Tree V) (part : ℕ → Problem)
    (tree : IsTree (rules_of M difference enter) X given winner upto T part) (n : ℕ) (from : 2 ≤ n) (there : n ≤ length T.entries.items)
  where
    abbrev R : Rules V
    R = rules_of M difference enter

    abbrev at : ℕ → Entry V
    at m = entry_at M.unit T.entries.items m

    -- the node above
    abbrev up : ℕ
    up = above R X given winner upto T part tree n from there

    parent_is : (at n).parent ≡ up
    parent_is = (child_is R X given winner upto T part tree n from there).parent_is

    pub parent_less : (at n).parent < n
    parent_less =
        let is = parent_is in
        let less = above_less R X given winner upto T part tree n from there in
        omega (arith, is, less)

    pub parent_from : 1 ≤ (at n).parent
    parent_from = subst (λ m. 1 ≤ m) (sym parent_is) (winner_is R X given winner upto T part tree n from there).from

    pub parent_upto : (at n).parent ≤ length T.entries.items
    parent_upto = subst (λ m. m ≤ length T.entries.items) (sym parent_is) (winner_is R X given winner upto T part tree n from there).there

    -- a square that was made for the node above is standing for it
    pub stands_above : (p : ℕ) → p ≡ (at n).parent → (work : Reduced V) → IsReducedTo R T.region (part p) (at p).trail (at p).index work → IsStanding R T part (at n).parent work
    stands_above p is work to = record {
      upto = parent_upto;
      reduced = λ _. subst (λ m. IsReducedTo R T.region (part m) (at m).trail (at m).index work) is to;
    }

    module _ (work : Reduced V) (stands : IsStanding R T part (at n).parent work) where
      to_above : IsReducedTo R T.region (part up) (at up).trail (at up).index work
      to_above = subst (λ m. IsReducedTo R T.region (part m) (at m).trail (at m).index work) parent_is (stands.reduced parent_from)

      pub labels_are : HasLabelsOf X work.now
      labels_are = labels_above R X given winner upto T part tree n from there work to_above

      -- the base has its side
      pub side_is : (base : Reduced V) → IsReducedTo R T.region (part 1) (at 1).trail (at 1).index base → work.now.side ≡ base.now.side
      side_is base to =
          let labels = labels_are in labels.side ∙ sym (to.labels.side ∙ ap square_side tree.parts.root)

    module _ (e : Entry V) (here : e ≡ at n) where
      pub above_from : 1 ≤ e.parent
      above_from = subst (λ (x : Entry V). 1 ≤ x.parent) (sym here) parent_from

      pub above_upto : e.parent ≤ length T.entries.items
      above_upto = subst (λ (x : Entry V). x.parent ≤ length T.entries.items) (sym here) parent_upto

      module _ (a : Entry V) (before : a ≡ at e.parent) where
        before_is : a ≡ at up
        before_is = before ∙ ap (λ (x : Entry V). at x.parent) here ∙ ap at parent_is

        answer_is : answer_in a.state ≡ (place_of R X given winner upto T part tree n from there).answer + 1
        answer_is = ap (λ (x : Entry V). answer_in x.state) before_is ∙ ap answer_in (winner_is R X given winner upto T part tree n from there).state_is

        pub answer_from : 1 ≤ answer_in a.state
        answer_from = let is = answer_is in omega (arith, is)

        pub answer_upto : answer_in a.state ≤ length given
        answer_upto =
            let is = answer_is in
            let below = (place_of R X given winner upto T part tree n from there).given in
            omega (arith, is, below)

        pub next_is : IsNext T.region a.trail e.trail
        next_is =
            subst (λ (x : Entry V). IsNext T.region x.trail e.trail) (sym before_is)
            (subst (λ (x : Entry V). IsNext T.region (at up).trail x.trail) (sym here) (child_is R X given winner upto T part tree n from there).next)

        chosen_is : answer_at given (answer_in a.state) ≡ chosen R X given winner upto T part tree n from there
        chosen_is =
            let is = answer_is in
            let place : answer_in a.state - 1 ≡ (place_of R X given winner upto T part tree n from there).answer = omega (arith, is) in
            ap (given_at given) place

        branch_is : e.branch ≡ (place_of R X given winner upto T part tree n from there).branch
        branch_is = ap (λ (x : Entry V). x.branch) here ∙ (child_is R X given winner upto T part tree n from there).branch_is

        -- the square of the node above without the cells of the branch
        module _ (work : Reduced V) (stands : IsStanding R T part (at n).parent work) (cut : Grid V) (loses : LosesCells (keeps_cell X (answer_at given (answer_in a.state)) e.branch) work.now cut) where
          abbrev pub left : Reduced V
          left = record work { now = cut }

          loses_chosen : LosesCells (keeps_cell X (chosen R X given winner upto T part tree n from there) (place_of R X given winner upto T part tree n from there).branch) work.now cut
          loses_chosen =
              subst (λ branch. LosesCells (keeps_cell X (chosen R X given winner upto T part tree n from there) branch) work.now cut) branch_is
              (subst (λ g. LosesCells (keeps_cell X g e.branch) work.now cut) chosen_is loses)

          pub left_reduced : IsReducedTo R T.region (part n) (at up).trail (at up).index left
          left_reduced = cut_is R X given winner upto T part tree n from there work (to_above work stands) left refl loses_chosen

          module _ (laws : IsOrderedMonoid M) (forest : IsForest T.region) where
            pub own_is_admitted : (t : ℕ) → IsOwn a.trail e.trail (Some t) → IsAdmittedPhase M difference cut.side (last_phase (phases_of T.region t)) (cell_at cut)
            own_is_admitted t own =
                node_admitted R X given winner upto T part tree n from there work (to_above work stands) left refl loses_chosen laws forest t
                (subst (λ (x : Entry V). IsOwn x.trail (at n).trail (Some t)) before_is (subst (λ (x : Entry V). IsOwn a.trail x.trail (Some t)) here own))

            pub own_is_settled : (after : Reduced V) → SettlesOwn M difference T.region a.trail e.trail left after → IsReducedTo R T.region (part n) (at n).trail (at n).index after
            own_is_settled after settles =
                node_settled R X given winner upto T part tree n from there work (to_above work stands) left refl loses_chosen laws forest after
                (subst (λ (x : Entry V). SettlesOwn M difference T.region x.trail (at n).trail left after) before_is (subst (λ (x : Entry V). SettlesOwn M difference T.region a.trail x.trail left after) here settles))
