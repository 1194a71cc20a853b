-- The square of the part of a node below the root, from that of the part of the node above it.
use Rattle.asg_nodes.proofs.Common.{◌≡◌, ℕ, ◌+◌, ◌*◌, ◌<◌, ◌≤◌, List, length, Some, Option, sym, ap, ◌∙◌, subst, arith, Reduced, placed, Problem, square_side, LosesCells, entry_at, Rules, Leads, IsReducedTo, IsOwn, SettlesOwn, given_at, IsChildOf, IsWinner, IsTree, Entry, Tree, IsOrderedMonoid, Forest, phases_of, phases_to, last_phase, IsForest, IsAdmittedPhase, AreAdmittedPhases, child, masked, keeps_cell, square_cell-child, square_cell, HasLabelsOf, cell_at}
use Rattle.asg_nodes.specs.laws.Parts.{IsPlaced, placed_at, AreBefore, part_rows, part_columns, part_place}
use Rattle.asg_nodes.proofs.RebuildSteps.{cut_child, own_admitted, settled_own}
use Rattle.asg_nodes.specs.laws.Shapes.{same_keeps, labels_from_part}
use Rattle.asg_rankings.specs.laws.MaskedSquares.{AreAdmittedPhases-masked}

-- what leads to a part leads to its child
leads_cut : {V : Type 0} (R : Rules V) (F : Forest V) (Y : Problem) (f : List (Option ℕ)) (branch : ℕ) (trail : Option ℕ) (index : V) → Leads R F Y trail index → Leads R F (child Y f branch) trail index
leads_cut R F Y f branch trail index leads = record {
  live = leads.live;
  admitted =
      subst (AreAdmittedPhases R.monoid R.difference (square_side Y) (phases_to F trail)) (sym (square_cell-child Y R.monoid.unit R.enter f branch))
      (AreAdmittedPhases-masked R.monoid R.difference (square_side Y) (keeps_cell Y f branch) (phases_to F trail) (square_cell Y R.monoid.unit R.enter) leads.admitted);
  index_is = leads.index_is;
}

module _ {V : Type 0} (R : Rules V) (X : Problem) (given : List (List (Option ℕ))) (winner : ℕ → ℕ) (upto : ℕ) (T : Tree V) (part : ℕ → Problem) (tree : IsTree R X given winner upto T part) where
  abbrev pub node_at : ℕ → Entry V
  node_at n = entry_at R.monoid.unit T.entries.items n

  -- the node of each answer stands before its children
  before : AreBefore (placed X) (length given) winner
  before a below = let w = tree.winners a below in (w.from, w.upto)

  module _ (n : ℕ) (from : 2 ≤ n) (there : n ≤ length T.entries.items) where
    pub place_of : IsPlaced (placed X) (length given) n
    place_of =
        let few = tree.few in
        let is = tree.upto_is in
        placed_at (placed X) (length given) n from (omega (arith, there, few, is))

    -- the node above
    abbrev pub above : ℕ
    above = winner place_of.answer

    pub child_is : IsChildOf T.region above (node_at above) place_of.branch (node_at n)
    child_is =
        subst (λ m. IsChildOf T.region above (node_at above) place_of.branch (node_at m)) (sym place_of.is)
        (tree.children place_of.answer place_of.branch place_of.given place_of.from place_of.upto (subst (λ m. m ≤ length T.entries.items) place_of.is there))

    pub winner_is : IsWinner (placed X) place_of.answer (length T.entries.items) above (node_at above)
    winner_is = tree.winners place_of.answer place_of.given

    pub above_less : above < n
    above_less =
        let low = winner_is.upto in
        let is = place_of.is in
        let branch = place_of.from in
        omega (arith, low, is, branch)

    -- the part, and that above
    abbrev pub chosen : List (Option ℕ)
    chosen = given_at given place_of.answer

    part_is : part n ≡ child (part above) chosen place_of.branch
    part_is = ap part place_of.is ∙ tree.parts.children place_of.answer place_of.branch place_of.given place_of.from place_of.upto

    above_within : above ≤ 1 + length given * placed X
    above_within =
        let less = above_less in
        let few = tree.few in
        let is = tree.upto_is in
        omega (arith, there, few, is, less)

    rows_same : (part above).rows ≡ X.rows
    rows_same = part_rows X given winner part tree.parts before above winner_is.from above_within

    columns_same : (part above).columns ≡ X.columns
    columns_same = part_columns X given winner part tree.parts before above winner_is.from above_within

    place_same : (part above).place ≡ X.place
    place_same = part_place X given winner part tree.parts before above winner_is.from above_within

    module _ (work : Reduced V) (to : IsReducedTo R T.region (part above) (node_at above).trail (node_at above).index work) where
      pub labels_above : HasLabelsOf X work.now
      labels_above = labels_from_part X (part above) rows_same columns_same place_same work.now to.labels

      module _ (cut : Reduced V) (index : cut.index ≡ work.index) (loses : LosesCells (keeps_cell X chosen place_of.branch) work.now cut.now) where
        loses_part : LosesCells (keeps_cell (part above) chosen place_of.branch) work.now cut.now
        loses_part = record {
          labels = loses.labels;
          cells = λ r k. loses.cells r k ∙ ap (λ b. masked (λ s d. b) (cell_at work.now) r k) (sym (same_keeps X (part above) rows_same columns_same place_same chosen place_of.branch r k));
        }

        pub cut_is : IsReducedTo R T.region (part n) (node_at above).trail (node_at above).index cut
        cut_is =
            subst (λ Y. IsReducedTo R T.region Y (node_at above).trail (node_at above).index cut) (sym part_is)
            (cut_child R T.region (part above) chosen place_of.branch (node_at above).trail (node_at above).index work cut to index loses_part)

        leads_above : Leads R T.region (part n) (node_at above).trail (node_at above).index
        leads_above =
            subst (λ Y. Leads R T.region Y (node_at above).trail (node_at above).index) (sym part_is)
            (leads_cut R T.region (part above) chosen place_of.branch (node_at above).trail (node_at above).index (tree.nodes above winner_is.from winner_is.there).leads)

        leads_here : Leads R T.region (part n) (node_at n).trail (node_at n).index
        leads_here = (tree.nodes n (omega (arith, from)) there).leads

        module _ (laws : IsOrderedMonoid R.monoid) (forest : IsForest T.region) where
          -- the phase that the node has beyond the one above is admitted
          pub node_admitted : (t : ℕ) → IsOwn (node_at above).trail (node_at n).trail (Some t) → IsAdmittedPhase R.monoid R.difference cut.now.side (last_phase (phases_of T.region t)) (cell_at cut.now)
          node_admitted =
              own_admitted R T.region (part n) laws forest (node_at above).trail (node_at n).trail (node_at above).index (node_at n).index cut cut_is child_is.next leads_above leads_here

          -- and with it the square is the node's
          pub node_settled : (after : Reduced V) → SettlesOwn R.monoid R.difference T.region (node_at above).trail (node_at n).trail cut after → IsReducedTo R T.region (part n) (node_at n).trail (node_at n).index after
          node_settled =
              settled_own R T.region (part n) laws forest (node_at above).trail (node_at n).trail (node_at above).index (node_at n).index cut cut_is child_is.next leads_above leads_here
