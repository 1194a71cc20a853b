-- The answer of the kept node that has the least index.
use Rattle.asg_branching.proofs.Common.{◌≡◌, ℕ, ◌<◌, true, ◌↔◌, List, length, is_some, IfSome, slice_index, slice_index_or, Some, None, Option, option_and_then, sym, ap, ◌∙◌, subst, arith, get_or-map-range_with_len, Reduced, IsChosenBy, IsAnswer, Matches, Matches-same, Matches-below, IsInstance, is_active, live_at, Problem, problem_of, square_side, IsValid, costs_of, Whole, Cost, row-from_active, Rules, Leads, IsSolved, IsReducedTo, Slot, label_is, active_labelled, assigned, same_side, costs_fold, choice_fold, Monoid, IsValue, IsOrderedMonoid, fold_of, Forest, phases_to, EntersValues, assignment_fold, is_some-phases, IsAssignment, IsSquareChoice, choice_of, square_cell, assignment_values, Grid, cell_at, HasLabelsOf, IsWithinSquareOf, grid_chosen, grid_choice, row_label, column_label, has_cell}
use Rattle.asg_model.specs.declared.parts.Place.TheVariants.{All as PlaceAll}

-- the square of the instance after phases has cells only where that of the instance has some
pub within_of : {V : Type 0} (R : Rules V) (F : Forest V) (X : Problem) (trail : Option ℕ) (index : V) (base : Reduced V) → IsReducedTo R F X trail index base → ((free : V) (enter : Cost → V) (r c : ℕ) → is_some (square_cell X free enter r c) ≡ has_cell X Whole r c) → IsWithinSquareOf X base.now
within_of R F X trail index base to presence = record {
  labels = to.labels;
  cells = λ r c there.
      sym (presence R.monoid.unit R.enter r c)
      ∙ sym (is_some-phases R.monoid R.difference (phases_to F trail) (square_cell X R.monoid.unit R.enter) r c)
      ∙ ap is_some (sym (to.cells r c))
      ∙ there;
}

module _ {V : Type 0} (R : Rules V) (laws : IsOrderedMonoid R.monoid) (F : Forest V) (X Y : Problem) (rows : Y.rows ≡ X.rows) (columns : Y.columns ≡ X.columns) (place : Y.place ≡ X.place)
    (all : X.place ≡ PlaceAll) (whole : IsInstance X) (part : IsInstance Y) (enters : EntersValues R.monoid R.enter Y) (trail : Option ℕ) (index : V) (leads : Leads R F Y trail index)
    (Q : Grid V) (labels : HasLabelsOf X Q) (matching f : List (Option ℕ)) (solved : IsSolved R F Y trail index matching) (chosen : IsChosenBy Q matching f)
  where
    -- the part in the shape of the instance
    shape : Y ≡ problem_of X.rows X.columns Y.cells X.place
    shape i = problem_of (rows i) (columns i) Y.cells (place i)

    pub perm_of : IsAssignment (square_cell Y R.monoid.unit R.enter) (square_side Y) chosen.columns
    perm_of = assigned R laws F Y trail index leads matching solved chosen.columns chosen.over chosen.matched (cell_at Q) Q.side chosen.perm

    pub same_choice : choice_of Y chosen.columns ≡ choice_of X chosen.columns
    same_choice = ap (λ Z. choice_of Z chosen.columns) shape

    -- the choice is that of the matching
    pub chosen_by_matching : (r k d : ℕ) → Matches matching r k → is_active X r ≡ true → column_label X k ≡ Some d → slice_index_or f r None ≡ Some d
    chosen_by_matching r k d matched active label =
        let below : r < length X.rows = row-from_active X r active in
        let in_rows : r < Q.rows = subst (λ n. r < n) (sym labels.rows) below in
        let in_matching = Matches-below matching r k matched in
        let column : slice_index chosen.columns r ≡ k = Matches-same matching r (slice_index chosen.columns r) k (chosen.matched r in_matching) matched in
        let row_side : r < square_side X = subst (λ n. r < n) (solved.rows ∙ same_side X Y rows columns place) in_matching in
        let column_side : k < square_side X = subst (λ n. k < n) (solved.rows ∙ same_side X Y rows columns place) (solved.columns.below r k matched) in
        let row_is : slice_index_or Q.row_labels r None ≡ Some r =
        ap (λ xs. slice_index_or xs r None) labels.row_labels
        ∙ get_or-map-range_with_len (row_label X) 0 (square_side X) r r None row_side (omega arith)
        ∙ active_labelled X all f r active in
        ap (λ xs. slice_index_or xs r None) chosen.chosen
        ∙ get_or-map-range_with_len (grid_chosen Q chosen.columns) 0 Q.rows r r None in_rows (omega arith)
        ∙ ap (option_and_then (λ _. slice_index_or Q.column_labels (slice_index chosen.columns r) None)) row_is
        ∙ ap (λ n. slice_index_or Q.column_labels n None) column
        ∙ label_is X Q labels k column_side
        ∙ label

    module _ (index_slot : (slot : Slot V) × (slot.matching ≡ matching) × (slot.index ≡ index))
        (choices : (Z : Problem) (free : V) (enter : Cost → V) (g : List (Option ℕ)) → IsInstance Z → IsValid Z g ↔ IsSquareChoice Z free enter g)
        (folds : (M : Monoid V) (Z : Problem) (enter : Cost → V) (p : List ℕ) → IsOrderedMonoid M → IsInstance Z → ((r c : ℕ) → IfSome (live_at Z r c) (λ cost. IsValue M (enter cost))) → IsAssignment (square_cell Z M.unit enter) (square_side Z) p → fold_of M (assignment_values (square_cell Z M.unit enter) (square_side Z) p) ≡ costs_fold M enter (costs_of Z (choice_of Z p)))
        (grid : grid_choice Q chosen.columns ≡ choice_of X chosen.columns)
        (product : assignment_fold R.monoid (square_side Y) (square_cell Y R.monoid.unit R.enter) chosen.columns ≡ index)
        (same_fold : IsValid Y f → choice_fold R.monoid R.enter Y f ≡ choice_fold R.monoid R.enter X f)
      where
        is_choice : choice_of Y chosen.columns ≡ f
        is_choice = same_choice ∙ sym grid ∙ sym chosen.chosen

        pub chosen_valid : IsValid Y f
        chosen_valid = (choices Y R.monoid.unit R.enter f part).1 (chosen.columns, perm_of, is_choice)

        -- the choice is an answer of the slot
        pub answer_of : IsAnswer R X Y index_slot.0 f
        answer_of = record {
          valid = chosen_valid;
          worth =
              sym (same_fold chosen_valid)
              ∙ ap (λ g. costs_fold R.monoid R.enter (costs_of Y g)) (sym is_choice)
              ∙ sym (folds R.monoid Y R.enter chosen.columns laws part enters perm_of)
              ∙ product ∙ sym index_slot.2;
          by = λ r k d matched active label. chosen_by_matching r k d (subst (λ m. Matches m r k) index_slot.1 matched) active label;
        }
