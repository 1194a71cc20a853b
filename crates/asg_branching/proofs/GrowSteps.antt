-- Where a child starts to grow: the matching of its parent without the row's column, on the cells
-- that are kept.
use Rattle.asg_branching.proofs.Common.{◌≡◌, ℕ, ◌<◌, ◌≤◌, Bool, true, cond, not, ◌≢◌, List, nat_lt, slice_index_or, Some, None, Option, sym, refl, ap, ◌∙◌, ⊎_elim, le-ltb, lt-ltb, eq-eqb, ne_eqb, cases_lt, Reduced, IsRestOf, Matches, IsMatched, is_active, Problem, square_side, takes, Rules, IsSolved, IsReducedTo, labelled_active, other_number, Forest, row_number, is_chosen, is_kept_at, keeps_labelled, keeps_cell, row_label, column_label}
use Rattle.asg_model.specs.declared.parts.Place.TheVariants.{All as PlaceAll}

-- a choice is that of a matching
abbrev pub IsBy : Problem → List (Option ℕ) → List (Option ℕ) → Type 0
IsBy X matching f = (r k d : ℕ) → Matches matching r k → is_active X r ≡ true → column_label X k ≡ Some d → slice_index_or f r None ≡ Some d

module _ (X : Problem) (all : X.place ≡ PlaceAll) (matching f : List (Option ℕ)) (by : IsBy X matching f) (row : ℕ) (active : is_active X row ≡ true) where
  kept_chosen : (branch number : ℕ) (chosen : Bool) → number ≢ branch → chosen ≡ true → is_kept_at branch number chosen ≡ true
  kept_chosen branch number chosen other is =
      ap (λ b. cond (nat_lt number branch) chosen (cond b (not chosen) true)) (ne_eqb number branch other)
      ∙ ⊎_elim
      (λ (less : number < branch). ap (λ b. cond b chosen true) (lt-ltb number branch less) ∙ is)
      (λ (from : branch ≤ number). ap (λ b. cond b chosen true) (le-ltb number branch from))
      (cases_lt number branch)

  -- a branch keeps the matched cells of the other rows
  pub kept_matched : (r k : ℕ) → r ≢ row → Matches matching r k → keeps_cell X f (row_number X row) r k ≡ true
  kept_matched r k other matched = at (row_label X r) (column_label X k) refl refl
    where
      at : (label column : Option ℕ) → row_label X r ≡ label → column_label X k ≡ column → keeps_labelled X f (row_number X row) label column ≡ true
      at (Some q) (Some d) e h =
          let a = labelled_active X all f r q e in
          let there : is_active X q ≡ true = ap (is_active X) a.0 ∙ a.1 in
          let is : is_chosen f (q, d) ≡ true = ap (λ p. takes d (slice_index_or f p None)) a.0 ∙ ap (takes d) (by r k d matched a.1 h) ∙ eq-eqb d d refl in
          ap (λ b. cond b (is_kept_at (row_number X row) (row_number X q) (is_chosen f (q, d))) true) there
          ∙ kept_chosen (row_number X row) (row_number X q) (is_chosen f (q, d)) (other_number X all f row active q there (λ s. other (sym a.0 ∙ s))) is
      at (Some q) None e h = refl
      at None column e h = refl

module _ {V : Type 0} (R : Rules V) (F : Forest V) (Y : Problem) (trail : Option ℕ) (index : V) (work : Reduced V) (to : IsReducedTo R F Y trail index work)
    (matching : List (Option ℕ)) (solved : IsSolved R F Y trail index matching)
  where
    -- the matching stands in absorbed cells of the square
    pub rest_of : IsRestOf R.monoid work matching
    rest_of = record {
      values = to.values.cells;
      index_is_value = to.values.index;
      matching_side = solved.rows ∙ sym to.labels.side;
      columns = solved.columns;
      absorbed = λ r k e.
          let is = solved.cells r k e in
          record {
            value = is.value;
            there = to.cells r k ∙ is.there;
            is = ap (λ z. R.monoid.product z is.value) to.index_is ∙ is.is ∙ sym to.index_is;
          };
    }

    -- every row has a column
    pub rows_matched : (r : ℕ) → r < square_side Y → IsMatched matching r
    rows_matched r h = solved.all r h
