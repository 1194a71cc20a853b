-- Squares that lose the cells of a branch, row by row.
use Rattle.asg_nodes.proofs.Common.{◌≡◌, ℕ, ◌+◌, ◌<◌, ◌≤◌, Bool, true, false, cond, not, ◌&&◌, eqb, ◌≢◌, List, length, nat_lt, nat_le, slice_index_or, Some, None, Option, sym, refl, ap, ◌∙◌, ⊎_elim, arith, le-ltb, lt-ltb, eq-eqb, ne_eqb, le-leb, cases_eq, cases_lt, false≢true, lt-leb, option_map_or, slice_get_past, is_active, Problem, square_side, takes, keeps_copies, label_in, cuts_numbered, label_is, labelled_active, active_labelled, row_number, is_chosen, is_kept_at, keeps_labelled, keeps_cell, Grid, HasLabelsOf, row_label, column_label}
use Rattle.asg_model.specs.declared.parts.Place.TheVariants.{All as PlaceAll}

-- what is kept once the rows before one were cut
abbrev pub cut_rows : Problem → List (Option ℕ) → ℕ → ℕ → ℕ → ℕ → Bool
cut_rows X f branch row r k = cond (nat_lt r row) (keeps_cell X f branch r k) true

-- after a row the branch was, up to there
pub cut_all_rows : (X : Problem) (f : List (Option ℕ)) (branch rows r k : ℕ) → r < rows → cut_rows X f branch rows r k ≡ keeps_cell X f branch r k
cut_all_rows X f branch rows r k below = ap (λ b. cond b (keeps_cell X f branch r k) true) (lt-ltb r rows below)

module _ (X : Problem) (all : X.place ≡ PlaceAll) (f : List (Option ℕ)) (branch row : ℕ) where
  -- a row that isn't active keeps all
  idle_keeps : is_active X row ≡ false → (k : ℕ) → keeps_cell X f branch row k ≡ true
  idle_keeps idle k = by (row_label X row) (column_label X k) refl
    where
      by : (label column : Option ℕ) → row_label X row ≡ label → keeps_labelled X f branch label column ≡ true
      by (Some q) (Some d) e = let a = labelled_active X all f row q e in absurd (false≢true (sym idle ∙ a.1))
      by (Some q) None e = refl
      by None column e = refl

  -- nor does one past the last row
  past_keeps : length X.rows ≤ row → (k : ℕ) → keeps_cell X f branch row k ≡ true
  past_keeps past = idle_keeps (ap (λ o. option_map_or (λ found. found.active) o false) (slice_get_past X.rows row past))

  -- so its turn changes nothing
  pub idle_next : is_active X row ≡ false → (r k : ℕ) → cut_rows X f branch row r k ≡ cut_rows X f branch (row + 1) r k
  idle_next idle r k =
      ⊎_elim
      (λ (before : r < row). ap (λ b. cond b (keeps_cell X f branch r k) true) (lt-ltb r row before ∙ sym (lt-ltb r (row + 1) (omega (arith, before)))))
      (λ (from : row ≤ r).
      ⊎_elim
      (λ (here : r ≡ row).
      ap (λ b. cond b (keeps_cell X f branch r k) true) (le-ltb r row from)
      ∙ sym (ap (λ b. cond b (keeps_cell X f branch r k) true) (lt-ltb r (row + 1) (omega (arith, here))) ∙ ap (λ q. keeps_cell X f branch q k) here ∙ idle_keeps idle k))
      (λ (other : r ≡ row → ⊥). ap (λ b. cond b (keeps_cell X f branch r k) true) (le-ltb r row from ∙ sym (le-ltb r (row + 1) (omega (arith, from, other)))))
      (cases_eq r row))
      (cases_lt r row)

  module _ (active : is_active X row ≡ true) {V : Type 0} (Q : Grid V) (labels : HasLabelsOf X Q) (chosen : Option ℕ) (is : slice_index_or f row None ≡ chosen) where
    -- what an active row keeps by its number
    here_keeps : (k : ℕ) → k < square_side X → keeps_cell X f branch row k ≡ cuts_numbered Q row chosen (row_number X row) branch row k
    here_keeps k below =
        ap (λ label. keeps_labelled X f branch label (column_label X k)) (active_labelled X all f row active)
        ∙ by (column_label X k)
        ∙ ap (λ label. cond (nat_le (row_number X row) branch) (keeps_copies chosen (nat_lt (row_number X row) branch) label) true) (sym (label_is X Q labels k below))
        ∙ sym (ap (λ b. cond (nat_le (row_number X row) branch) (cond b (keeps_copies chosen (nat_lt (row_number X row) branch) (label_in Q k)) true) true) (eq-eqb row row refl))
      where
        by : (column : Option ℕ) → keeps_labelled X f branch (Some row) column ≡ cond (nat_le (row_number X row) branch) (keeps_copies chosen (nat_lt (row_number X row) branch) column) true
        by None = both (nat_le (row_number X row) branch)
          where
            both : (b : Bool) → true ≡ cond b true true
            both true = refl
            both false = refl
        by (Some d) =
            ap (λ b. cond b (is_kept_at branch (row_number X row) (is_chosen f (row, d))) true) active
            ∙ ap (λ o. is_kept_at branch (row_number X row) (takes d o)) is
            ∙ turned (row_number X row) (takes d chosen)
          where
            turned : (number : ℕ) (x : Bool) → is_kept_at branch number x ≡ cond (nat_le number branch) (cond (nat_lt number branch) x (not x)) true
            turned number x =
                ⊎_elim
                (λ (less : number < branch). ap (λ b. cond b x (cond (eqb number branch) (not x) true)) (lt-ltb number branch less) ∙ sym ((λ i. cond (le-leb number branch (omega (arith, less)) i) (cond (lt-ltb number branch less i) x (not x)) true)))
                (λ (from : branch ≤ number).
                ⊎_elim
                (λ (same : number ≡ branch).
                (λ i. cond (le-ltb number branch from i) x (cond (eq-eqb number branch same i) (not x) true))
                ∙ sym ((λ i. cond (le-leb number branch (omega (arith, same)) i) (cond (le-ltb number branch from i) x (not x)) true)))
                (λ (other : number ≡ branch → ⊥).
                (λ i. cond (le-ltb number branch from i) x (cond (ne_eqb number branch other i) (not x) true))
                ∙ sym (ap (λ b. cond b (cond (nat_lt number branch) x (not x)) true) (lt-leb number branch (omega (arith, from, other)))))
                (cases_eq number branch))
                (cases_lt number branch)

    -- with its turn the rows so far are one more
    pub active_next : (r k : ℕ) → k < square_side X → (cut_rows X f branch row r k && cuts_numbered Q row chosen (row_number X row) branch r k) ≡ cut_rows X f branch (row + 1) r k
    active_next r k below =
        ⊎_elim
        (λ (before : r < row).
        (λ i. cond (lt-ltb r row before i) (keeps_cell X f branch r k) true && other_row r (λ e. omega (arith, before, e)) i)
        ∙ and_true (keeps_cell X f branch r k)
        ∙ sym (ap (λ b. cond b (keeps_cell X f branch r k) true) (lt-ltb r (row + 1) (omega (arith, before)))))
        (λ (from : row ≤ r).
        ⊎_elim
        (λ (here : r ≡ row).
        ap (λ b. cond b (keeps_cell X f branch r k) true && cuts_numbered Q row chosen (row_number X row) branch r k) (le-ltb r row from)
        ∙ ap (λ q. cuts_numbered Q row chosen (row_number X row) branch q k) here
        ∙ sym (here_keeps k below)
        ∙ ap (λ q. keeps_cell X f branch q k) (sym here)
        ∙ sym (ap (λ b. cond b (keeps_cell X f branch r k) true) (lt-ltb r (row + 1) (omega (arith, here)))))
        (λ (other : r ≡ row → ⊥).
        (λ i. cond (le-ltb r row from i) (keeps_cell X f branch r k) true && other_row r other i)
        ∙ sym (ap (λ b. cond b (keeps_cell X f branch r k) true) (le-ltb r (row + 1) (omega (arith, from, other)))))
        (cases_eq r row))
        (cases_lt r row)
      where
        and_true : (u : Bool) → (u && true) ≡ u
        and_true true = refl
        and_true false = refl

        other_row : (r : ℕ) → r ≢ row → cuts_numbered Q row chosen (row_number X row) branch r k ≡ true
        other_row r other =
            ap (λ b. cond (nat_le (row_number X row) branch) (cond b (keeps_copies chosen (nat_lt (row_number X row) branch) (label_in Q k)) true) true) (ne_eqb r row other)
            ∙ both (nat_le (row_number X row) branch)
          where
            both : (b : Bool) → cond b true true ≡ true
            both true = refl
            both false = refl

-- after the last row the branch was
pub cut_end : (X : Problem) (all : X.place ≡ PlaceAll) (f : List (Option ℕ)) (branch rows : ℕ) → length X.rows ≤ rows → (r k : ℕ) → cut_rows X f branch rows r k ≡ keeps_cell X f branch r k
cut_end X all f branch rows past r k =
    ⊎_elim
    (λ (below : r < rows). cut_all_rows X f branch rows r k below)
    (λ (from : rows ≤ r).
    ap (λ b. cond b (keeps_cell X f branch r k) true) (le-ltb r rows from)
    ∙ sym (past_keeps X all f branch r (omega (arith, past, from)) k))
    (cases_lt r rows)
