-- Perfect assignments of squares, and those of the square of an instance.
use Rattle.asg_square.proofs.Common.{◌≡◌, ℕ, ◌<◌, Bool, true, false, cond, ◌&&◌, List, length, get_or, is_some, nat_lt, slice_index, None, Option, sym, refl, ap, ◌∙◌, subst, arith, get_or-map-range_with_len, length-map-range_with_len, same_lists, labelled_cell, IsPlaceInRange, Problem, square_side, IsValid, Whole, Cost, square_cell, IsAssignment, choice_of, chosen_by, perm_list, Grid, cell_at, HasLabelsOf, IsSquareOf, IsWithinSquareOf, CoversSquareOf, IsPerm, IsPermOf, grid_choice, grid_chosen, row_label, column_label, rows_within, option_and_then}
use Rattle.asg_square.specs.Presence.{has_cell}
use Rattle.asg_square.proofs.Presences.{present_is}
use Rattle.asg_square.proofs.PerfectValid.{choice_is_valid, column_below}
use Rattle.asg_square.proofs.ValidPerfect.{perm_is_assignment, choice_of-perm}

some_cond : {V : Type 0} (b : Bool) (o : Option V) → is_some (cond b o None) ≡ (b && is_some o)
some_cond true o = refl
some_cond false o = refl

-- the square has cells exactly where it says
pub presence : {V : Type 0} (X : Problem) (free : V) (enter : Cost → V) (r c : ℕ) → is_some (square_cell X free enter r c) ≡ has_cell X Whole r c
presence X free enter r c =
    some_cond (nat_lt r (square_side X) && nat_lt c (square_side X)) (labelled_cell X free enter (row_label X r) (column_label X c))
    ∙ ap (λ b. nat_lt r (square_side X) && nat_lt c (square_side X) && b) (present_is X free enter (row_label X r) (column_label X c))

-- the cells of the square, without their values
abbrev pub marks : Problem → ℕ → ℕ → Option Bool
marks X = square_cell X true (λ _. true)

-- ---- the choice depends on the labels alone

module _ {V : Type 0} (X : Problem) (Q : Grid V) (labels : HasLabelsOf X Q) (p : List ℕ) (a : IsAssignment (marks X) (square_side X) p) where
  chosen_is : (r : ℕ) → r < square_side X → grid_chosen Q p r ≡ chosen_by X p r
  chosen_is r h =
      let c = column_below X true (λ _. true) p a r h in
      ap (λ xs. option_and_then (λ _. get_or xs (slice_index p r) None) (get_or Q.row_labels r None)) labels.column_labels
      ∙ ap (λ o. option_and_then (λ _. o) (get_or Q.row_labels r None)) (get_or-map-range_with_len (column_label X) 0 (square_side X) (slice_index p r) (slice_index p r) None c (omega arith))
      ∙ ap (λ xs. option_and_then (λ _. column_label X (slice_index p r)) (get_or xs r None)) labels.row_labels
      ∙ ap (option_and_then (λ _. column_label X (slice_index p r))) (get_or-map-range_with_len (row_label X) 0 (square_side X) r r None h (omega arith))

  pub same_choice : IsPlaceInRange X X.place → grid_choice Q p ≡ choice_of X p
  same_choice range =
      let size = length-map-range_with_len (grid_chosen Q p) 0 Q.rows in
      let rows = labels.rows in
      let other = length-map-range_with_len (chosen_by X p) 0 (length X.rows) in
      let within = rows_within X range in
      same_lists (grid_choice Q p) (choice_of X p) (omega (arith, size, rows, other))
      (λ r d h.
      get_or-map-range_with_len (grid_chosen Q p) 0 Q.rows r r d (omega (arith, size)) (omega arith)
      ∙ chosen_is r (omega (arith, size, rows, within))
      ∙ sym (get_or-map-range_with_len (chosen_by X p) 0 (length X.rows) r r d (omega (arith, size, rows)) (omega arith)))

-- ---- squares within that of an instance

module _ {V : Type 0} (X : Problem) (Q : Grid V) (s : IsWithinSquareOf X Q) (p : List ℕ) (a : IsPerm Q p) where
  pub marked : IsAssignment (marks X) (square_side X) p
  marked = record {
    over = a.over ∙ s.labels.side;
    apart = a.apart;
    present = λ r h.
        presence X true (λ _. true) r (slice_index p r)
        ∙ s.cells r (slice_index p r) (a.present r (subst (λ n. r < n) (sym s.labels.side) h));
  }

  pub choice_within : IsPlaceInRange X X.place → grid_choice Q p ≡ choice_of X p
  choice_within = same_choice X Q s.labels p marked

  pub valid_within : IsPlaceInRange X X.place → IsValid X (grid_choice Q p)
  valid_within range = subst (IsValid X) (sym (choice_within range)) (choice_is_valid X true (λ _. true) p marked range)

-- ---- squares that cover that of an instance

pub perm_serves : {V : Type 0} (X : Problem) (Q : Grid V) (f : List (Option ℕ)) (p : List ℕ) → CoversSquareOf X Q → IsValid X f → IsPlaceInRange X X.place → p ≡ perm_list X f → IsPermOf Q f p
perm_serves X Q f p s valid range is =
    let a = perm_is_assignment X f valid range true (λ _. true) in
    subst (IsPermOf Q f) (sym is)
    (record {
      perm = record {
        over = a.over ∙ sym s.labels.side;
        apart = a.apart;
        present = λ r h.
            s.cells r (slice_index (perm_list X f) r)
            (sym (presence X true (λ _. true) r (slice_index (perm_list X f) r)) ∙ a.present r (subst (λ n. r < n) s.labels.side h));
      };
      choice = same_choice X Q s.labels (perm_list X f) a range ∙ choice_of-perm X f valid range;
    })

-- ---- the square of an instance

module _ {V : Type 0} (X : Problem) (free : V) (enter : Cost → V) (Q : Grid V) (s : IsSquareOf X free enter Q) where
  same_presence : (r c : ℕ) → is_some (cell_at Q r c) ≡ has_cell X Whole r c
  same_presence r c = ap is_some (s.cells r c) ∙ presence X free enter r c

  pub square_within : IsWithinSquareOf X Q
  square_within = record { labels = s.labels; cells = λ r c some. sym (same_presence r c) ∙ some }

  pub square_covers : CoversSquareOf X Q
  square_covers = record { labels = s.labels; cells = λ r c has. same_presence r c ∙ has }

  pub perm_to : (p : List ℕ) → IsPerm Q p → IsAssignment (square_cell X free enter) (square_side X) p
  perm_to p a = record {
    over = a.over ∙ s.labels.side;
    apart = a.apart;
    present = λ r h. sym (ap is_some (s.cells r (slice_index p r))) ∙ a.present r (subst (λ n. r < n) (sym s.labels.side) h);
  }

  pub perm_from : (p : List ℕ) → IsAssignment (square_cell X free enter) (square_side X) p → IsPerm Q p
  perm_from p a = record {
    over = a.over ∙ sym s.labels.side;
    apart = a.apart;
    present = λ r h. ap is_some (s.cells r (slice_index p r)) ∙ a.present r (subst (λ n. r < n) s.labels.side h);
  }
