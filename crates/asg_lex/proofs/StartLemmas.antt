-- The start: the cells under a limit are marked, and the costs from it on were gone through.
use Rattle.asg_lex.proofs.Common.{◌≡◌, ℕ, zero, suc, ◌<◌, ◌≤◌, Bool, true, false, cond, not, ◌&&◌, List, [], length, get_or, ℤ, is_some, IfSome, nat_lt, unsigned_abs, int_lt, int_le, Some, None, Option, option_map, sym, refl, ap, ◌∙◌, subst, arith, and_parts, false≢true, ints, nat_tests, none-some, option_map_or, BitTable, extra_column_cell, corner_cell, labelled_cell, leaves_rows, has_corner, is_labelled_within, is_gone, AreMarksOf, AreUnder, grade_of, free_grade, cost_of, entry_of, AreEntriesUnder, IsPlaceOf, IsMarked, is_under, MarksUnder, Entry, AllowsCells, has_cell-within, IsInstance, most_cost, live_at, Problem, square_side, Whole, Under, Cost, Place, has_cost, left_last, IsLeftAssignment, Level, first_part_in_range, square_cell, Grid, cell_at, IsSquareOf, IsPerm, row_label, column_label, has_cell}
use Rattle.asg_model.specs.Bands.{in_band}
use Rattle.asg_model.specs.HallSet.{LiesIn}
use Rattle.asg_lex.proofs.RunSteps.{passes_at, passes_some, has_cost_by}
use Rattle.asg_model.specs.declared.parts.Place.TheVariants.{All as PlaceAll, Exactly}

-- ---- the cells under a limit are those of a band

band_of_grade : (a : ℤ) (limit : ℕ) → unsigned_abs a ≤ most_cost → nat_lt (grade_of (record { a = a; b = a })) limit ≡ int_lt a (cost_of limit)
band_of_grade a limit h = grind (arith, ints, nat_tests, h)

module _ (limit : ℕ) (some : 0 < limit) where
  free_under : is_under limit (Some free_grade) ≡ true
  free_under = grind (nat_tests, arith, some)

  live_under : (o : Option Cost) → IfSome o (λ cost. unsigned_abs cost.a ≤ most_cost) → is_under limit (option_map grade_of o) ≡ option_map_or (λ cost. in_band (Under (cost_of limit)) cost.a) o false
  live_under None near = refl
  live_under (Some cost) near = band_of_grade cost.a limit near

  extra_under : (place : Place) → is_under limit (extra_column_cell place free_grade) ≡ leaves_rows place
  extra_under PlaceAll = refl
  extra_under (Exactly k) = free_under

  corner_under : (place : Place) → is_under limit (corner_cell place free_grade) ≡ has_corner place
  corner_under PlaceAll = free_under
  corner_under (Exactly k) = refl

  cond_under : (b : Bool) (cell : Option ℕ) (test : Bool) → is_under limit cell ≡ test → is_under limit (cond b cell None) ≡ (b && test)
  cond_under true cell test e = e
  cond_under false cell test e = refl

  module _ (X : Problem) (instance : IsInstance X) where
    labelled_under : (row column : Option ℕ) → is_under limit (labelled_cell X free_grade grade_of row column) ≡ is_labelled_within X (Under (cost_of limit)) row column
    labelled_under (Some r) (Some d) = live_under (live_at X r d) (first_part_in_range X instance r d)
    labelled_under (Some r) None = extra_under X.place
    labelled_under None (Some d) = free_under
    labelled_under None None = corner_under X.place

    cell_under : (r c : ℕ) → is_under limit (square_cell X free_grade grade_of r c) ≡ has_cell X (Under (cost_of limit)) r c
    cell_under r c =
        cond_under (nat_lt r (square_side X) && nat_lt c (square_side X)) (labelled_cell X free_grade grade_of (row_label X r) (column_label X c)) (is_labelled_within X (Under (cost_of limit)) (row_label X r) (column_label X c))
        (labelled_under (row_label X r) (column_label X c))

    module _ (Q : Grid ℕ) (square : IsSquareOf X free_grade grade_of Q) (marks : BitTable) (cells : MarksUnder Q limit marks) where
      -- exactly the cells of the band of the costs under the limit are marked
      pub marks_band : AllowsCells (IsMarked marks Q.side) X (Under (cost_of limit))
      marks_band r c =
          let same = ap (is_under limit) (square.cells r c) ∙ cell_under r c in (
            λ marked. sym same ∙ sym (cells r c marked.row marked.column) ∙ marked.bit,
            λ e.
                let both = has_cell-within X (Under (cost_of limit)) r c e in
                let hr = subst (λ n. r < n) (sym square.labels.side) both.0 in
                let hc = subst (λ n. c < n) (sym square.labels.side) both.1 in
                record { row = hr; column = hc; bit = cells r c hr hc ∙ same ∙ e },
          )

    -- a choice of cells under the limit lies in the band
    pub lies_in_band : (f : List (Option ℕ)) → AreUnder X limit f → LiesIn X (Under (cost_of limit)) f
    lies_in_band f under r c cost chooses live =
        by_range (live_at X r c) (first_part_in_range X instance r c) live (under r c cost chooses live)
      where
        under_it : (a : ℤ) → unsigned_abs a ≤ most_cost → grade_of (record { a = a; b = a }) < limit → int_lt a (cost_of limit) ≡ true
        under_it a near h = sym (band_of_grade a limit near) ∙ grind (arith, nat_tests, h)

        by_range : (o : Option Cost) → IfSome o (λ cost. unsigned_abs cost.a ≤ most_cost) → o ≡ Some cost → grade_of cost < limit → int_lt cost.a (cost_of limit) ≡ true
        by_range None near e h = absurd (none-some cost e)
        by_range (Some other) near e h =
            let within : IfSome (Some cost) (λ cost. unsigned_abs cost.a ≤ most_cost) = subst (λ o. IfSome o (λ cost. unsigned_abs cost.a ≤ most_cost)) e near in
            under_it cost.a within h

-- ---- no cost was gone through but those from the limit on

module _ (X : Problem) (instance : IsInstance X) (Q : Grid ℕ) (square : IsSquareOf X free_grade grade_of Q)
    (presence : (r c : ℕ) → is_some (square_cell X free_grade grade_of r c) ≡ has_cell X Whole r c)
    (limit : ℕ) (some : 0 < limit) (marks : BitTable) (cells : MarksUnder Q limit marks)
  where
    there_is : (r c : ℕ) → is_some (cell_at Q r c) ≡ has_cell X Whole r c
    there_is r c = ap is_some (square.cells r c) ∙ presence r c

    not_gone : (g : ℕ) → not (int_le (cost_of limit) (cost_of g)) ≡ nat_lt g limit
    not_gone g = grind (arith, ints, nat_tests)

    -- a cell of the square that isn't gone is one under the limit
    kept : (o : Option ℕ) → (is_some o && not (option_map_or (passes_at (is_gone None limit)) o false)) ≡ is_under limit o
    kept None = refl
    kept (Some g) = by_grade g
      where
        by_grade : (g : ℕ) → not (passes_at (is_gone None limit) g) ≡ nat_lt g limit
        by_grade zero = sym (free_under limit some)
        by_grade (suc g) = ap not (passes_some (is_gone None limit) (suc g) (omega arith)) ∙ not_gone (suc g)

    left_is : (r c : ℕ) → (has_cell X Whole r c && not (has_cost X (is_gone None limit) r c)) ≡ is_under limit (cell_at Q r c)
    left_is r c =
        ap (λ b. b && not (has_cost X (is_gone None limit) r c)) (sym (there_is r c))
        ∙ ap (λ b. is_some (cell_at Q r c) && not b) (has_cost_by (is_gone None limit) X instance Q square r c)
        ∙ kept (cell_at Q r c)

    pub first_marks : AreMarksOf X Q.side limit [] marks
    first_marks = record {
      proved = tt;
      present = λ r c e. e;
      marked = λ r c. (
        λ marked. left_is r c ∙ sym (cells r c marked.row marked.column) ∙ marked.bit,
        λ e.
            let whole = (and_parts (has_cell X Whole r c) (not (has_cost X (is_gone None limit) r c)) e).0 in
            let both = has_cell-within X Whole r c whole in
            let hr = subst (λ n. r < n) (sym square.labels.side) both.0 in
            let hc = subst (λ n. c < n) (sym square.labels.side) both.1 in
            record { row = hr; column = hc; bit = cells r c hr hc ∙ sym (left_is r c) ∙ e },
      );
      order = λ v e. absurd (none-some v e);
    }

-- all entries stand before the place of the limit
pub first_place : (Q : Grid ℕ) (limit : ℕ) (entries : List Entry) → AreEntriesUnder Q limit entries → IsPlaceOf entries limit (length entries)
first_place Q limit entries are = record {
  within = omega arith;
  below = λ k h. are.under k (entry_of 0 0 0) h;
  from = λ k past h. absurd (omega (arith, past, h));
}

there_if : {V : Type 0} (b : Bool) (o : Option V) → is_some (cond b o None) ≡ true → is_some o ≡ true
there_if true o e = e
there_if false o e = absurd (false≢true e)

-- an assignment that is left is one of the square
pub perm_of_left : (X : Problem) (Q : Grid ℕ) → IsSquareOf X free_grade grade_of Q → ((r c : ℕ) → is_some (square_cell X false (λ cost. true) r c) ≡ has_cell X Whole r c) → ((r c : ℕ) → is_some (square_cell X free_grade grade_of r c) ≡ has_cell X Whole r c)
    → (perm : List ℕ) (levels : List Level) → IsLeftAssignment X perm levels → IsPerm Q perm
perm_of_left X Q square tests numbers perm levels a = record {
  over = a.over ∙ sym square.labels.side;
  apart = a.apart;
  present = λ r h.
      let c = get_or perm r 0 in
      let there = there_if (left_last X None (has_cell X Whole) levels r c) (square_cell X false (λ cost. true) r c) (a.present r (subst (λ n. r < n) square.labels.side h)) in
      ap is_some (square.cells r c) ∙ numbers r c ∙ sym (tests r c) ∙ there;
}
