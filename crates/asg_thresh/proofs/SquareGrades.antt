-- Grades of the cells of an instance's square, against bands of costs.
use Rattle.asg_thresh.proofs.Common.{◌≡◌, ℕ, ◌<◌, ◌≤◌, Bool, true, false, cond, ◌&&◌, ◌↔◌, List, IfSome, IsTrue, nat_lt, unsigned_abs, Some, None, Option, option_map, sym, refl, ap, ◌∙◌, subst, arith, false≢true, option_map_or, AllowsCells, most_cost, live_at, Problem, square_side, Objective, Cost, square_cell, Grid, IsSquareOf, grade_of, free_grade, no_grade, grade_at, IsUnder, AreGradesOf, unwrap_or}
use Rattle.asg_model.specs.declared.bands.Band.{Band}
use Rattle.asg_model.specs.declared.parts.Place.{Place}
use Rattle.asg_model.specs.Bands.{in_band}
use Rattle.asg_match.specs.laws.Cells.{has_cell-within}
use Rattle.asg_cell_tables.specs.LabelledCells.{extra_column_cell, corner_cell, labelled_cell, leaves_rows, has_corner, is_labelled_within}
use Rattle.asg_square.specs.Labels.{row_label, column_label}
use Rattle.asg_square.specs.Presence.{has_cell}
use Rattle.asg_model.specs.declared.parts.Place.TheVariants.{All as PlaceAll, Exactly}

-- a cost has a grade under the limit exactly where it lies in the band
abbrev pub IsBandOf : Objective → Band → ℕ → Type 0
IsBandOf objective band limit =
    (cost : Cost) → unsigned_abs cost.a ≤ most_cost → (grade_of objective cost < limit) ↔ IsTrue (in_band band cost.a)

-- the grade of a cell, under the limit exactly where the test holds
abbrev IsUnderWhere : ℕ → Option ℕ → Bool → Type 0
IsUnderWhere limit cell test = (unwrap_or cell no_grade < limit) ↔ IsTrue test

none_under : (limit : ℕ) → limit ≤ no_grade → IsUnderWhere limit None false
none_under limit h = (λ less. absurd (omega arith), λ e. absurd (false≢true e))

free_under : (limit : ℕ) → 0 < limit → IsUnderWhere limit (Some free_grade) true
free_under limit h = (λ _. refl, λ _. h)

module _ (objective : Objective) (band : Band) (limit : ℕ) (is : IsBandOf objective band limit) (some : 0 < limit) (within : limit ≤ no_grade) where
  live_under : (o : Option Cost) → IfSome o (λ cost. unsigned_abs cost.a ≤ most_cost) → IsUnderWhere limit (option_map (grade_of objective) o) (option_map_or (λ cost. in_band band cost.a) o false)
  live_under None h = none_under limit within
  live_under (Some cost) h = is cost h

  extra_under : (place : Place) → IsUnderWhere limit (extra_column_cell place free_grade) (leaves_rows place)
  extra_under PlaceAll = none_under limit within
  extra_under (Exactly k) = free_under limit some

  corner_under : (place : Place) → IsUnderWhere limit (corner_cell place free_grade) (has_corner place)
  corner_under PlaceAll = free_under limit some
  corner_under (Exactly k) = none_under limit within

  module _ (X : Problem) (ranges : (r c : ℕ) → IfSome (live_at X r c) (λ cost. unsigned_abs cost.a ≤ most_cost)) where
    labelled_under : (a o : Option ℕ) → IsUnderWhere limit (labelled_cell X free_grade (grade_of objective) a o) (is_labelled_within X band a o)
    labelled_under (Some r) (Some d) = live_under (live_at X r d) (ranges r d)
    labelled_under (Some r) None = extra_under X.place
    labelled_under None (Some d) = free_under limit some
    labelled_under None None = corner_under X.place

    cond_under : (b : Bool) (cell : Option ℕ) (test : Bool) → IsUnderWhere limit cell test → IsUnderWhere limit (cond b cell None) (b && test)
    cond_under true cell test h = h
    cond_under false cell test h = none_under limit within

    -- a cell of the square has a grade under the limit exactly where the square has it, of the band
    pub cell_under : (r c : ℕ) → IsUnderWhere limit (square_cell X free_grade (grade_of objective) r c) (has_cell X band r c)
    cell_under r c =
        cond_under (nat_lt r (square_side X) && nat_lt c (square_side X)) (labelled_cell X free_grade (grade_of objective) (row_label X r) (column_label X c)) (is_labelled_within X band (row_label X r) (column_label X c))
        (labelled_under (row_label X r) (column_label X c))

    -- the cells of a grade under the limit are those of the square under the band
    pub AllowsCells-under : (Q : Grid ℕ) (grades : List ℕ) → IsSquareOf X free_grade (grade_of objective) Q → AreGradesOf Q grades → AllowsCells (IsUnder grades Q.side limit) X band
    AllowsCells-under Q grades square made r c =
        let at = cell_under r c in (
          λ under.
              let cell : grade_at grades Q.side r c ≡ unwrap_or (square_cell X free_grade (grade_of objective) r c) no_grade = made.cells r c under.row under.column ∙ ap (λ o. unwrap_or o no_grade) (square.cells r c) in
              at.0 (subst (λ n. n < limit) cell under.grade),
          λ has.
              let bounds = has_cell-within X band r c has in
              let row = subst (λ n. r < n) (sym square.labels.side) bounds.0 in
              let column = subst (λ n. c < n) (sym square.labels.side) bounds.1 in
              let cell : grade_at grades Q.side r c ≡ unwrap_or (square_cell X free_grade (grade_of objective) r c) no_grade = made.cells r c row column ∙ ap (λ o. unwrap_or o no_grade) (square.cells r c) in
              record { row = row; column = column; grade = subst (λ n. n < limit) (sym cell) (at.1 has) },
        )
