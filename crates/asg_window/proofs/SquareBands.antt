-- The cells of an instance's square within a band of grades, against bands of costs.
use Rattle.asg_window.proofs.Common.{◌≡◌, ℕ, ◌<◌, ◌≤◌, Bool, true, false, cond, ◌&&◌, ◌↔◌, pos, ◌-ℤ◌, IfSome, IsTrue, nat_lt, unsigned_abs, int_le, Some, None, Option, option_map, sym, refl, ◌∙◌, subst, arith, false≢true, ints, none-some, option_map_or, same_Some, extra_column_cell, corner_cell, labelled_cell, leaves_rows, has_corner, is_labelled_within, grade_of, free_grade, cost_of, grade_above, grade_upto, most_cost, live_at, Problem, square_side, Whole, Between, Cost, Place, both_tests, square_cell, Grid, IsSquareOf, row_label, column_label, IsWithin, no_bound}
use Rattle.asg_model.specs.declared.bands.Band.{Band}
use Rattle.asg_model.specs.Bands.{in_band}
use Rattle.asg_match.specs.HallSets.{AllowsCells}
use Rattle.asg_match.specs.laws.Cells.{has_cell-within}
use Rattle.asg_square.specs.Presence.{has_cell}
use Rattle.asg_model.specs.declared.parts.Place.TheVariants.{All as PlaceAll, Exactly}

-- the costs of the band are those with a grade from `low` on and below `high`
abbrev pub IsBandOf : Band → ℕ → ℕ → Type 0
IsBandOf band low high =
    (cost : Cost) → unsigned_abs cost.a ≤ most_cost → ((low ≤ grade_of cost) × (grade_of cost < high)) ↔ IsTrue (in_band band cost.a)

pub IsBandOf-whole : IsBandOf Whole 1 no_bound
IsBandOf-whole cost h = (λ _. refl, λ _. let above = grade_above cost h in let upto = grade_upto cost h in (omega (arith, above), omega (arith, upto)))

first_test : (a b : Bool) → IsTrue (a && b) → IsTrue a × IsTrue b
first_test true b h = (refl, h)
first_test false b h = absurd (false≢true h)

low_test : (low : ℕ) (cost : Cost) → unsigned_abs cost.a ≤ most_cost → (low ≤ grade_of cost) ↔ IsTrue (int_le (cost_of low) cost.a)
low_test low cost h = (λ upto. grind (arith, ints), λ e. grind (arith, ints))

high_test : (high : ℕ) (cost : Cost) → unsigned_abs cost.a ≤ most_cost → (grade_of cost < high) ↔ IsTrue (int_le cost.a (cost_of high -ℤ pos 1))
high_test high cost h = (λ upto. grind (arith, ints), λ e. grind (arith, ints))

pub IsBandOf-between : (low high : ℕ) → IsBandOf (Between (cost_of low) (cost_of high -ℤ pos 1)) low high
IsBandOf-between low high cost h = (
  λ both. both_tests (int_le (cost_of low) cost.a) (int_le cost.a (cost_of high -ℤ pos 1)) ((low_test low cost h).0 both.0) ((high_test high cost h).0 both.1),
  λ is.
      let tests = first_test (int_le (cost_of low) cost.a) (int_le cost.a (cost_of high -ℤ pos 1)) is in
      ((low_test low cost h).1 tests.0, (high_test high cost h).1 tests.1),
)

-- a cell that is there, a free one or one with a grade within the band
abbrev CellWithin : ℕ → ℕ → Option ℕ → Type 0
CellWithin low high cell = (grade : ℕ) × (cell ≡ Some grade) × (0 < grade → (low ≤ grade) × (grade < high))

abbrev IsWithinWhere : ℕ → ℕ → Option ℕ → Bool → Type 0
IsWithinWhere low high cell test = CellWithin low high cell ↔ IsTrue test

module _ (low high : ℕ) (band : Band) (is : IsBandOf band low high) where
  none_where : IsWithinWhere low high None false
  none_where = (λ w. absurd (none-some w.0 w.1), λ e. absurd (false≢true e))

  free_where : IsWithinWhere low high (Some free_grade) true
  free_where = (λ _. refl, λ _. (0, refl, λ some. absurd (omega (arith, some))))

  live_where : (o : Option Cost) → IfSome o (λ cost. unsigned_abs cost.a ≤ most_cost) → IsWithinWhere low high (option_map grade_of o) (option_map_or (λ cost. in_band band cost.a) o false)
  live_where None h = none_where
  live_where (Some cost) h = (
    λ w.
        let same : grade_of cost ≡ w.0 = same_Some (grade_of cost) w.0 w.1 in
        (is cost h).0 (subst (λ g. (low ≤ g) × (g < high)) (sym same) (w.2 (subst (λ g. 0 < g) same (grade_above cost h)))),
    λ e. (grade_of cost, refl, λ _. (is cost h).1 e),
  )

  extra_where : (place : Place) → IsWithinWhere low high (extra_column_cell place free_grade) (leaves_rows place)
  extra_where PlaceAll = none_where
  extra_where (Exactly k) = free_where

  corner_where : (place : Place) → IsWithinWhere low high (corner_cell place free_grade) (has_corner place)
  corner_where PlaceAll = free_where
  corner_where (Exactly k) = none_where

  module _ (X : Problem) (ranges : (r c : ℕ) → IfSome (live_at X r c) (λ cost. unsigned_abs cost.a ≤ most_cost)) where
    labelled_where : (a o : Option ℕ) → IsWithinWhere low high (labelled_cell X free_grade grade_of a o) (is_labelled_within X band a o)
    labelled_where (Some r) (Some d) = live_where (live_at X r d) (ranges r d)
    labelled_where (Some r) None = extra_where X.place
    labelled_where None (Some d) = free_where
    labelled_where None None = corner_where X.place

    cond_where : (b : Bool) (cell : Option ℕ) (test : Bool) → IsWithinWhere low high cell test → IsWithinWhere low high (cond b cell None) (b && test)
    cond_where true cell test h = h
    cond_where false cell test h = none_where

    cell_where : (r c : ℕ) → IsWithinWhere low high (square_cell X free_grade grade_of r c) (has_cell X band r c)
    cell_where r c =
        cond_where (nat_lt r (square_side X) && nat_lt c (square_side X)) (labelled_cell X free_grade grade_of (row_label X r) (column_label X c)) (is_labelled_within X band (row_label X r) (column_label X c))
        (labelled_where (row_label X r) (column_label X c))

    -- the cells within the band are those of the square under the band of costs
    pub AllowsCells-within : (Q : Grid ℕ) → IsSquareOf X free_grade grade_of Q → AllowsCells (IsWithin Q low high) X band
    AllowsCells-within Q square r c =
        let at = cell_where r c in (
          λ w. at.0 (w.grade, sym (square.cells r c) ∙ w.cell, w.inside),
          λ has.
              let bounds = has_cell-within X band r c has in
              let w = at.1 has in
              record {
                row = subst (λ n. r < n) (sym square.labels.side) bounds.0;
                column = subst (λ n. c < n) (sym square.labels.side) bounds.1;
                grade = w.0;
                cell = square.cells r c ∙ w.1;
                inside = w.2;
              },
        )
