-- The live cells of an instance in its square.
use Rattle.asg_window.proofs.Common.{◌≡◌, ℕ, ◌+◌, ◌<◌, ◌≤◌, Bool, true, false, cond, ◌&&◌, is_some, IsSome, nat_lt, unsigned_abs, Some, None, Option, option_map, sym, refl, ap, ◌∙◌, subst, arith, lt-ltb, All-get_or, none-some, same_Some, extra_column_cell, corner_cell, labelled_cell, grade_of, free_grade, grade_upto, from_if_some, IsInstance, most_cost, live_at, Problem, square_side, Cost, Place, first_part_in_range, square_cell, Grid, cell_at, IsSquareOf, row_label, column_label, first_copy, rows_within, copies_within, no_bound}
use Rattle.asg_model.specs.declared.parts.Column.{Column}
use Rattle.asg_model.specs.Counts.{capacity_at}
use Rattle.asg_square.specs.laws.Copies.{label_at, copy_below, capacity_is}
use Rattle.asg_model.specs.laws.Rows.{is_active-from_live, row-from_active, counted-from_active, no_column}
use Rattle.asg_model.specs.declared.parts.Place.TheVariants.{All as PlaceAll, Exactly}
use Rattle.asg_values.specs.laws.LiveCells.{column_of_live}

-- a live cell of the instance with this grade
abbrev pub HasLive : Problem → ℕ → Type 0
HasLive X grade = (r : ℕ) × (c : ℕ) × (cost : Cost) × (live_at X r c ≡ Some cost) × (grade_of cost ≡ grade)

-- a cell of the square with a grade above that of a free one is that of a live cell
module _ (X : Problem) where
  live_by : (r d : ℕ) (o : Option Cost) (grade : ℕ) → live_at X r d ≡ o → option_map grade_of o ≡ Some grade → HasLive X grade
  live_by r d (Some cost) grade live e = (r, d, cost, live, same_Some (grade_of cost) grade e)
  live_by r d None grade live e = absurd (none-some grade e)

  extra_free : (place : Place) (grade : ℕ) → 0 < grade → extra_column_cell place free_grade ≡ Some grade → ⊥
  extra_free PlaceAll grade some e = none-some grade e
  extra_free (Exactly k) grade some e = let free : 0 ≡ grade = same_Some 0 grade e in omega (arith, free, some)

  corner_free : (place : Place) (grade : ℕ) → 0 < grade → corner_cell place free_grade ≡ Some grade → ⊥
  corner_free PlaceAll grade some e = let free : 0 ≡ grade = same_Some 0 grade e in omega (arith, free, some)
  corner_free (Exactly k) grade some e = none-some grade e

  labelled_live : (a o : Option ℕ) (grade : ℕ) → 0 < grade → labelled_cell X free_grade grade_of a o ≡ Some grade → HasLive X grade
  labelled_live (Some r) (Some d) grade some e = live_by r d (live_at X r d) grade refl e
  labelled_live (Some r) None grade some e = absurd (extra_free X.place grade some e)
  labelled_live None (Some d) grade some e = let free : 0 ≡ grade = same_Some 0 grade e in absurd (omega (arith, free, some))
  labelled_live None None grade some e = absurd (corner_free X.place grade some e)

  cond_live : (b : Bool) (cell : Option ℕ) (grade : ℕ) → (cell ≡ Some grade → HasLive X grade) → cond b cell None ≡ Some grade → HasLive X grade
  cond_live true cell grade show e = show e
  cond_live false cell grade show e = absurd (none-some grade e)

  pub live_from_cell : (Q : Grid ℕ) → IsSquareOf X free_grade grade_of Q → (r c grade : ℕ) → 0 < grade → cell_at Q r c ≡ Some grade → HasLive X grade
  live_from_cell Q square r c grade some e =
      cond_live (nat_lt r (square_side X) && nat_lt c (square_side X)) (labelled_cell X free_grade grade_of (row_label X r) (column_label X c)) grade
      (labelled_live (row_label X r) (column_label X c) grade some)
      (sym (square.cells r c) ∙ e)

-- no bound is above all grades
pub grade_below : (X : Problem) (Q : Grid ℕ) → IsInstance X → IsSquareOf X free_grade grade_of Q → (r c grade : ℕ) → 0 < grade → cell_at Q r c ≡ Some grade → grade < no_bound
grade_below X Q i square r c grade some e =
    let at = live_from_cell X Q square r c grade some e in
    let range = from_if_some (λ (x : Cost). unsigned_abs x.a ≤ most_cost) (live_at X at.0 at.1) at.2 at.3 (first_part_in_range X i at.0 at.1) in
    let upto = grade_upto at.2 range in
    let same = at.4 in
    omega (arith, upto, same)

-- a cell of the square with this grade
abbrev pub HasCell : Grid ℕ → ℕ → Type 0
HasCell Q grade = (r : ℕ) × (c : ℕ) × (r < Q.side) × (c < Q.side) × (cell_at Q r c ≡ Some grade)

-- each live cell of the instance stands in its square
pub cell_from_live : (X : Problem) (Q : Grid ℕ) → IsInstance X → IsSquareOf X free_grade grade_of Q → (r d : ℕ) (cost : Cost) → live_at X r d ≡ Some cost → HasCell Q (grade_of cost)
cell_from_live X Q i square r d cost live =
    let there : IsSome (live_at X r d) = ap is_some live in
    let active = is_active-from_live X r d there in
    let counted = counted-from_active X X.place r active in
    let row : r < square_side X = omega (arith, row-from_active X r active, rows_within X i.well_formed.place_in_range) in
    let column = column_of_live X r d cost live in
    let cap_ = (All-get_or (λ (x : Column). (1 ≤ x.cap) × (x.cap ≤ 1000)) X.columns d no_column column i.well_formed.capacities).0 in
    let some : 0 < capacity_at X d = omega (arith, cap_, capacity_is X d no_column column) in
    let c = first_copy X d + 0 in
    let copy : c < square_side X = omega (arith, copy_below X d 0 some, copies_within X) in
    let label = label_at X d 0 some in
    let cell : square_cell X free_grade grade_of r c ≡ Some (grade_of cost) =
    ap (λ b. cond (b && nat_lt c (square_side X)) (labelled_cell X free_grade grade_of (row_label X r) (column_label X c)) None) (lt-ltb r (square_side X) row)
    ∙ ap (λ b. cond b (labelled_cell X free_grade grade_of (row_label X r) (column_label X c)) None) (lt-ltb c (square_side X) copy)
    ∙ ap (λ b. labelled_cell X free_grade grade_of (cond b (Some r) None) (column_label X c)) counted
    ∙ ap (labelled_cell X free_grade grade_of (Some r)) label
    ∙ ap (option_map grade_of) live in
    (r, c, subst (λ n. r < n) (sym square.labels.side) row, subst (λ n. c < n) (sym square.labels.side) copy, square.cells r c ∙ cell)
