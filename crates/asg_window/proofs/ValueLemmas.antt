-- The spread of a choice from that of its assignment.
use Rattle.asg_window.proofs.Common.{◌≡◌, ℕ, ◌+◌, ◌<◌, ◌≤◌, List, [], ◌∷◌, length, ℤ, pos, negsuc, ◌+ℤ◌, ◌-ℤ◌, ◌≤ℤ◌, slice_index, unsigned_abs, Some, None, fold, All, Option, option_and_then, sym, refl, ap, ◌∙◌, subst, ⊎_elim, arith, All-cons, All-map, All-weaker, cases_lt, fold-int_max_bounds, fold-int_min_bounds, get_or-map, int_max, int_min, ints, length-map, none-some, option_map_or, same_Some, slice_get_past, grade_of, free_grade, cost_of, grade_above, costs_each, costs_some, costs_at_row, chosen_live, greatest-le, least-ge, if_some, from_if_some, IsInstance, most_cost, live_at, Problem, square_side, chosen_cost, costs_of, first_parts, choice_value, Balanced, Cost, first_part_in_range, square_cell, entered_or_free, Grid, cell_at, IsSquareOf, IsAssignmentWithin, IsSpread}
use Rattle.asg_model.specs.declared.objectives.Value.TheVariants.{One}
use Rattle.asg_model.specs.Extremes.{greatest, least}
use Rattle.asg_model.specs.ValidChoice.{IsValid}

-- no number of a list is past its extremes
greatest-upper : (xs : List ℤ) → All (λ x. x ≤ℤ greatest xs) xs
greatest-upper [] = λ k d h. absurd (omega arith)
greatest-upper (x ∷ xs) = let both = fold-int_max_bounds x xs (fold int_max x xs) refl in All-cons (λ y. y ≤ℤ fold int_max x xs) x xs both.0 both.1

least-lower : (xs : List ℤ) → All (λ x. least xs ≤ℤ x) xs
least-lower [] = λ k d h. absurd (omega arith)
least-lower (x ∷ xs) = let both = fold-int_min_bounds x xs (fold int_min x xs) refl in All-cons (λ y. fold int_min x xs ≤ℤ y) x xs both.0 both.1

All-from_map : (P : ℤ → Type 0) (costs : List Cost) → All P (first_parts costs) → All (λ (cost : Cost). P cost.a) costs
All-from_map P costs all k d h =
    subst P (get_or-map (λ (cost : Cost). cost.a) costs k d d.a h) (all k d.a (omega (arith, h, length-map costs (λ (cost : Cost). cost.a))))

-- a row with a cost is one of the choice
chosen_row : (X : Problem) (f : List (Option ℕ)) (r : ℕ) (cost : Cost) → chosen_cost X f r ≡ Some cost → r < length f
chosen_row X f r cost chosen =
    ⊎_elim (λ (h : r < length f). h)
    (λ (past : length f ≤ r). absurd (none-some cost (sym (ap (λ o. option_and_then (λ c. option_and_then (live_at X r) c) o) (slice_get_past f r past)) ∙ chosen)))
    (cases_lt r (length f))

-- a grade above that of a free cell is that of a cost
some_cost_by : (o : Option Cost) (grade : ℕ) → 0 < grade → option_map_or grade_of o free_grade ≡ grade → (cost : Cost) × (o ≡ Some cost) × (grade_of cost ≡ grade)
some_cost_by (Some cost) grade some e = (cost, refl, e)
some_cost_by None grade some e = absurd (omega (arith, some, e))

module _ (X : Problem) (Q : Grid ℕ) (i : IsInstance X) (square : IsSquareOf X free_grade grade_of Q) (perm : List ℕ) (f : List (Option ℕ)) (valid : IsValid X f) (values : (r : ℕ) → r < square_side X → square_cell X free_grade grade_of r (slice_index perm r) ≡ Some (entered_or_free X free_grade grade_of f r)) (rows_within : length X.rows ≤ square_side X) where
  cost_range : (r : ℕ) (cost : Cost) → chosen_cost X f r ≡ Some cost → unsigned_abs cost.a ≤ most_cost
  cost_range r cost chosen =
      let live = chosen_live X f r cost chosen in
      from_if_some (λ c. unsigned_abs c.a ≤ most_cost) (live_at X r live.0) cost live.1 (first_part_in_range X i r live.0)

  -- the cell of a row, by what the row chooses
  cell_is : (r : ℕ) → r < Q.side → cell_at Q r (slice_index perm r) ≡ Some (option_map_or grade_of (chosen_cost X f r) free_grade)
  cell_is r h = square.cells r (slice_index perm r) ∙ values r (subst (λ n. r < n) square.labels.side h)

  -- the costs of an assignment within a band
  costs_in : (low high : ℕ) → IsAssignmentWithin Q low high perm → (P : Cost → Type 0) → ((cost : Cost) → unsigned_abs cost.a ≤ most_cost → low ≤ grade_of cost → grade_of cost < high → P cost) → All P (costs_of X f)
  costs_in low high a P show =
      costs_each X f P
      (λ r h.
      if_some P (chosen_cost X f r)
      (λ cost chosen.
      let row : r < square_side X = omega (arith, h, valid.over, rows_within) in
      let side : r < Q.side = subst (λ n. r < n) (sym square.labels.side) row in
      let w = a.cells r side in
      let same : w.grade ≡ grade_of cost = same_Some w.grade (grade_of cost) (sym w.cell ∙ cell_is r side ∙ ap (λ o. Some (option_map_or grade_of o free_grade)) chosen) in
      let range = cost_range r cost chosen in
      let both = subst (λ g. (low ≤ g) × (g < high)) same (w.inside (subst (λ g. 0 < g) (sym same) (grade_above cost range))) in
      show cost range both.0 both.1))

  -- an assignment of costs between two
  assignment_in : (low high from to : ℕ) → IsAssignmentWithin Q low high perm → All (λ (cost : Cost). (from ≤ grade_of cost) × (grade_of cost < to)) (costs_of X f) → IsAssignmentWithin Q from to perm
  assignment_in low high from to a all = record {
    over = a.over;
    apart = a.apart;
    cells = λ r h.
        let w = a.cells r h in
        record {
          row = w.row;
          column = w.column;
          grade = w.grade;
          cell = w.cell;
          inside = λ live.
              let e : option_map_or grade_of (chosen_cost X f r) free_grade ≡ w.grade = same_Some (option_map_or grade_of (chosen_cost X f r) free_grade) w.grade (sym (cell_is r h) ∙ w.cell) in
              let cost = some_cost_by (chosen_cost X f r) w.grade live e in
              let at = costs_at_row X f (λ (cost : Cost). (from ≤ grade_of cost) × (grade_of cost < to)) all r (chosen_row X f r cost.0 cost.1) in
              subst (λ g. (from ≤ g) × (g < to)) cost.2 (from_if_some (λ (c : Cost). (from ≤ grade_of c) × (grade_of c < to)) (chosen_cost X f r) cost.0 cost.1 at);
        };
  }

  abbrev firsts : List ℤ
  firsts = first_parts (costs_of X f)

  firsts_some : 0 < length firsts
  firsts_some = subst (λ n. 0 < n) (sym (length-map (costs_of X f) (λ cost. cost.a))) (costs_some X f i valid)

  module _ (spread : ℕ) (s : IsSpread Q perm spread) where
    -- the greatest cost isn't further from the least than the spread
    upto_spread : (greatest firsts -ℤ least firsts) ≤ℤ pos spread
    upto_spread =
        let high = greatest-le firsts (cost_of (s.low + spread)) firsts_some (All-map (λ x. x ≤ℤ cost_of (s.low + spread)) (λ cost. cost.a) (costs_of X f) (costs_in s.low (s.low + spread + 1) s.within (λ cost. cost.a ≤ℤ cost_of (s.low + spread)) (λ cost range low less. grind (arith, ints)))) in
        let low = least-ge firsts (cost_of s.low) firsts_some (All-map (λ x. cost_of s.low ≤ℤ x) (λ cost. cost.a) (costs_of X f) (costs_in s.low (s.low + spread + 1) s.within (λ cost. cost_of s.low ≤ℤ cost.a) (λ cost range low less. grind (arith, ints)))) in
        omega (arith, ints)

    cost_ranges : All (λ (cost : Cost). unsigned_abs cost.a ≤ most_cost) (costs_of X f)
    cost_ranges = costs_each X f (λ cost. unsigned_abs cost.a ≤ most_cost) (λ r h. if_some (λ cost. unsigned_abs cost.a ≤ most_cost) (chosen_cost X f r) (λ cost chosen. cost_range r cost chosen))

    -- the least cost is one that there may be
    least_range : negsuc 999999999 ≤ℤ least firsts
    least_range =
        least-ge firsts (negsuc 999999999) firsts_some
        (All-map (λ x. negsuc 999999999 ≤ℤ x) (λ cost. cost.a) (costs_of X f)
        (All-weaker (λ cost. unsigned_abs cost.a ≤ most_cost) (λ cost. negsuc 999999999 ≤ℤ cost.a) (λ cost h. grind (arith, ints)) (costs_of X f) cost_ranges))

    abbrev from : ℕ
    from = unsigned_abs (least firsts +ℤ pos 1000000001)

    abbrev count : ℕ
    count = unsigned_abs (greatest firsts -ℤ least firsts) + 1

    between : All (λ (cost : Cost). (from ≤ grade_of cost) × (grade_of cost < from + count)) (costs_of X f)
    between k d h =
        let range = cost_ranges k d h in
        let low = All-from_map (λ x. least firsts ≤ℤ x) (costs_of X f) (least-lower firsts) k d h in
        let high = All-from_map (λ x. x ≤ℤ greatest firsts) (costs_of X f) (greatest-upper firsts) k d h in
        let bottom = least_range in
        (grind (arith, ints), grind (arith, ints))

    from_spread : pos spread ≤ℤ (greatest firsts -ℤ least firsts)
    from_spread =
        let less = s.least from count (omega arith) (assignment_in s.low (s.low + spread + 1) from (from + count) s.within between) in
        let apart = firsts_apart in
        grind (arith, ints)
      where
        firsts_apart : least firsts ≤ℤ greatest firsts
        firsts_apart = by firsts firsts_some
          where
            by : (xs : List ℤ) → 0 < length xs → least xs ≤ℤ greatest xs
            by [] h = absurd (omega arith)
            by (x ∷ xs) h =
                let low = (fold-int_min_bounds x xs (fold int_min x xs) refl).0 in
                let high = (fold-int_max_bounds x xs (fold int_max x xs) refl).0 in
                grind (arith, ints)

    -- the value of the choice is the spread
    pub value_is : choice_value Balanced X f ≡ One (pos spread)
    value_is =
        let upto = upto_spread in
        let from_ = from_spread in
        let same : (greatest firsts -ℤ least firsts) ≡ pos spread = omega (arith, ints) in
        ap One same
