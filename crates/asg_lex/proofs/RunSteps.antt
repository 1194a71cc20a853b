-- From one cost to the next: what is marked is what is left without the costs that were gone
-- through.
use Rattle.asg_lex.proofs.Common.{◌≡◌, ℕ, zero, suc, ◌+◌, ◌<◌, ◌≤◌, Bool, true, false, cond, not, ◌&&◌, ◌≢◌, List, length, ℤ, pos, ◌+ℤ◌, IfSome, nat_lt, ◌==◌, unsigned_abs, int_lt, int_le, Some, None, Option, option_map, sym, refl, ap, ◌∙◌, subst, ⊎_elim, arith, cases_lt, ints, nat_tests, option_map_or, extra_column_cell, corner_cell, labelled_cell, is_gone, grade_of, free_grade, cost_of, entry_of, entry_at, AreEntriesUnder, IsPlaceOf, IsNamed, Entry, IsInstance, most_cost, live_at, Problem, square_side, Cost, Place, has_cost, without, is_after, is_between, first_part_in_range, Grid, cell_at, IsSquareOf, row_label, column_label}
use Rattle.asg_live_cells.specs.laws.Entries.{place_of_entry}
use Rattle.asg_live_cells.specs.laws.Grades.{cost_back}
use Rattle.asg_model.specs.declared.parts.Place.TheVariants.{All as PlaceAll, Exactly}

-- ---- the cost of a cell by its grade

-- a cell of this grade, free ones aside, has a cost that passes
abbrev pub passes_at : (ℤ → Bool) → ℕ → Bool
passes_at passes grade = cond (grade == 0) false (passes (cost_of grade))

pub passes_some : (passes : ℤ → Bool) (g : ℕ) → 0 < g → passes_at passes g ≡ passes (cost_of g)
passes_some passes g h = ap (λ b. cond b false (passes (cost_of g))) (apart g h)
  where
    apart : (g : ℕ) → 0 < g → (g == 0) ≡ false
    apart g h = grind (arith, h)

grade_apart : (a : ℤ) → unsigned_abs a ≤ most_cost → (unsigned_abs (a +ℤ pos (most_cost + 1)) == 0) ≡ false
grade_apart a h = grind (arith, ints, nat_tests, h)

module _ (passes : ℤ → Bool) (X : Problem) (instance : IsInstance X) where
  by_grade : (o : Option Cost) → IfSome o (λ cost. unsigned_abs cost.a ≤ most_cost) → option_map (λ cost. passes cost.a) o ≡ option_map (passes_at passes) (option_map grade_of o)
  by_grade None near = refl
  by_grade (Some cost) near =
      ap Some (sym (ap (λ b. cond b false (passes (cost_of (grade_of cost)))) (grade_apart cost.a near) ∙ ap passes (cost_back cost near)))

  extra_grade : (place : Place) → extra_column_cell place false ≡ option_map (passes_at passes) (extra_column_cell place free_grade)
  extra_grade PlaceAll = refl
  extra_grade (Exactly k) = refl

  corner_grade : (place : Place) → corner_cell place false ≡ option_map (passes_at passes) (corner_cell place free_grade)
  corner_grade PlaceAll = refl
  corner_grade (Exactly k) = refl

  labelled_grade : (row column : Option ℕ) → labelled_cell X false (λ cost. passes cost.a) row column ≡ option_map (passes_at passes) (labelled_cell X free_grade grade_of row column)
  labelled_grade (Some r) (Some d) = by_grade (live_at X r d) (first_part_in_range X instance r d)
  labelled_grade (Some r) None = extra_grade X.place
  labelled_grade None (Some d) = refl
  labelled_grade None None = corner_grade X.place

  cell_grade : (b : Bool) (o : Option Bool) (p : Option ℕ) → o ≡ option_map (passes_at passes) p → cond b o None ≡ option_map (passes_at passes) (cond b p None)
  cell_grade true o p e = e
  cell_grade false o p e = refl

  -- whether a cell's cost passes, by its grade in the square
  pub has_cost_by : (Q : Grid ℕ) → IsSquareOf X free_grade grade_of Q → (r c : ℕ) → has_cost X passes r c ≡ option_map_or (passes_at passes) (cell_at Q r c) false
  has_cost_by Q square r c =
      ap (λ o. option_map_or (λ b. b) o false)
      (cell_grade (nat_lt r (square_side X) && nat_lt c (square_side X)) (labelled_cell X false (λ cost. passes cost.a) (row_label X r) (column_label X c)) (labelled_cell X free_grade grade_of (row_label X r) (column_label X c)) (labelled_grade (row_label X r) (column_label X c))
      ∙ ap (option_map (passes_at passes)) (sym (square.cells r c)))
      ∙ joined (cell_at Q r c)
    where
      joined : (o : Option ℕ) → option_map_or (λ b. b) (option_map (passes_at passes) o) false ≡ option_map_or (passes_at passes) o false
      joined None = refl
      joined (Some g) = refl

-- ---- entries of one grade

module _ (Q : Grid ℕ) (limit : ℕ) (entries : List Entry) (are : AreEntriesUnder Q limit entries) (bound grade from to last : ℕ) (reach : bound ≤ limit)
    (upper : IsPlaceOf entries bound to) (lower : IsPlaceOf entries grade from) (end : last + 1 ≡ to) (is : (entry_at entries last).grade ≡ grade)
  where
    last_below : last < to
    last_below = omega (arith, end)

    pub below_bound : grade < bound
    below_bound = subst (λ n. n < bound) is (upper.below last last_below)

    within : last < length entries
    within = omega (arith, end, upper.within)

    pub grade_some : 0 < grade
    grade_some = subst (λ n. 0 < n) is (are.each last (entry_of 0 0 0) within).live

    -- the entry of a live cell
    entry_there : (r c g : ℕ) → r < Q.side → c < Q.side → 0 < g → g < limit → cell_at Q r c ≡ Some g → (k : ℕ) × (k < length entries) × (entry_at entries k ≡ entry_of g r c)
    entry_there r c g hr hc live under cell =
        place_of_entry entries (entry_of g r c) (are.every r c g hr hc live under cell)

    upto : (k : ℕ) → k < to → (entry_at entries k).grade ≤ grade
    upto k h = subst (λ n. (entry_at entries k).grade ≤ n) is (are.ascending k last (entry_of 0 0 0) (omega (arith, h, end)) within)

    -- no cell has a grade between
    pub none_between : (r c g : ℕ) → r < Q.side → c < Q.side → 0 < g → cell_at Q r c ≡ Some g → grade < g → g < bound → ⊥
    none_between r c g hr hc live cell above below =
        let there = entry_there r c g hr hc live (omega (arith, below, reach)) cell in
        let same = ap (λ (e : Entry). e.grade) there.2 in
        ⊎_elim
        (λ (before : there.0 < to). let most = upto there.0 before in omega (arith, most, same, above))
        (λ (past : to ≤ there.0). let high = upper.from there.0 past there.1 in omega (arith, high, same, below))
        (cases_lt there.0 to)

    pub cell_from : (r c : ℕ) → IsNamed entries from to r c → (r < Q.side) × (c < Q.side) × (cell_at Q r c ≡ Some grade)
    cell_from r c n =
        let place = n.place in
        let h : place < length entries = let before = n.before in omega (arith, before, upper.within) in
        let entry = are.each place (entry_of 0 0 0) h in
        let most = upto place n.before in
        let low = lower.from place n.after h in
        let same : (entry_at entries place).grade ≡ grade = omega (arith, most, low) in (
          subst (λ m. m < Q.side) n.row entry.row_below,
          subst (λ m. m < Q.side) n.column entry.column_below,
          subst (λ m. cell_at Q m c ≡ Some grade) n.row (subst (λ m. cell_at Q (entry_at entries place).row m ≡ Some grade) n.column (entry.cell ∙ ap Some same)),
        )

    pub named_from : (r c : ℕ) → r < Q.side → c < Q.side → cell_at Q r c ≡ Some grade → IsNamed entries from to r c
    named_from r c hr hc cell =
        let there = entry_there r c grade hr hc grade_some (omega (arith, below_bound, reach)) cell in
        let same = ap (λ (e : Entry). e.grade) there.2 in
        record {
          place = there.0;
          after = ⊎_elim (λ (less : there.0 < from). let low = lower.below there.0 less in absurd (omega (arith, low, same))) (λ (after : from ≤ there.0). after) (cases_lt there.0 from);
          before = ⊎_elim (λ (before : there.0 < to). before) (λ (past : to ≤ there.0). let high = upper.from there.0 past there.1 in absurd (omega (arith, high, same, below_bound))) (cases_lt there.0 to);
          row = ap (λ (e : Entry). e.row) there.2;
          column = ap (λ (e : Entry). e.column) there.2;
        }

    -- ---- tests of costs by the grade of a cell

    le_of_costs : (n g : ℕ) → n ≤ g → int_le (cost_of n) (cost_of g) ≡ true
    le_of_costs n g h = grind (arith, ints, h)

    not_le_of_costs : (n g : ℕ) → g < n → int_le (cost_of n) (cost_of g) ≡ false
    not_le_of_costs n g h = grind (arith, ints, h)

    lt_of_costs : (n g : ℕ) → n < g → int_lt (cost_of n) (cost_of g) ≡ true
    lt_of_costs n g h = grind (arith, ints, h)

    not_lt_of_costs : (n g : ℕ) → g ≤ n → int_lt (cost_of n) (cost_of g) ≡ false
    not_lt_of_costs n g h = grind (arith, ints, h)

    module _ (before : Option ℤ) where
      and_same : (a x y : Bool) → x ≡ y → (a && x) ≡ (a && y)
      and_same a x y e = ap (λ b. a && b) e

      -- a cost of another grade is gone by the one bound where it is by the other
      gone_same : (r c g : ℕ) → r < Q.side → c < Q.side → 0 < g → cell_at Q r c ≡ Some g → g ≢ grade → is_gone before bound (cost_of g) ≡ is_gone before grade (cost_of g)
      gone_same r c g hr hc live cell other =
          and_same (is_after before (cost_of g)) (int_le (cost_of bound) (cost_of g)) (int_le (cost_of grade) (cost_of g))
          (⊎_elim
          (λ (less : g < grade). not_le_of_costs bound g (omega (arith, less, below_bound)) ∙ sym (not_le_of_costs grade g less))
          (λ (more : grade ≤ g).
          ⊎_elim
          (λ (low : g < bound). absurd (none_between r c g hr hc live cell (omega (arith, more, other)) low))
          (λ (high : bound ≤ g). le_of_costs bound g high ∙ sym (le_of_costs grade g more))
          (cases_lt g bound))
          (cases_lt g grade))

      -- and where it lies between the last level's cost and this one
      between_same : (r c g : ℕ) → r < Q.side → c < Q.side → 0 < g → cell_at Q r c ≡ Some g → is_gone before bound (cost_of g) ≡ is_between before (cost_of grade) (cost_of g)
      between_same r c g hr hc live cell =
          and_same (is_after before (cost_of g)) (int_le (cost_of bound) (cost_of g)) (int_lt (cost_of grade) (cost_of g))
          (⊎_elim
          (λ (low : g < bound).
          ⊎_elim
          (λ (above : grade < g). absurd (none_between r c g hr hc live cell above low))
          (λ (upto_grade : g ≤ grade). not_le_of_costs bound g low ∙ sym (not_lt_of_costs grade g upto_grade))
          (cases_lt grade g))
          (λ (high : bound ≤ g). le_of_costs bound g high ∙ sym (lt_of_costs grade g (omega (arith, high, below_bound))))
          (cases_lt g bound))

      module _ (X : Problem) (instance : IsInstance X) (square : IsSquareOf X free_grade grade_of Q) (left : ℕ → ℕ → Bool) where
        -- a cell's test of costs, by cases on its grade
        by_cell : (p q : ℤ → Bool) (r c : ℕ) → ((g : ℕ) → 0 < g → cell_at Q r c ≡ Some g → p (cost_of g) ≡ q (cost_of g)) → has_cost X p r c ≡ has_cost X q r c
        by_cell p q r c same =
            has_cost_by p X instance Q square r c ∙ at (cell_at Q r c) refl ∙ sym (has_cost_by q X instance Q square r c)
          where
            by_zero : (g : ℕ) → cell_at Q r c ≡ Some g → passes_at p g ≡ passes_at q g
            by_zero zero e = refl
            by_zero (suc g) e = ap (λ b. cond (suc g == 0) false b) (same (suc g) (omega arith) e)

            at : (o : Option ℕ) → cell_at Q r c ≡ o → option_map_or (passes_at p) o false ≡ option_map_or (passes_at q) o false
            at None e = refl
            at (Some g) e = by_zero g e

        -- what is left for the cost, by the bits that are marked
        pub left_is : (r c : ℕ) → r < Q.side → c < Q.side → without X (is_gone before bound) left r c ≡ without X (is_between before (cost_of grade)) left r c
        left_is r c hr hc =
            ap (λ b. left r c && not b) (by_cell (is_gone before bound) (is_between before (cost_of grade)) r c (λ g live cell. between_same r c g hr hc live cell))

        -- a cell that isn't of the grade stays as it was with the lesser bound
        pub stays_is : (r c : ℕ) → r < Q.side → c < Q.side → (cell_at Q r c ≡ Some grade → ⊥) → without X (is_gone before bound) left r c ≡ without X (is_gone before grade) left r c
        stays_is r c hr hc other =
            ap (λ b. left r c && not b) (by_cell (is_gone before bound) (is_gone before grade) r c
            (λ g live cell. gone_same r c g hr hc live cell (λ e. absurd (other (cell ∙ ap Some e)))))
