-- Squares whose absent cells get the grade of no cell.
use Rattle.asg_thresh.proofs.Common.{◌≡◌, ℕ, ◌+◌, ◌*◌, ◌<◌, ◌≤◌, cond, List, length, get_or, set, is_some, IsSome, Some, None, Option, sym, refl, ap, ◌∙◌, ⊎_elim, arith, length-set, get_or-set_other, get_or-set_same, le-ltb, lt-ltb, cases_lt, false≢true, mul-add-lt, same_Some, slice_get-get_or, Grid, cell_at, IsPerm, no_grade, Grades, AreGradesOf, unwrap_or}
use Rattle.asg_cell_tables.specs.CellTable.{AreAllValuesOf}

some_is : (o : Option ℕ) → IsSome o → o ≡ Some (unwrap_or o no_grade)
some_is None h = absurd (false≢true h)
some_is (Some v) h = refl

-- where all cells are present, nothing is to be done
pub grades_full : (Q : Grid ℕ) (first end : ℕ) → ((k : ℕ) → first ≤ k → k < end → IsSome (get_or Q.cells k None)) → Grades Q Q first end
grades_full Q first end all = record {
  same = refl;
  size = refl;
  inside = λ k from below. some_is (get_or Q.cells k None) (all k from below);
  before = λ k h. refl;
  past = λ k h. refl;
}

-- no cell yet
pub grades_none : (Q : Grid ℕ) (first : ℕ) → Grades Q Q first first
grades_none Q first = grades_full Q first first (λ k from below. absurd (omega (arith, from, below)))

-- one cell, which was absent
pub grades_one : (Q : Grid ℕ) (place : ℕ) → place < length Q.cells → get_or Q.cells place None ≡ None → Grades Q (record Q { cells = set Q.cells place (Some no_grade) }) place (place + 1)
grades_one Q place within absent =
    let other = λ (k : ℕ) (apart : k ≡ place → ⊥). get_or-set_other Q.cells place k (Some no_grade) None apart in
    record {
      same = refl;
      size = length-set Q.cells place (Some no_grade);
      inside = λ k from below.
          let here : k ≡ place = omega (arith, from, below) in
          ap (λ i. get_or (set Q.cells place (Some no_grade)) i None) here
          ∙ get_or-set_same Q.cells place (Some no_grade) None within
          ∙ sym (ap (λ o. Some (unwrap_or o no_grade)) (ap (λ i. get_or Q.cells i None) here ∙ absent));
      before = λ k h. other k (λ e. omega (arith, e, h));
      past = λ k h. other k (λ e. omega (arith, e, h));
    }

-- once all absent cells have the grade of no cell, the values are the grades
pub grades_are : (Q A : Grid ℕ) (values : List ℕ) → length values ≡ Q.side * Q.side → Grades Q A 0 (Q.side * Q.side) → AreAllValuesOf A.cells values → AreGradesOf Q values
grades_are Q A values count graded are = record {
  count = count;
  cells = λ r c h k.
      let place = r * Q.side + c in
      let below = mul-add-lt r Q.side c Q.side h k in
      let cell = graded.inside place (omega arith) below in
      same_Some (get_or values place 0) (unwrap_or (get_or Q.cells place None) no_grade)
      (sym (slice_get-get_or values place 0 (omega (arith, below, count))) ∙ are.each place (ap is_some cell) ∙ cell)
      ∙ sym (ap (λ b. unwrap_or (cond b (get_or Q.cells place None) None) no_grade) (lt-ltb c Q.side k));
}

-- a perfect assignment stays one
pub perm_graded : (A : Grid ℕ) (cells : List (Option ℕ)) (p : List ℕ) → Grades (record A { cells = cells }) A 0 (A.side * A.side) → IsPerm (record A { cells = cells }) p → IsPerm A p
perm_graded A cells p graded perm = record {
  over = perm.over;
  apart = perm.apart;
  present = λ r h. there r (get_or p r 0) h (perm.present r h);
}
  where
    there : (r c : ℕ) → r < A.side → IsSome (cell_at (record A { cells = cells }) r c) → IsSome (cell_at A r c)
    there r c h some =
        ⊎_elim
        (λ (k : c < A.side).
        ap (λ b. is_some (cond b (get_or A.cells (r * A.side + c) None) None)) (lt-ltb c A.side k)
        ∙ ap is_some (graded.inside (r * A.side + c) (omega arith) (mul-add-lt r A.side c A.side h k)))
        (λ (past : A.side ≤ c).
        absurd (false≢true (sym (ap (λ b. is_some (cond b (get_or cells (r * A.side + c) None) None)) (le-ltb c A.side past)) ∙ some)))
        (cases_lt c A.side)
