-- The different costs of live cells, from the grades of entries.
use Rattle.asg_window.proofs.Common.{◌≡◌, ℕ, zero, suc, ◌+◌, ◌-◌, ◌<◌, ◌≤◌, List, map, length, get_or, slice_index, unsigned_abs, Some, All, Contains, sym, ap, ◌∙◌, subst, ⊎_elim, arith, cases_lt, get_or-map, get_or_default, ints, length-map, grade_of, free_grade, cost_of, entry_of, entry_at, AreEntries, Entry, place_of_entry, cost_back, grade_upto, from_if_some, HasCosts, IsInstance, most_cost, live_at, Problem, Cost, first_part_in_range, Grid, IsSquareOf, IsSpread, AreGradesOf}
use Rattle.asg_window.proofs.SquareCells.{live_from_cell, cell_from_live}

cost_apart : (i j : ℕ) → i < j → cost_of i ≡ cost_of j → ⊥
cost_apart i j h e = grind (arith, ints)

module _ (X : Problem) (Q : Grid ℕ) (i : IsInstance X) (square : IsSquareOf X free_grade grade_of Q) (entries : List Entry) (e : AreEntries Q entries) (grades : List ℕ) (g : AreGradesOf entries grades) where
  -- each live cost's grade is in the list
  pub grade_listed : (r c : ℕ) (cost : Cost) → live_at X r c ≡ Some cost → Contains grades (grade_of cost) × (cost_of (grade_of cost) ≡ cost.a) × (0 < grade_of cost)
  grade_listed r c cost live =
      let range = from_if_some (λ (x : Cost). unsigned_abs x.a ≤ most_cost) (live_at X r c) cost live (first_part_in_range X i r c) in
      let at = cell_from_live X Q i square r c cost live in
      let some : 0 < grade_of cost = grind (arith, ints) in
      let place = place_of_entry entries (entry_of (grade_of cost) at.0 at.1) (e.every at.0 at.1 (grade_of cost) at.2 at.3 some at.4) in
      let same : (entry_at entries place.0).grade ≡ grade_of cost = ap (λ (x : Entry). x.grade) place.2 in
      (subst (Contains grades) same (g.every place.0 place.1), cost_back cost range, some)

  -- each grade of the list is that of a live cell
  listed_live : (k : ℕ) → k < length grades → (r : ℕ) × (c : ℕ) × (cost : Cost) × (live_at X r c ≡ Some cost) × (grade_of cost ≡ get_or grades k 0) × (unsigned_abs cost.a ≤ most_cost)
  listed_live k h =
      let at = g.each k 0 h in
      let entry = e.each at.0 (entry_of 0 0 0) at.1 in
      let live = live_from_cell X Q square (entry_at entries at.0).row (entry_at entries at.0).column (entry_at entries at.0).grade entry.live entry.cell in
      (live.0, live.1, live.2, live.3, live.4 ∙ at.2, from_if_some (λ (x : Cost). unsigned_abs x.a ≤ most_cost) (live_at X live.0 live.1) live.2 live.3 (first_part_in_range X i live.0 live.1))

  -- the grades lie between those of the least and the greatest cost
  pub grades_fit : All (λ v. (1 ≤ v) × (v ≤ 2000000001)) grades
  grades_fit k d h =
      let at = listed_live k h in
      let same = get_or_default grades k d 0 h in
      let upto = grade_upto at.2 at.5 in
      let grade = at.4 in
      let some = g.each k 0 h in
      let entry = e.each some.0 (entry_of 0 0 0) some.1 in
      let live = entry.live in
      let is = some.2 in
      (omega (arith, live, is, same), omega (arith, upto, grade, same))

  -- the costs of the grades are the different costs of the live cells
  pub HasCosts-grades : HasCosts X (length grades)
  HasCosts-grades = record {
    costs = map cost_of grades;
    all = record {
      apart = λ a b d h k same.
          let second : b < length grades = omega (arith, k, length-map grades cost_of) in
          let one = get_or-map cost_of grades a 0 d (omega (arith, h, second)) in
          let two = get_or-map cost_of grades b 0 d second in
          cost_apart (get_or grades a 0) (get_or grades b 0) (g.ascending a b h second) (sym one ∙ same ∙ two);
      exact = λ a. (
        λ has.
            let within : has.0 < length grades = omega (arith, has.1, length-map grades cost_of) in
            let at = listed_live has.0 within in
            record {
              row = at.0;
              column = at.1;
              cost = at.2;
              live = at.3;
              is = sym (cost_back at.2 at.5) ∙ ap cost_of at.4 ∙ sym (get_or-map cost_of grades has.0 0 a within) ∙ has.2;
            },
        λ live.
            let listed = grade_listed live.row live.column live.cost live.live in
            let at = listed.0 in
            (at.0, omega (arith, at.1, length-map grades cost_of), get_or-map cost_of grades at.0 (grade_of live.cost) a at.1 ∙ ap cost_of at.2 ∙ listed.1 ∙ live.is),
      );
    };
    counted = length-map grades cost_of;
  }

  -- an assignment's spread is less than the greatest grade
  pub spread_fits : (perm : List ℕ) (spread : ℕ) → IsSpread Q perm spread → spread < 2000000001
  spread_fits perm spread s =
      s.least 1 2000000001 (omega arith)
      (record {
        over = s.within.over;
        apart = s.within.apart;
        cells = λ r h.
            let w = s.within.cells r h in
            record {
              row = w.row;
              column = w.column;
              grade = w.grade;
              cell = w.cell;
              inside = λ live.
                  let at = live_from_cell X Q square r (slice_index perm r) w.grade live w.cell in
                  let range = from_if_some (λ (x : Cost). unsigned_abs x.a ≤ most_cost) (live_at X at.0 at.1) at.2 at.3 (first_part_in_range X i at.0 at.1) in
                  let upto = grade_upto at.2 range in
                  let same = at.4 in
                  (omega (arith, live), omega (arith, upto, same));
            };
      })

  -- a grade is greater than its place
  grade_past : (k : ℕ) → k < length grades → k + 1 ≤ get_or grades k 0
  grade_past zero h = let fit = (grades_fit 0 0 h).0 in omega (arith, fit)
  grade_past (suc k) h =
      let before = grade_past k (omega (arith, h)) in
      let order = g.ascending k (suc k) (omega arith) h in
      omega (arith, before, order)

  -- so there are no more than the greatest grade
  pub count_fits : length grades ≤ 2000000001
  count_fits =
      ⊎_elim
      (λ (none : length grades < 1). omega (arith, none))
      (λ (some : 1 ≤ length grades).
      let last : length grades - 1 < length grades = omega (arith, some) in
      let past = grade_past (length grades - 1) last in
      let fit = (grades_fit (length grades - 1) 0 last).1 in
      omega (arith, some, past, fit))
      (cases_lt (length grades) 1)
