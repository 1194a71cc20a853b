-- Dual variables bound the sums of the answers in a part and in its children.
use Rattle.asg_dual_bounds.proofs.Common.{◌≡◌, ℕ, ◌+◌, ◌-◌, ◌*◌, ◌<◌, ◌≤◌, List, length, slice_index, sum, sym, refl, ap, ◌∙◌, subst, ⊎_elim, arith, cases_eq, cases_order, Duals, AreAbove, IsDualBound, IsRowGap, IsColumnGap, number_at, chosen_number, sum_at, IsAnswer, Part, IsAllowed, IsIn, child_part, Problem, sum_below, Objective, sum_by-below}
use Rattle.asg_dual_bounds.proofs.PlaceSums.{sums_bound, raised, raised_here, raised_else, sum_below-raised, lessened, lessened_here, lessened_else, sum_below-lessened}
use Rattle.asg_dual_bounds.proofs.Answers.{answer_number, answer_below, answer_different}
use Rattle.asg_dual_bounds.proofs.Splits.{allowed_later, first_banned}

-- a list's sum, by places
pub sum_places : (xs : List ℕ) (n : ℕ) → length xs ≡ n → sum xs ≡ sum_below (slice_index xs) n
sum_places xs n e = sum_by-below (λ x. x) xs 0 ∙ ap (sum_below (slice_index xs)) e

module _ (objective : Objective) (X : Problem) (part : Part) (duals : Duals) (b : ℕ) (above : AreAbove objective X part duals) (bound : IsDualBound (length X.columns) (length X.rows) duals b) where
  abbrev n : ℕ
  n = length X.rows

  abbrev m : ℕ
  m = length X.columns

  abbrev fall : ℕ → ℕ
  fall = slice_index duals.falls

  abbrev rise : ℕ → ℕ
  rise = slice_index duals.rises

  -- the bound by places
  placed_bound : b + sum_below rise m ≤ sum_below fall n + (m - n) * duals.floor
  placed_bound =
      let falls = sum_places duals.falls n above.rows in
      let rises = sum_places duals.rises m above.columns in
      omega (arith, falls, rises, bound)

  pub dual_bound : (columns : List ℕ) → IsAnswer objective X columns → IsIn part columns → b ≤ sum_at objective X columns
  dual_bound columns is in_part =
      sums_bound n m duals.floor b fall rise (chosen_number objective X columns) (slice_index columns)
      (answer_below objective X columns is)
      (answer_different objective X columns is)
      (λ r h. above.cells r (slice_index columns r) (chosen_number objective X columns r) (answer_number objective X columns is r h) (in_part r (omega (arith, h, is.over))))
      above.floored
      placed_bound

  module _ (answer : List ℕ) (k row_gap column_gap : ℕ) (is_given : IsAnswer objective X answer) (given_in : IsIn part answer) (from : part.row ≤ k) (upto : k < length X.rows) (row : IsRowGap objective X part answer k duals row_gap) (column : IsColumnGap objective X answer k duals column_gap) where
    abbrev lost : ℕ
    lost = slice_index answer k

    abbrev child_fall : ℕ → ℕ
    child_fall = raised fall k row_gap

    abbrev child_rise : ℕ → ℕ
    child_rise = lessened rise lost column_gap

    child_bound_places : b + row_gap + column_gap + sum_below child_rise m ≤ sum_below child_fall n + (m - n) * duals.floor
    child_bound_places =
        let falls = sum_below-raised fall n k row_gap upto in
        let rises = sum_below-lessened rise m lost column_gap (answer_below objective X answer is_given k upto) (omega (arith, column.floored)) in
        omega (arith, falls, rises, placed_bound)

    child_floored : (c : ℕ) → c < m → duals.floor ≤ child_rise c
    child_floored c h =
        ⊎_elim
        (λ (e : c ≡ lost). let here = lessened_here rise lost column_gap c e in let at = ap rise e in omega (arith, here, at, column.floored))
        (λ (other : c ≡ lost → ⊥). let else = lessened_else rise lost column_gap c other in let at = above.floored c h in omega (arith, else, at))
        (cases_eq c lost)

    module _ (columns : List ℕ) (is : IsAnswer objective X columns) (in_child : IsIn (child_part part answer k) columns) where
      abbrev number : ℕ → ℕ
      number = chosen_number objective X columns

      allowed : (r : ℕ) → r < n → IsAllowed (child_part part answer k) r (slice_index columns r)
      allowed r h = in_child r (omega (arith, h, is.over))

      -- what a row that isn't row k asks of a column that isn't lost
      kept_above : (r : ℕ) → (r ≡ k → ⊥) → (slice_index columns r ≡ lost → ⊥) → fall r ≤ number r + rise (slice_index columns r) → child_fall r ≤ number r + child_rise (slice_index columns r)
      kept_above r other else le =
          let falls = raised_else fall k row_gap r other in
          let rises = lessened_else rise lost column_gap (slice_index columns r) else in
          omega (arith, falls, rises, le)

      -- the rows before row k have the answer's columns
      above_before : (r : ℕ) → r < k → child_fall r ≤ number r + child_rise (slice_index columns r)
      above_before r lt =
          let same = (allowed r (omega (arith, lt, upto))).fixed lt in
          let in_part : IsAllowed part r (slice_index columns r) = subst (IsAllowed part r) (sym same) (given_in r (omega (arith, lt, upto, is_given.over))) in
          kept_above r (λ e. omega (arith, e, lt)) (λ e. answer_different objective X answer is_given r k lt upto (sym same ∙ e))
          (above.cells r (slice_index columns r) (number r) (answer_number objective X columns is r (omega (arith, lt, upto))) in_part)

      -- row k has a column that is neither lost nor an earlier row's
      above_at : child_fall k ≤ number k + child_rise (slice_index columns k)
      above_at =
          let free : (r : ℕ) → r < k → slice_index answer r ≡ slice_index columns k → ⊥ = λ r lt e. answer_different objective X columns is r k lt upto ((allowed r (omega (arith, lt, upto))).fixed lt ∙ e) in
          let le = row (slice_index columns k) (number k) (answer_number objective X columns is k upto) (allowed k upto) free in
          let falls = raised_here fall k row_gap k refl in
          let rises = lessened_else rise lost column_gap (slice_index columns k) (first_banned part answer k (slice_index columns k) (allowed k upto)) in
          omega (arith, falls, rises, le)

      -- a later row may have the lost column
      above_after : (r : ℕ) → k < r → r < n → child_fall r ≤ number r + child_rise (slice_index columns r)
      above_after r gt h =
          ⊎_elim
          (λ (e : slice_index columns r ≡ lost).
          let at = ap (λ c. number_at objective X r c) (sym e) ∙ answer_number objective X columns is r h in
          let le = column.cells r (number r) gt at in
          let falls = raised_else fall k row_gap r (λ e. omega (arith, e, gt)) in
          let rises = lessened_here rise lost column_gap (slice_index columns r) e in
          let same = ap rise e in
          omega (arith, falls, rises, same, le, column.floored))
          (λ (other : slice_index columns r ≡ lost → ⊥).
          kept_above r (λ e. omega (arith, e, gt)) other
          (above.cells r (slice_index columns r) (number r) (answer_number objective X columns is r h) (allowed_later part r (slice_index columns r) (omega (arith, from, gt)))))
          (cases_eq (slice_index columns r) lost)

      child_above : (r : ℕ) → r < n → child_fall r ≤ number r + child_rise (slice_index columns r)
      child_above r h =
          ⊎_elim (λ (e : r ≡ k). subst (λ s. child_fall s ≤ number s + child_rise (slice_index columns s)) (sym e) above_at)
          (⊎_elim (λ (lt : r < k). above_before r lt) (λ (gt : k < r). above_after r gt h))
          (cases_order r k)

      pub child_bound : b + row_gap + column_gap ≤ sum_at objective X columns
      child_bound =
          sums_bound n m duals.floor (b + row_gap + column_gap) child_fall child_rise number (slice_index columns)
          (answer_below objective X columns is)
          (answer_different objective X columns is)
          child_above
          child_floored
          child_bound_places
