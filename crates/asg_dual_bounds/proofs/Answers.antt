-- Facts of answers: their columns are there and different, and their cells have numbers.
use Rattle.asg_dual_bounds.proofs.Common.{◌≡◌, ℕ, ◌<◌, true, false, List, length, IsSome, slice_index, Some, None, Option, option_map, unwrap_or, sym, refl, ap, ◌∙◌, arith, false≢true, number_at, chosen_number, IsAnswer, live_at, Problem, Objective, Cost, sum_entered}
use Rattle.asg_values.specs.laws.LiveCells.{column_of_live}

-- what a number belongs to
live-from_number : (enter : Cost → ℕ) (o : Option Cost) → IsSome (option_map enter o) → (cost : Cost) × (o ≡ Some cost) × (option_map enter o ≡ Some (enter cost))
live-from_number enter None h = absurd (false≢true h)
live-from_number enter (Some cost) h = (cost, refl, refl)

module _ (objective : Objective) (X : Problem) (columns : List ℕ) (is : IsAnswer objective X columns) where
  -- the cost of a row's cell
  pub answer_cost : (r : ℕ) → r < length X.rows → (cost : Cost) × (live_at X r (slice_index columns r) ≡ Some cost) × (number_at objective X r (slice_index columns r) ≡ Some (sum_entered objective cost))
  answer_cost r h = live-from_number (sum_entered objective) (live_at X r (slice_index columns r)) (is.alive r h)

  -- the number of a row's cell is the one that is added up
  pub answer_number : (r : ℕ) → r < length X.rows → number_at objective X r (slice_index columns r) ≡ Some (chosen_number objective X columns r)
  answer_number r h =
      let cost = answer_cost r h in
      cost.2 ∙ sym (ap (λ o. Some (unwrap_or o 0)) cost.2)

  pub answer_below : (r : ℕ) → r < length X.rows → slice_index columns r < length X.columns
  answer_below r h =
      let cost = answer_cost r h in
      column_of_live X r (slice_index columns r) cost.0 cost.1

  pub answer_different : (r s : ℕ) → r < s → s < length X.rows → slice_index columns r ≡ slice_index columns s → ⊥
  answer_different r s h k = is.different r s 0 h (omega (arith, k, is.over))
