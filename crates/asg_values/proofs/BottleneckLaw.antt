-- Where the cells strictly better than a value have a Hall set, no valid choice has a better value.
use Rattle.asg_values.proofs.Common.{◌≡◌, ℕ, zero, suc, ◌<◌, true, List, [], ◌∷◌, length, get_or, ℤ, ◌≤ℤ◌, ◌<ℤ◌, int_lt, Some, None, All, Option, filter_map, option_and_then, refl, ap, ◌∙◌, subst, zero-add, arith, All-head, All-tail, cons_option, get_or-range_with_len, ints, length-range_with_len, none-some, range_with_len, same_Some, slice_get_within, IsBetter, greatest, least, IsHall, live_at, Problem, Chooses, IsValid, chosen_cost, costs_of, first_parts, choice_value, Bottleneck, BottleneckMax, Value, One, Cost}
use Rattle.asg_model.specs.declared.bands.Band.TheVariants.{Whole, Under, Over}
use Rattle.asg_model.specs.Best.{IsBest}
use Rattle.asg_values.proofs.ExtremeBounds.{greatest-bounds, least-bounds}
use Rattle.asg_values.proofs.HallLaw.{hall_law}

module _ (P : ℤ → Type 0) where
  first_given : (o : Option Cost) (rest : List Cost) (y : Cost) → o ≡ Some y → All P (first_parts (cons_option o rest)) → P y.a
  first_given None rest y e all = absurd (none-some y e)
  first_given (Some z) rest y e all = subst P (ap (λ cost. cost.a) (same_Some z y e)) (All-head P z.a (first_parts rest) all)

  rest_given : (o : Option Cost) (rest : List Cost) → All P (first_parts (cons_option o rest)) → All P (first_parts rest)
  rest_given None rest all = all
  rest_given (Some z) rest all = All-tail P z.a (first_parts rest) all

  -- what holds of the first part of each cost that is given holds of the one given at a place
  part_given : (h : ℕ → Option Cost) (xs : List ℕ) (k : ℕ) (y : Cost) → All P (first_parts (filter_map h xs)) → k < length xs → h (get_or xs k 0) ≡ Some y → P y.a
  part_given h [] k y all within e = absurd (omega arith)
  part_given h (x ∷ xs) zero y all within e = first_given (h x) (filter_map h xs) y e all
  part_given h (x ∷ xs) (suc k) y all within e = part_given h xs k y (rest_given (h x) (filter_map h xs) all) (omega arith) e

  -- what holds of the first part of each cost of a choice holds of that of a chosen live cell
  pub part_chosen : (X : Problem) (f : List (Option ℕ)) → All P (first_parts (costs_of X f)) → (r c : ℕ) (cost : Cost) → Chooses f r c → live_at X r c ≡ Some cost → P cost.a
  part_chosen X f all r c cost chooses live =
      let within : r < length f = slice_get_within f r (Some c) chooses in
      let at : get_or (range_with_len 0 (length f)) r 0 ≡ r = get_or-range_with_len 0 (length f) r 0 within ∙ zero-add r in
      let given : chosen_cost X f r ≡ Some cost = ap (option_and_then (λ chosen. option_and_then (live_at X r) chosen)) chooses ∙ live in
      part_given (chosen_cost X f) (range_with_len 0 (length f)) r cost all (omega (arith, within, length-range_with_len 0 (length f))) (ap (chosen_cost X f) at ∙ given)

under : (a g b : ℤ) → a ≤ℤ g → g <ℤ b → int_lt a b ≡ true
under a g b most below = grind (arith, ints)

over : (a g b : ℤ) → g ≤ℤ a → b <ℤ g → int_lt b a ≡ true
over a g b least above = grind (arith, ints)

pub whole_law : (X : Problem) (ids : List ℕ) (f : List (Option ℕ)) → IsHall X Whole ids → IsValid X f → ⊥
whole_law X ids f hall valid = hall_law X Whole ids f hall valid (λ r c cost chooses live. refl)

pub bottleneck_law : (X : Problem) (b : ℤ) (ids : List ℕ) (f : List (Option ℕ)) → IsHall X (Under b) ids → IsValid X f → ¬ IsBetter Bottleneck (choice_value Bottleneck X f) (One b)
bottleneck_law X b ids f hall valid better =
    let parts = first_parts (costs_of X f) in
    hall_law X (Under b) ids f hall valid
    (λ r c cost chooses live. under cost.a (greatest parts) b (part_chosen (λ a. a ≤ℤ greatest parts) X f (greatest-bounds parts) r c cost chooses live) better)

pub bottleneck_max_law : (X : Problem) (b : ℤ) (ids : List ℕ) (f : List (Option ℕ)) → IsHall X (Over b) ids → IsValid X f → ¬ IsBetter BottleneckMax (choice_value BottleneckMax X f) (One b)
bottleneck_max_law X b ids f hall valid better =
    let parts = first_parts (costs_of X f) in
    hall_law X (Over b) ids f hall valid
    (λ r c cost chooses live. over cost.a (least parts) b (part_chosen (λ a. least parts ≤ℤ a) X f (least-bounds parts) r c cost chooses live) better)

pub best_law : (X : Problem) (b : ℤ) (ids : List ℕ) (f : List (Option ℕ)) → IsValid X f → choice_value Bottleneck X f ≡ One b → IsHall X (Under b) ids → IsBest Bottleneck X f
best_law X b ids f valid is hall = record {
  valid = valid;
  none_better = λ g other better. bottleneck_law X b ids g hall other (subst (λ (v : Value). IsBetter Bottleneck (choice_value Bottleneck X g) v) is better);
}

pub best_max_law : (X : Problem) (b : ℤ) (ids : List ℕ) (f : List (Option ℕ)) → IsValid X f → choice_value BottleneckMax X f ≡ One b → IsHall X (Over b) ids → IsBest BottleneckMax X f
best_max_law X b ids f valid is hall = record {
  valid = valid;
  none_better = λ g other better. bottleneck_max_law X b ids g hall other (subst (λ (v : Value). IsBetter BottleneckMax (choice_value BottleneckMax X g) v) is better);
}
