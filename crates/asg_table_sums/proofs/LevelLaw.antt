-- A level choice is best.
use Rattle.asg_table_sums.proofs.Common.{◌≡◌, ℕ, ◌+◌, ◌*◌, ◌<◌, ◌≤◌, min, true, ◌⊎◌, List, map, length, get_or, is_some, None, sum_by, count_by, Option, sym, ap, ◌∙◌, inl, inr, ⊎_elim, arith, cases_lt, get_or_past, nat_tests, sum-map, capacity_at, IsInstance, Problem, sum_below, IsValid, takes, chosen_cost, choice_value, costs_of, Objective, Cost, sum_below-le, sum_below-add, cost_reach, sum_entered, top_of, lies_within, rise_at, IsRowLevel, IsLevel}
use Rattle.asg_model.specs.Best.{IsBest}
use Rattle.asg_model.specs.Better.{IsBetter}
use Rattle.asg_monoids.specs.BoundedSums.{bounded_sums}
use Rattle.asg_monoids.specs.NarrowObjectives.{is_narrow_objective}
use Rattle.asg_monoids.specs.laws.SumFolds.{bounded_fold}
use Rattle.asg_monoids.specs.laws.SumOrders.{sums_keep_order}
use Rattle.asg_order.specs.Bridge.{choice_fold}
use Rattle.asg_order.specs.Monoid.{IsLess}
use Rattle.asg_order.specs.laws.ChosenCosts.{Bridges-from_KeepsOrder}
use Rattle.asg_table_sums.proofs.TakenSums.{taken, taken-le}
use Rattle.asg_table_sums.proofs.RowSums.{Chosen, Out, row_of, entered, level_of_out, out_sum, row_sums, column_sums}
use Rattle.asg_monoids.specs.laws.NarrowObjectives.{PassesNegative-narrow, is_sum-narrow}

module _ (objective : Objective) (X : Problem) (f : List (Option ℕ)) (rises : List ℕ) (level : ℕ) (is_level : IsLevel objective X f rises level) (g : List (Option ℕ)) (valid : IsValid X g) where
  abbrev enter : Cost → ℕ
  enter = sum_entered objective

  abbrev rise : Option ℕ → ℕ
  rise = taken (rise_at rises)

  abbrev left : Option ℕ → ℕ
  left = level_of_out level

  -- what a choice has of a row: its cell once the columns have risen, or the level where it stays out
  abbrev term : List (Option ℕ) → ℕ → ℕ
  term h r = entered enter (chosen_cost X h r) + (rise (get_or h r None) + left (get_or h r None))

  term_chosen : (h : List (Option ℕ)) (r : ℕ) (it : Chosen X h r) → term h r ≡ enter it.cost + rise_at rises it.column
  term_chosen h r it =
      let cost : entered enter (chosen_cost X h r) ≡ enter it.cost = ap (entered enter) it.is_cost in
      let by_rise : rise (get_or h r None) ≡ rise_at rises it.column = ap rise it.is_column in
      let none : left (get_or h r None) ≡ 0 = ap left it.is_column in
      omega (arith, cost, by_rise, none)

  term_out : (h : List (Option ℕ)) (r : ℕ) → Out X h r → term h r ≡ level
  term_out h r it =
      let cost : entered enter (chosen_cost X h r) ≡ 0 = ap (entered enter) it.no_cost in
      let by_rise : rise (get_or h r None) ≡ 0 = ap rise it.no_column in
      let whole : left (get_or h r None) ≡ level = ap left it.no_column in
      omega (arith, cost, by_rise, whole)

  -- row by row, the level choice has the lesser
  row_le : (r : ℕ) → r < length X.rows → term f r ≤ term g r
  row_le r h = by (row_of X f is_level.valid r h) (row_of X g valid r h)
    where
      at : IsRowLevel objective X f rises level r
      at = is_level.rows r (omega (arith, h, is_level.valid.over))

      by : Chosen X f r ⊎ Out X f r → Chosen X g r ⊎ Out X g r → term f r ≤ term g r
      by (inl own) (inl other) =
          let le = at.least own.column own.chooses other.column own.cost other.cost own.live other.live in
          omega (arith, le, term_chosen f r own, term_chosen g r other)
      by (inl own) (inr other) =
          let le = at.under own.column own.chooses own.cost own.live in
          omega (arith, le, term_chosen f r own, term_out g r other)
      by (inr own) (inl other) =
          let le = at.over own.chooses_none other.column other.cost other.live in
          omega (arith, le, term_out f r own, term_chosen g r other)
      by (inr own) (inr other) = omega (arith, term_out f r own, term_out g r other)

  -- it fills each column that rises
  as_full : (c : ℕ) → (rise_at rises c ≡ 0) ⊎ (count_by (takes c) g ≤ count_by (takes c) f)
  as_full c =
      ⊎_elim
      (λ (there : c < length rises). by_fullness (is_level.full c there).still_or_full)
      (λ (past : length rises ≤ c). inl (get_or_past rises c 0 past))
      (cases_lt c (length rises))
    where
      by_fullness : (rise_at rises c ≡ 0) ⊎ (capacity_at X c ≤ count_by (takes c) f) → (rise_at rises c ≡ 0) ⊎ (count_by (takes c) g ≤ count_by (takes c) f)
      by_fullness (inl none) = inl none
      by_fullness (inr full) = inr (let within = valid.within c in omega (arith, full, within))

  past : (c : ℕ) → length rises ≤ c → rise_at rises c ≡ 0
  past c h = get_or_past rises c 0 h

  -- what a choice has of all rows
  term_sum : (h : List (Option ℕ)) → IsValid X h → sum_below (term h) (length X.rows) ≡ sum_by enter (costs_of X h) + (sum_by rise h + sum_by left h)
  term_sum h is_valid =
      let n = length X.rows in
      let cost : ℕ → ℕ = λ r. entered enter (chosen_cost X h r) in
      let by_rise : ℕ → ℕ = λ r. rise (get_or h r None) in
      let out : ℕ → ℕ = λ r. left (get_or h r None) in
      let both = sum_below-add cost (λ r. by_rise r + out r) n in
      let rest = sum_below-add by_rise out n in
      let costs = row_sums X h is_valid enter in
      let columns = column_sums X h is_valid rise in
      let outs = column_sums X h is_valid left in
      omega (arith, both, rest, costs, columns, outs)

  -- as many rows stay out
  out_same : sum_by left f ≡ sum_by left g
  out_same =
      let own = out_sum level f in
      let other = out_sum level g in
      let count : level * count_by is_some f ≡ level * count_by is_some g = ap (λ k. level * k) (is_level.valid.counted ∙ sym valid.counted) in
      let all : level * length f ≡ level * length g = ap (λ k. level * k) (is_level.valid.over ∙ sym valid.over) in
      omega (arith, own, other, count, all)

  -- so its sum is no more than any other
  pub sum_le : sum_by enter (costs_of X f) ≤ sum_by enter (costs_of X g)
  sum_le =
      let le = sum_below-le (term f) (term g) (length X.rows) row_le in
      let taken_le = taken-le (rise_at rises) (length rises) past f g as_full in
      let own = term_sum f is_level.valid in
      let other = term_sum g valid in
      omega (arith, le, taken_le, own, other, out_same)

  -- and no other is better
  pub none_better : is_narrow_objective objective ≡ true → IsInstance X → ¬ IsBetter objective (choice_value objective X g) (choice_value objective X f)
  none_better narrow instance better =
      let sums = is_sum-narrow objective narrow in
      let top = top_of objective in
      let less : IsLess (bounded_sums top) (choice_fold (bounded_sums top) enter X g) (choice_fold (bounded_sums top) enter X f) =
      (Bridges-from_KeepsOrder (bounded_sums top) enter objective cost_reach (sums_keep_order objective sums) X g f instance.well_formed.few_rows
      (lies_within cost_reach X (let reach : cost_reach ≤ cost_reach = omega arith in reach) instance) (PassesNegative-narrow objective X narrow) valid is_level.valid).0 better in
      let of_g : choice_fold (bounded_sums top) enter X g ≡ min (sum_by enter (costs_of X g)) top = bounded_fold top (map enter (costs_of X g)) ∙ ap (λ s. min s top) (sum-map enter (costs_of X g)) in
      let of_f : choice_fold (bounded_sums top) enter X f ≡ min (sum_by enter (costs_of X f)) top = bounded_fold top (map enter (costs_of X f)) ∙ ap (λ s. min s top) (sum-map enter (costs_of X f)) in
      below (choice_fold (bounded_sums top) enter X g) (choice_fold (bounded_sums top) enter X f) (sum_by enter (costs_of X g)) (sum_by enter (costs_of X f)) top of_g of_f sum_le less
    where
      below : (x y s t top : ℕ) → x ≡ min s top → y ≡ min t top → t ≤ s → IsLess (bounded_sums top) x y → ⊥
      below x y s t top ex ey le less = grind (arith, nat_tests)

pub level_is_best : (objective : Objective) (X : Problem) (f : List (Option ℕ)) (rises : List ℕ) (level : ℕ) → is_narrow_objective objective ≡ true → IsInstance X → IsLevel objective X f rises level → IsBest objective X f
level_is_best objective X f rises level narrow instance is_level = record {
  valid = is_level.valid;
  none_better = λ g valid. none_better objective X f rises level is_level g valid narrow instance;
}
