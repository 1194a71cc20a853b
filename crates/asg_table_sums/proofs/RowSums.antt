-- The sum of the costs of a valid choice, row by row.
use Rattle.asg_table_sums.proofs.Common.{◌≡◌, ℕ, zero, suc, ◌+◌, ◌*◌, ◌<◌, cond, ◌⊎◌, List, [], ◌∷◌, length, get_or, is_some, slice_get, Some, None, sum_by, count_by, Option, option_to_list, filter_map, option_and_then, refl, ap, ◌∙◌, inl, inr, mul-add, arith, option_map_or, range_with_len, slice_get-get_or, sum_by-append, sum_by-cons, live_at, Problem, sum_below, Chooses, IsValid, chosen_cost, costs_of, Cost, sum_by-below}
use Rattle.asg_model.specs.laws.Listing.{filter_map-range_more}
use Rattle.asg_values.specs.laws.Options.{some_there}

-- what a row chooses: a column, with its cost
pub record Chosen (X : Problem) (f : List (Option ℕ)) (r : ℕ) : Type 0 where
  pub column : ℕ
  pub cost : Cost
  pub chooses : Chooses f r column
  pub live : live_at X r column ≡ Some cost
  pub is_cost : chosen_cost X f r ≡ Some cost
  pub is_column : get_or f r None ≡ Some column

-- a row that stays out
pub record Out (X : Problem) (f : List (Option ℕ)) (r : ℕ) : Type 0 where
  pub chooses_none : slice_get f r ≡ Some None
  pub no_cost : chosen_cost X f r ≡ None
  pub no_column : get_or f r None ≡ None

module _ (X : Problem) (f : List (Option ℕ)) (valid : IsValid X f) where
  -- each row chooses, or stays out
  pub row_of : (r : ℕ) → r < length X.rows → Chosen X f r ⊎ Out X f r
  row_of r h = by (get_or f r None) refl
    where
      by : (o : Option ℕ) → get_or f r None ≡ o → Chosen X f r ⊎ Out X f r
      by None e =
          let at : slice_get f r ≡ Some None = slice_get-get_or f r None (omega (arith, valid.over, h)) ∙ ap Some e in
          inr (record {
            chooses_none = at;
            no_cost = ap (option_and_then (λ chosen. option_and_then (live_at X r) chosen)) at;
            no_column = e;
          })
      by (Some c) e =
          let at : slice_get f r ≡ Some (Some c) = slice_get-get_or f r None (omega (arith, valid.over, h)) ∙ ap Some e in
          let cost = some_there (live_at X r c) (valid.alive r c at) in
          inl (record {
            column = c;
            cost = cost.0;
            chooses = at;
            live = cost.1;
            is_cost = ap (option_and_then (λ chosen. option_and_then (live_at X r) chosen)) at ∙ cost.1;
            is_column = e;
          })

-- what the cost of a row enters as, 0 where there is none
abbrev pub entered : (Cost → ℕ) → Option Cost → ℕ
entered enter o = option_map_or enter o 0

one_cost : (enter : Cost → ℕ) (o : Option Cost) → sum_by enter (option_to_list o) ≡ entered enter o
one_cost enter None = refl
one_cost enter (Some x) = let step = sum_by-cons enter x [] in omega (arith, step)

range_sum : (h : ℕ → Option Cost) (enter : Cost → ℕ) (n : ℕ) → sum_by enter (filter_map h (range_with_len 0 n)) ≡ sum_below (λ r. entered enter (h r)) n
range_sum h enter zero = refl
range_sum h enter (suc n) =
    let same : sum_by enter (filter_map h (range_with_len 0 (suc n))) ≡ sum_by enter (filter_map h (range_with_len 0 (n + 1))) = ap (λ k. sum_by enter (filter_map h (range_with_len 0 k))) (let k : suc n ≡ n + 1 = omega arith in k) in
    let more = ap (sum_by enter) (filter_map-range_more h n) in
    let both = sum_by-append enter (filter_map h (range_with_len 0 n)) (option_to_list (h n)) in
    let last = one_cost enter (h n) in
    let rest = range_sum h enter n in
    omega (arith, same, more, both, last, rest)

-- a level for a row that stays out, else 0
abbrev pub level_of_out : ℕ → Option ℕ → ℕ
level_of_out level o = cond (is_some o) 0 level

-- the levels of the rows that stay out
pub out_sum : (level : ℕ) (f : List (Option ℕ)) → sum_by (level_of_out level) f + level * count_by is_some f ≡ level * length f
out_sum level [] =
    let none : level * 0 ≡ 0 = omega arith in
    let all : 0 + level * 0 ≡ level * 0 = omega (arith, none) in
    all
out_sum level (o ∷ f) =
    let first = sum_by-cons (level_of_out level) o f in
    let count = ap (λ k. level * k) (sum_by-cons (λ x. cond (is_some x) 1 0) o f) in
    let rest = out_sum level f in
    let row = one_row o in
    let split : level * (cond (is_some o) 1 0 + count_by is_some f) ≡ level * cond (is_some o) 1 0 + level * count_by is_some f = mul-add level (cond (is_some o) 1 0) (count_by is_some f) in
    let all : level * length (o ∷ f) ≡ level + level * length f = ap (λ k. level * k) (let k : length (o ∷ f) ≡ 1 + length f = omega arith in k) ∙ mul-add level 1 (length f) ∙ ap (λ k. k + level * length f) (let k : level * 1 ≡ level = omega arith in k) in
    omega (arith, first, count, rest, row, split, all)
  where
    one_row : (o : Option ℕ) → level_of_out level o + level * cond (is_some o) 1 0 ≡ level
    one_row None = omega arith
    one_row (Some c) = omega arith

module _ (X : Problem) (f : List (Option ℕ)) (valid : IsValid X f) where
  -- the entered costs of its cells, added up row by row
  pub row_sums : (enter : Cost → ℕ) → sum_by enter (costs_of X f) ≡ sum_below (λ r. entered enter (chosen_cost X f r)) (length X.rows)
  row_sums enter = range_sum (chosen_cost X f) enter (length f) ∙ ap (sum_below (λ r. entered enter (chosen_cost X f r))) valid.over

  -- what its columns add up to, row by row
  pub column_sums : (taken : Option ℕ → ℕ) → sum_by taken f ≡ sum_below (λ r. taken (get_or f r None)) (length X.rows)
  column_sums taken = sum_by-below taken f None ∙ ap (sum_below (λ r. taken (get_or f r None))) valid.over
