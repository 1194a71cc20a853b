-- The Hall law: an instance with a Hall set under a band has no valid choice whose cells lie in the
-- band. Each row of the set that chooses takes a column that the set reaches, and no more rows of
-- it stay out than the slack allows; so the set would be no more than it is short of.
use Rattle.asg_values.proofs.Common.{◌≡◌, ℕ, ◌+◌, ◌<◌, ◌≤◌, Bool, true, false, cond, not, ◌&&◌, List, length, get_or, is_some, IsSome, Some, None, count_by, Option, sym, refl, ap, ◌∙◌, ⊎_elim, zero-add, arith, Decides-eqb, cases_Bool, enumerate_from, false≢true, get_or-enumerate_from, length-enumerate_from, option_map_or, slice_get-get_or, in_band, capacity_at, slack, is_counted, is_live_within, is_reached, reached_part, reached_capacity, IsHall, LiesIn, live_at, Problem, sum_below, count_below, takes, IsValid, Band, sum_below-same, sum_below-le, sum_below-add, sum_below-zero, sum_below-exchange, term-le-sum_below, sum_by-below, is_active-from_live, no_column, counted_total, counted-from_active, split_one}
use Rattle.asg_values.proofs.HallRows.{one, chosen, Chooses-from_chosen, is_in, set-le, counted-from_in, reached-from_in}
use Rattle.asg_values.specs.laws.LiveCells.{column-from_live}
use Rattle.asg_values.specs.laws.Options.{some_there}

-- ---- the counted rows

in_or_out : (inside some counted : Bool) → (inside ≡ true → counted ≡ true) → one inside ≤ one (inside && some) + one (counted && not some)
in_or_out true true counted h = omega arith
in_or_out true false true h = omega arith
in_or_out true false false h = absurd (false≢true (h refl))
in_or_out false some counted h = omega arith

module _ (X : Problem) (f : List (Option ℕ)) (valid : IsValid X f) where
  -- how many rows choose, by their places
  chosen-count : (p : Option ℕ → Bool) → count_below (λ r. p (chosen f r)) (length X.rows) ≡ count_by p f
  chosen-count p = ap (sum_below (λ r. one (p (chosen f r)))) (sym valid.over) ∙ sym (sum_by-below (λ o. one (p o)) f None)

  alive_at : (r c : ℕ) → chosen f r ≡ Some c → IsSome (live_at X r c)
  alive_at r c e = valid.alive r c (Chooses-from_chosen f r c e)

  counted-from_some : (r : ℕ) (o : Option ℕ) → chosen f r ≡ o → is_some o ≡ true → is_counted X r ≡ true
  counted-from_some r None e some = absurd (false≢true some)
  counted-from_some r (Some c) e some = counted-from_active X X.place r (is_active-from_live X r c (alive_at r c e))

  -- as many counted rows stay out as the slack says
  out-count : count_below (λ r. is_counted X r && not (is_some (chosen f r))) (length X.rows) ≡ slack X
  out-count =
      let n = length X.rows in
      let counted = counted_total X X.place in
      let split = sum_below-same (λ r. one (is_counted X r)) (λ r. one (is_some (chosen f r)) + one (is_counted X r && not (is_some (chosen f r)))) n
      (λ r _. split_one (is_counted X r) (is_some (chosen f r)) (counted-from_some r (chosen f r) refl)) in
      let both = sum_below-add (λ r. one (is_some (chosen f r))) (λ r. one (is_counted X r && not (is_some (chosen f r)))) n in
      let some = chosen-count is_some in
      let many = valid.counted in
      omega (arith, counted, split, both, some, many)

capacity_below : (X : Problem) (c : ℕ) → c < length X.columns → capacity_at X c ≡ (get_or X.columns c no_column).cap
capacity_below X c within = ap (λ o. option_map_or (λ column. column.cap) o 0) (slice_get-get_or X.columns c no_column within)

-- the capacity that a set reaches is a sum over the places of the columns
reached_capacity-below : (X : Problem) (band : Band) (ids : List ℕ) → reached_capacity X band ids ≡ sum_below (λ c. cond (is_reached X band ids c) (capacity_at X c) 0) (length X.columns)
reached_capacity-below X band ids =
    let part = reached_part X band ids in
    let columns = enumerate_from 0 X.columns in
    sum_by-below part columns (0, no_column)
    ∙ ap (sum_below (λ c. part (get_or columns c (0, no_column)))) (length-enumerate_from 0 X.columns)
    ∙ sum_below-same (λ c. part (get_or columns c (0, no_column))) (λ c. cond (is_reached X band ids c) (capacity_at X c) 0) (length X.columns)
    (λ c within.
    ap part (get_or-enumerate_from 0 X.columns c (0, no_column) within)
    ∙ ap (λ k. part (k, get_or X.columns c no_column)) (zero-add c)
    ∙ ap (λ cap. cond (is_reached X band ids c) cap 0) (sym (capacity_below X c within)))

-- ---- the law

-- one for a row that takes a reached column, at that column
abbrev taken_part : Problem → Band → List ℕ → List (Option ℕ) → ℕ → ℕ → ℕ
taken_part X band ids f r c = cond (is_reached X band ids c) (one (takes c (chosen f r))) 0

column_part : (reached : Bool) (n cap : ℕ) (g : ℕ → ℕ) → sum_below g n ≤ cap → sum_below (λ r. cond reached (g r) 0) n ≤ cond reached cap 0
column_part true n cap g le = le
column_part false n cap g le = let none = sum_below-zero n in omega (arith, none)

none_of : (b : Bool) → one (b && false) ≡ 0
none_of true = refl
none_of false = refl

module _ (X : Problem) (band : Band) (ids : List ℕ) (f : List (Option ℕ)) (hall : IsHall X band ids) (valid : IsValid X f) (inside : LiesIn X band f) where
  -- a row of the set that chooses takes a reached column
  taken-le : (r : ℕ) (o : Option ℕ) → chosen f r ≡ o → one (is_in X ids r && is_some o) ≤ sum_below (taken_part X band ids f r) (length X.columns)
  taken-le r None e = let none : one (is_in X ids r && false) ≡ 0 = none_of (is_in X ids r) in omega (arith, none)
  taken-le r (Some c) e =
      ⊎_elim
      (λ (set : is_in X ids r ≡ true).
      let live = alive_at X f valid r c e in
      let cost = some_there (live_at X r c) live in
      let banded : is_live_within X band r c ≡ true =
      ap (λ o. option_map_or (λ x. in_band band x.a) o false) cost.1 ∙ inside r c cost.0 (Chooses-from_chosen f r c e) cost.1 in
      let reached = reached-from_in X band ids hall r c set banded in
      let taken : takes c (chosen f r) ≡ true = ap (takes c) e ∙ (Decides-eqb c c).1 refl in
      let part : taken_part X band ids f r c ≡ 1 = ap (λ b. cond {A = ℕ} b (one (takes c (chosen f r))) 0) reached ∙ ap one taken in
      let here : one (is_in X ids r && true) ≡ 1 = ap (λ b. one (b && true)) set in
      let within = term-le-sum_below (taken_part X band ids f r) (length X.columns) c (column-from_live X r c live) in
      omega (arith, part, here, within))
      (λ (other : is_in X ids r ≡ false). let none : one (is_in X ids r && true) ≡ 0 = ap (λ b. one (b && true)) other in omega (arith, none))
      (cases_Bool (is_in X ids r))

  column-le : (c : ℕ) → sum_below (λ r. taken_part X band ids f r c) (length X.rows) ≤ cond (is_reached X band ids c) (capacity_at X c) 0
  column-le c =
      let count = chosen-count X f valid (takes c) in
      let within = valid.within c in
      column_part (is_reached X band ids c) (length X.rows) (capacity_at X c) (λ r. one (takes c (chosen f r))) (omega (arith, count, within))

  -- no more rows of the set choose than the columns that it reaches can hold
  in_and_some-le : count_below (λ r. is_in X ids r && is_some (chosen f r)) (length X.rows) ≤ reached_capacity X band ids
  in_and_some-le =
      let rows = length X.rows in
      let columns = length X.columns in
      let by_rows = sum_below-le (λ r. one (is_in X ids r && is_some (chosen f r))) (λ r. sum_below (taken_part X band ids f r) columns) rows
      (λ r _. taken-le r (chosen f r) refl) in
      let turned = sum_below-exchange (taken_part X band ids f) rows columns in
      let by_columns = sum_below-le (λ c. sum_below (λ r. taken_part X band ids f r c) rows) (λ c. cond (is_reached X band ids c) (capacity_at X c) 0) columns
      (λ c _. column-le c) in
      let capacity = reached_capacity-below X band ids in
      omega (arith, by_rows, turned, by_columns, capacity)

  set-le-all : count_below (is_in X ids) (length X.rows) ≤ reached_capacity X band ids + slack X
  set-le-all =
      let rows = length X.rows in
      let out = λ (r : ℕ). is_counted X r && not (is_some (chosen f r)) in
      let taking = λ (r : ℕ). is_in X ids r && is_some (chosen f r) in
      let split = sum_below-le (λ r. one (is_in X ids r)) (λ r. one (taking r) + one (out r)) rows
      (λ r _. in_or_out (is_in X ids r) (is_some (chosen f r)) (is_counted X r) (counted-from_in X band ids hall r)) in
      let both = sum_below-add (λ r. one (taking r)) (λ r. one (out r)) rows in
      let some = in_and_some-le in
      let rest = out-count X f valid in
      omega (arith, split, both, some, rest)

pub hall_law : (X : Problem) (band : Band) (ids : List ℕ) (f : List (Option ℕ)) → IsHall X band ids → IsValid X f → LiesIn X band f → ⊥
hall_law X band ids f hall valid inside =
    let all = set-le X band ids hall in
    let few = set-le-all X band ids f hall valid inside in
    let short = hall.short in
    omega (arith, all, few, short)
