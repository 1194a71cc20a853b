-- The answers of a plain instance are its valid choices.
use Rattle.asg_dual_bounds.proofs.Common.{◌≡◌, ℕ, zero, suc, ◌<◌, ◌≤◌, Bool, true, cond, eqb, ◌≢◌, List, [], ◌∷◌, map, length, get_or, is_some, IsSome, slice_get, slice_index, Some, None, count_by, Option, option_map, AllPairs, unwrap_or, sym, refl, ap, ◌∙◌, subst, ⊎_elim, arith, eq-eqb, ne_eqb, All-get_or, cases_eq, cases_lt, cond-false, cond-true, count_by-le-length, false≢true, get_or_default, length-map, option_map_or, slice_get-get_or, slice_get_past, sum_by-cons, choice_of, IsAnswer, IsPlain, live_at, Problem, sum_below, IsValid, Chooses, takes, Objective, Cost, sum_below-same, sum_by-below, term-le-sum_below, no_row, no_column, ones_below, sum_entered, get_or-map}
use Rattle.asg_model.specs.Counts.{capacity_at, active_count, placed, placed_by}
use Rattle.asg_dual_bounds.proofs.Answers.{answer_cost, answer_below, answer_different}
use Rattle.asg_dual_bounds.proofs.PlaceSums.{without, without_else, sum_below-apart, sum_chosen-le}

-- 1 at a column
abbrev pub at_column : ℕ → ℕ → ℕ
at_column c x = cond (eqb x c) 1 0

at_column_here : (c x : ℕ) → x ≡ c → at_column c x ≡ 1
at_column_here c x e = cond-true (eqb x c) 1 0 (eq-eqb x c e)

at_column_else : (c x : ℕ) → (x ≡ c → ⊥) → at_column c x ≡ 0
at_column_else c x other = cond-false (eqb x c) 1 0 (ne_eqb x c other)

none_below : (c m : ℕ) → m ≤ c → sum_below (at_column c) m ≡ 0
none_below c zero h = refl
none_below c (suc m) h =
    let rest = none_below c m (omega arith) in
    let last = at_column_else c m (λ e. omega (arith, e, h)) in
    omega (arith, rest, last)

once_below : (c m : ℕ) → sum_below (at_column c) m ≤ 1
once_below c zero = omega arith
once_below c (suc m) =
    ⊎_elim
    (λ (e : m ≡ c).
    let rest = none_below c m (omega (arith, e)) in
    let last = at_column_here c m e in
    omega (arith, rest, last))
    (λ (other : m ≡ c → ⊥).
    let rest = once_below c m in
    let last = at_column_else c m other in
    omega (arith, rest, last))
    (cases_eq m c)

-- how many rows take a column
taken-count : (columns : List ℕ) (c : ℕ) → count_by (takes c) (choice_of columns) ≡ sum_below (λ r. at_column c (slice_index columns r)) (length columns)
taken-count columns c =
    sum_by-below (λ o. cond (takes c o) 1 0) (choice_of columns) (Some 0)
    ∙ sum_below-same (λ r. cond (takes c (get_or (choice_of columns) r (Some 0))) 1 0) (λ r. at_column c (slice_index columns r)) (length (choice_of columns))
    (λ r h. ap (λ (o : Option ℕ). cond {A = ℕ} (takes c o) 1 0) (get_or-map Some columns r 0))
    ∙ ap (sum_below (λ r. at_column c (slice_index columns r))) (length-map columns Some)

rows_chosen : (columns : List ℕ) → length (choice_of columns) ≡ length columns
rows_chosen columns = length-map columns Some

-- what a choice of a list of columns gives a row
pub chooses-from_columns : (columns : List ℕ) (r : ℕ) → r < length columns → slice_get (choice_of columns) r ≡ Some (Some (slice_index columns r))
chooses-from_columns columns r h =
    slice_get-get_or (choice_of columns) r (Some 0) (omega (arith, h, rows_chosen columns))
    ∙ ap (λ (o : Option ℕ). Some o) (get_or-map Some columns r 0)

some_some : (c d : ℕ) → ◌≡◌ {A = Option (Option ℕ)} (Some (Some c)) (Some (Some d)) → c ≡ d
some_some c d e = cc e

columns-from_chooses : (columns : List ℕ) (r c : ℕ) → Chooses (choice_of columns) r c → (r < length columns) × (slice_index columns r ≡ c)
columns-from_chooses columns r c e =
    ⊎_elim
    (λ (h : r < length columns). (h, some_some (slice_index columns r) c (sym (chooses-from_columns columns r h) ∙ e)))
    (λ (past : length columns ≤ r).
    absurd (none (sym (slice_get_past (choice_of columns) r (omega (arith, past, rows_chosen columns))) ∙ e)))
    (cases_lt r (length columns))
  where
    none : ◌≡◌ {A = Option (Option ℕ)} None (Some (Some c)) → ⊥
    none e = cc e

-- the columns of a choice
abbrev pub columns_of : List (Option ℕ) → List ℕ
columns_of f = map (λ o. unwrap_or o 0) f

pub columns-of_choice : (xs : List ℕ) → columns_of (choice_of xs) ≡ xs
columns-of_choice [] = refl
columns-of_choice (x ∷ xs) = ap (λ ys. x ∷ ys) (columns-of_choice xs)

-- a choice where every row chooses is that of its columns
all_some : (f : List (Option ℕ)) → count_by is_some f ≡ length f → f ≡ choice_of (columns_of f)
all_some [] e = refl
all_some (None ∷ f) e =
    let apart = sum_by-cons (λ o. cond (is_some o) 1 0) None f in
    let few = count_by-le-length is_some f in
    absurd (omega (arith, e, apart, few))
all_some (Some x ∷ f) e =
    let apart = sum_by-cons (λ o. cond (is_some o) 1 0) (Some x) f in
    ap (λ g. Some x ∷ g) (all_some f (omega (arith, e, apart)))

all_some_count : (xs : List ℕ) → count_by is_some (choice_of xs) ≡ length xs
all_some_count [] = refl
all_some_count (x ∷ xs) =
    let apart = sum_by-cons (λ o. cond (is_some o) 1 0) (Some x) (choice_of xs) in
    let rest = all_some_count xs in
    omega (arith, apart, rest)

-- ---- plain instances

module _ (X : Problem) (plain : IsPlain X) where
  all_active : active_count X ≡ length X.rows
  all_active =
      sum_by-below (λ row. cond row.active 1 0) X.rows no_row
      ∙ sum_below-same (λ r. cond (get_or X.rows r no_row).active 1 0) (λ _. 1) (length X.rows)
      (λ r h. ap (λ (b : Bool). cond {A = ℕ} b 1 0) (All-get_or (λ row. row.active ≡ true) X.rows r no_row h plain.active))
      ∙ ones_below (length X.rows)

  all_placed : placed X ≡ length X.rows
  all_placed = ap (λ place. placed_by place (active_count X)) plain.place ∙ all_active

  capacity_there : (c : ℕ) → c < length X.columns → capacity_at X c ≡ 1
  capacity_there c h =
      ap (λ o. option_map_or (λ column. column.cap) o 0) (slice_get-get_or X.columns c no_column h)
      ∙ All-get_or (λ column. column.cap ≡ 1) X.columns c no_column h plain.single

  capacity_past : (c : ℕ) → length X.columns ≤ c → capacity_at X c ≡ 0
  capacity_past c h = ap (λ o. option_map_or (λ column. column.cap) o 0) (slice_get_past X.columns c h)

  capacity-le-one : (c : ℕ) → capacity_at X c ≤ 1
  capacity-le-one c =
      ⊎_elim (λ (h : c < length X.columns). let there = capacity_there c h in omega (arith, there))
      (λ (past : length X.columns ≤ c). let none = capacity_past c past in omega (arith, none))
      (cases_lt c (length X.columns))

  -- a column is there as often as its capacity
  once-le-capacity : (c : ℕ) → sum_below (at_column c) (length X.columns) ≤ capacity_at X c
  once-le-capacity c =
      ⊎_elim
      (λ (h : c < length X.columns). let there = capacity_there c h in let le = once_below c (length X.columns) in omega (arith, there, le))
      (λ (past : length X.columns ≤ c). let none = none_below c (length X.columns) past in omega (arith, none))
      (cases_lt c (length X.columns))

  module _ (objective : Objective) where
    -- answers are valid choices
    pub IsValid-from_answer : (columns : List ℕ) → IsAnswer objective X columns → IsValid X (choice_of columns)
    IsValid-from_answer columns is = record {
      over = length-map columns Some ∙ is.over;
      alive = λ r c chooses.
          let at = columns-from_chooses columns r c chooses in
          let cost = answer_cost objective X columns is r (omega (arith, at.0, is.over)) in
          subst (λ d. IsSome (live_at X r d)) at.1 (subst IsSome (sym cost.1) refl);
      within = within;
      counted = all_some_count columns ∙ is.over ∙ sym all_placed;
    }
      where
        within : (c : ℕ) → count_by (takes c) (choice_of columns) ≤ capacity_at X c
        within c =
            let count = taken-count columns c in
            let rows : sum_below (λ r. at_column c (slice_index columns r)) (length columns) ≡ sum_below (λ r. at_column c (slice_index columns r)) (length X.rows) = ap (sum_below (λ r. at_column c (slice_index columns r))) is.over in
            let le = sum_chosen-le (length X.rows) (at_column c) (slice_index columns) (length X.columns) (answer_below objective X columns is) (answer_different objective X columns is) in
            omega (arith, count, rows, le, once-le-capacity c)

    -- valid choices are those of answers
    pub answer-from_valid : (columns : List ℕ) → IsValid X (choice_of columns) → IsAnswer objective X columns
    answer-from_valid columns valid = record {
      over = over;
      alive = λ r h. some_number (live_at X r (slice_index columns r)) (valid.alive r (slice_index columns r) (chooses-from_columns columns r (omega (arith, h, over))));
      different = different;
    }
      where
        over : length columns ≡ length X.rows
        over = sym (length-map columns Some) ∙ valid.over

        some_number : (o : Option Cost) → IsSome o → IsSome (option_map (sum_entered objective) o)
        some_number None h = absurd (false≢true h)
        some_number (Some cost) h = refl

        twice : (i j : ℕ) → i < j → j < length columns → slice_index columns i ≡ slice_index columns j → ⊥
        twice i j less h e =
            let c = slice_index columns j in
            let g : ℕ → ℕ = λ r. at_column c (slice_index columns r) in
            let count = taken-count columns c in
            let apart = sum_below-apart g (length columns) i (omega arith) in
            let other = term-le-sum_below (without g i) (length columns) j h in
            let kept = without_else g i j (λ same. omega (arith, same, less)) in
            let one = at_column_here c (slice_index columns i) e in
            let two = at_column_here c (slice_index columns j) refl in
            let most = valid.within c in
            omega (arith, count, apart, other, kept, one, two, most, capacity-le-one c)

        different : AllPairs ◌≢◌ columns
        different i j d less h e =
            twice i j less h (get_or_default columns i 0 d (omega arith) ∙ e ∙ get_or_default columns j d 0 h)

  -- each valid choice gives every row a column
  pub columns_from_valid : (f : List (Option ℕ)) → IsValid X f → f ≡ choice_of (columns_of f)
  columns_from_valid f valid = all_some f (valid.counted ∙ all_placed ∙ sym valid.over)
