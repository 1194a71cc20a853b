-- Every valid choice is the choice of a perfect assignment: a row that chooses takes of its
-- column's copies the one whose number is that of the rows before it that choose this column, and
-- the other rows take the free columns from the last down.
use Rattle.asg_square.proofs.Common.{◌≡◌, ℕ, ◌+◌, ◌-◌, ◌<◌, ◌≤◌, true, false, cond, not, ◌&&◌, List, length, get_or, is_some, IsSome, nat_lt, slice_index, Some, None, Option, option_map, sym, refl, ap, ◌∙◌, subst, ⊎_elim, arith, eq-eqb, ne_eqb, Decides-ltb, cases_Bool, cases_lt, false≢true, get_or-map-range_with_len, get_or_past, length-map-range_with_len, none-some, same_Some, same_lists, slice_get-get_or, slice_get_past, extra_column_cell, corner_cell, labelled_cell, active_count, placed_by, placed, counted_by, is_counted, is_counted_by, total_capacity, capacity_at, IsPlaceInRange, is_active, live_at, Problem, square_side, side_by, sum_below, count_below, passing_below, one, takes, Chooses, IsValid, Cost, Place, sum_below-same, sum_below-add, sum_by-below, sum_below-zero, term-le-sum_below, counted_total, counted-from_active, is_active-from_live, square_cell, IsPresent, IsAssignment, chosen_by, choice_of, chosen, own_copy, perm_column, perm_list, is_free, free_columns, lacks, row_label, column_label, copies, first_copy, sum_below-upto, rank-less, same-rank, count-not, completed_some, completed_none, completed_below, completed_apart, rank_within, top_high, top_low, length-copies, label_at, copy_below, row-from_counted, rows_within, copies_within, option_and_then}
use Rattle.asg_model.specs.laws.Tests.{split_one}
use Rattle.asg_model.specs.declared.parts.Place.TheVariants.{All as PlaceAll, Exactly}

Chooses-from_chosen : (f : List (Option ℕ)) (r c : ℕ) → chosen f r ≡ Some c → (r < length f) × Chooses f r c
Chooses-from_chosen f r c e =
    ⊎_elim
    (λ (within : r < length f). (within, slice_get-get_or f r None within ∙ ap Some e))
    (λ (past : length f ≤ r). absurd (none-some c (sym (get_or_past f r None past) ∙ e)))
    (cases_lt r (length f))

from_map : {A B : Type 0} (h : A → B) (o : Option A) (y : B) → option_map h o ≡ Some y → (x : A) × (o ≡ Some x) × (h x ≡ y)
from_map h None y e = absurd (cc)
from_map h (Some x) y e = (x, refl, same_Some (h x) y e)

is_some-map : {A B : Type 0} (h : A → B) (o : Option A) → is_some (option_map h o) ≡ is_some o
is_some-map h None = refl
is_some-map h (Some x) = refl

module _ (X : Problem) (f : List (Option ℕ)) (valid : IsValid X f) (range : IsPlaceInRange X X.place) where
  g : ℕ → Option ℕ
  g r = own_copy X f r

  abbrev n : ℕ
  n = length X.rows

  abbrev side : ℕ
  side = square_side X

  takes_at : (r d : ℕ) → chosen f r ≡ Some d → takes d (chosen f r) ≡ true
  takes_at r d e = ap (takes d) e ∙ eq-eqb d d refl

  rank_below : (r d : ℕ) → chosen f r ≡ Some d → count_below (λ s. takes d (chosen f s)) r < capacity_at X d
  rank_below r d e =
      let less = rank-less (λ s. takes d (chosen f s)) r (length f) (Chooses-from_chosen f r d e).0 (takes_at r d e) in
      let count = sum_by-below (λ o. one (takes d o)) f None in
      let within = valid.within d in
      omega (arith, less, count, within)

  -- what is known of a row's own copy
  own_at : (r c : ℕ) → own_copy X f r ≡ Some c → (d : ℕ) × (chosen f r ≡ Some d) × (c ≡ first_copy X d + count_below (λ s. takes d (chosen f s)) r) × (column_label X c ≡ Some d) × (c < total_capacity X)
  own_at r c e =
      let from = from_map (λ d. first_copy X d + count_below (λ s. takes d (chosen f s)) r) (chosen f r) c e in
      let d = from.0 in
      let rank = rank_below r d from.1 in
      let at = label_at X d (count_below (λ s. takes d (chosen f s)) r) rank in
      let below = copy_below X d (count_below (λ s. takes d (chosen f s)) r) rank in
      (d, from.1, sym from.2, ap (column_label X) (sym from.2) ∙ at, subst (λ k. k < total_capacity X) from.2 below)

  pub own_within : (r c : ℕ) → r < side → own_copy X f r ≡ Some c → c < side
  own_within r c h e =
      let at = own_at r c e in
      let within = copies_within X in
      let below = at.4 in
      omega (arith, within, below)

  own_apart : (r s c : ℕ) → r < side → s < side → own_copy X f r ≡ Some c → own_copy X f s ≡ Some c → r ≡ s
  own_apart r s c h k e i =
      let x = own_at r c e in
      let y = own_at s c i in
      let same : x.0 ≡ y.0 = same_Some x.0 y.0 (sym x.3 ∙ y.3) in
      let other : chosen f s ≡ Some x.0 = y.1 ∙ ap Some (sym same) in
      let ranks : c ≡ first_copy X x.0 + count_below (λ u. takes x.0 (chosen f u)) s = y.2 ∙ ap (λ d. first_copy X d + count_below (λ u. takes d (chosen f u)) s) (sym same) in
      let first = x.2 in
      same-rank (λ u. takes x.0 (chosen f u)) r s (takes_at r x.0 x.1) (takes_at s x.0 other) (omega (arith, first, ranks))

  pub perm_below : (r : ℕ) → r < side → perm_column X f r < side
  perm_below = completed_below (own_copy X f) side own_within own_apart

  pub perm_apart : (r s : ℕ) → r < side → s < side → perm_column X f r ≡ perm_column X f s → r ≡ s
  perm_apart = completed_apart (own_copy X f) side own_within own_apart

  pub own_some : (r d : ℕ) → chosen f r ≡ Some d → own_copy X f r ≡ Some (first_copy X d + count_below (λ s. takes d (chosen f s)) r)
  own_some r d e = ap (option_map (λ d. first_copy X d + count_below (λ s. takes d (chosen f s)) r)) e

  pub own_none : (r : ℕ) → chosen f r ≡ None → own_copy X f r ≡ None
  own_none r e = ap (option_map (λ d. first_copy X d + count_below (λ s. takes d (chosen f s)) r)) e

  -- a row that chooses takes a copy of the column that it chooses
  label_some : (r d : ℕ) → chosen f r ≡ Some d → column_label X (perm_column X f r) ≡ Some d
  label_some r d e =
      let own = own_some r d e in
      ap (column_label X) (completed_some (own_copy X f) side r (first_copy X d + count_below (λ s. takes d (chosen f s)) r) own)
      ∙ label_at X d (count_below (λ s. takes d (chosen f s)) r) (rank_below r d e)

  pub counted_some : (r d : ℕ) → chosen f r ≡ Some d → is_counted X r ≡ true
  counted_some r d e = counted-from_active X X.place r (is_active-from_live X r d (valid.alive r d (Chooses-from_chosen f r d e).1))

  counted_by_some : (r : ℕ) (o : Option ℕ) → chosen f r ≡ o → is_some o ≡ true → is_counted X r ≡ true
  counted_by_some r None e some = absurd (false≢true some)
  counted_by_some r (Some d) e some = counted_some r d e

  some_count : count_below (λ r. is_some (chosen f r)) n ≡ placed X
  some_count =
      ap (sum_below (λ r. one (is_some (chosen f r)))) (sym valid.over) ∙ sym (sum_by-below (λ o. one (is_some o)) f None) ∙ valid.counted

  -- where all are placed, a row that doesn't choose isn't counted
  uncounted : X.place ≡ PlaceAll → (r : ℕ) → chosen f r ≡ None → is_counted X r ≡ false
  uncounted e r none =
      ⊎_elim
      (λ (yes : is_counted X r ≡ true).
      let h = row-from_counted X X.place r yes in
      let total = counted_total X X.place in
      let split = sum_below-same (λ s. one (is_counted X s)) (λ s. one (is_some (chosen f s)) + one (is_counted X s && not (is_some (chosen f s)))) n
      (λ s _. split_one (is_counted X s) (is_some (chosen f s)) (counted_by_some s (chosen f s) refl)) in
      let both = sum_below-add (λ s. one (is_some (chosen f s))) (λ s. one (is_counted X s && not (is_some (chosen f s)))) n in
      let some = some_count in
      let counts : counted_by X.place (active_count X) (length X.rows) ≡ placed X = ap (λ place. counted_by place (active_count X) (length X.rows)) e ∙ ap (λ place. placed_by place (active_count X)) (sym e) in
      let term = term-le-sum_below (λ s. one (is_counted X s && not (is_some (chosen f s)))) n r h in
      let here : one (is_counted X r && not (is_some (chosen f r))) ≡ 1 = ap (λ b. one (b && not (is_some (chosen f r)))) yes ∙ ap (λ o. one (true && not (is_some o))) none in
      absurd (omega (arith, total, split, both, some, counts, term, here)))
      (λ (other : is_counted X r ≡ false). other)
      (cases_Bool (is_counted X r))

  -- ---- the rows that don't choose, where so many are placed
  module _ (k : ℕ) (e : X.place ≡ Exactly k) where
    side_is : side ≡ total_capacity X + (n - k)
    side_is = ap (λ place. side_by place (length X.rows) (total_capacity X)) e

    counted_is : (r : ℕ) → r < n → is_counted X r ≡ true
    counted_is r h = ap (λ place. is_counted_by place (is_active X r) (nat_lt r (length X.rows))) e ∙ (Decides-ltb r (length X.rows)).1 h

    uncounted_is : (r : ℕ) → n ≤ r → is_counted X r ≡ false
    uncounted_is r h =
        ⊎_elim
        (λ (yes : is_counted X r ≡ true). let inside = row-from_counted X X.place r yes in absurd (omega (arith, inside)))
        (λ (other : is_counted X r ≡ false). other)
        (cases_Bool (is_counted X r))

    never_extra_by : (j r : ℕ) (o : Option ℕ) → own_copy X f r ≡ o → one (takes (total_capacity X + j) o) ≡ 0
    never_extra_by j r None e = refl
    never_extra_by j r (Some c) e = let below = (own_at r c e).4 in ap one (ne_eqb c (total_capacity X + j) (λ (i : c ≡ total_capacity X + j). omega (arith, below)))

    extra_free : (j : ℕ) → j < n - k → is_free (own_copy X f) side (total_capacity X + j) ≡ true
    extra_free j h =
        let zero_ = sum_below-same (λ r. one (takes (total_capacity X + j) (own_copy X f r))) (λ _. 0) side (λ r _. never_extra_by j r (own_copy X f r) refl) in
        let none = sum_below-zero side in
        eq-eqb (count_below (λ r. takes (total_capacity X + j) (own_copy X f r)) side) 0 (omega (arith, zero_, none))

    lack_count : count_below (lacks (own_copy X f)) n + k ≡ n
    lack_count =
        let some = some_count in
        let same = sum_below-same (λ r. one (is_some (own_copy X f r))) (λ r. one (is_some (chosen f r))) n (λ r _. ap one (is_some-map (λ d. first_copy X d + count_below (λ s. takes d (chosen f s)) r) (chosen f r))) in
        let both = count-not (λ r. is_some (own_copy X f r)) n in
        let place : placed X ≡ k = ap (λ place. placed_by place (active_count X)) e in
        omega (arith, some, same, both, place)

    columns_are : free_columns (own_copy X f) side ≡ passing_below (is_free (own_copy X f) side) (total_capacity X + (n - k))
    columns_are = ap (passing_below (is_free (own_copy X f) side)) side_is

    -- a row that doesn't choose takes an extra column
    takes_extra : (r : ℕ) → r < n → chosen f r ≡ None → column_label X (perm_column X f r) ≡ None
    takes_extra r h none =
        let less = rank-less (lacks (own_copy X f)) r n h (ap (λ o. not (is_some o)) (own_none r none)) in
        let lack = lack_count in
        let high = top_high (is_free (own_copy X f) side) (total_capacity X) (n - k) (count_below (lacks (own_copy X f)) r) 0 extra_free (omega (arith, less, lack)) in
        let is : perm_column X f r ≡ get_or (passing_below (is_free (own_copy X f) side) (total_capacity X + (n - k))) (count_below (lacks (own_copy X f)) r) 0 =
        completed_none (own_copy X f) side r (own_none r none) ∙ ap (λ xs. get_or xs (count_below (lacks (own_copy X f)) r) 0) columns_are in
        let size = length-copies X in
        slice_get_past (copies X) (perm_column X f r) (omega (arith, high, is, size))

    -- an extra row takes a copy
    takes_copy : (r : ℕ) → n ≤ r → r < side → chosen f r ≡ None → is_some (column_label X (perm_column X f r)) ≡ true
    takes_copy r h below none =
        let upto = sum_below-upto (λ s. one (lacks (own_copy X f) s)) n r h in
        let lack = lack_count in
        let inside = subst (λ xs. count_below (lacks (own_copy X f)) r < length xs) columns_are (rank_within (own_copy X f) side r below (own_none r none)) in
        let low = top_low (is_free (own_copy X f) side) (total_capacity X) (n - k) (count_below (lacks (own_copy X f)) r) 0 extra_free (omega (arith, upto, lack)) inside in
        let is : perm_column X f r ≡ get_or (passing_below (is_free (own_copy X f) side) (total_capacity X + (n - k))) (count_below (lacks (own_copy X f)) r) 0 =
        completed_none (own_copy X f) side r (own_none r none) ∙ ap (λ xs. get_or xs (count_below (lacks (own_copy X f)) r) 0) columns_are in
        let size = length-copies X in
        ap is_some (slice_get-get_or (copies X) (perm_column X f r) 0 (omega (arith, low, is, size)))

  past_none : (r : ℕ) → n ≤ r → chosen f r ≡ None
  past_none r h = get_or_past f r None (let over = valid.over in omega (arith, over))

  -- ---- the assignment
  module _ {V : Type 0} (free : V) (enter : Cost → V) where
    some_entered : (o : Option Cost) → IsSome o → IsSome (option_map enter o)
    some_entered o h = is_some-map enter o ∙ h

    corner_present : (o : Option ℕ) → X.place ≡ PlaceAll → IsSome (labelled_cell X free enter None o)
    corner_present None e = subst (λ place. IsSome (corner_cell place free)) (sym e) refl
    corner_present (Some d) e = refl

    copy_present : (o : Option ℕ) → is_some o ≡ true → IsSome (labelled_cell X free enter None o)
    copy_present None h = absurd (false≢true h)
    copy_present (Some d) h = refl

    rest_present : (place : Place) → X.place ≡ place → (r : ℕ) → r < side → chosen f r ≡ None → IsSome (labelled_cell X free enter (row_label X r) (column_label X (perm_column X f r)))
    rest_present PlaceAll e r h none =
        subst (λ b. IsSome (labelled_cell X free enter (cond b (Some r) None) (column_label X (perm_column X f r)))) (sym (uncounted e r none))
        (corner_present (column_label X (perm_column X f r)) e)
    rest_present (Exactly k) e r h none =
        ⊎_elim
        (λ (within : r < n).
        subst (λ b. IsSome (labelled_cell X free enter (cond b (Some r) None) (column_label X (perm_column X f r)))) (sym (counted_is k e r within))
        (subst (λ o. IsSome (labelled_cell X free enter (Some r) o)) (sym (takes_extra k e r within none))
        (subst (λ place. IsSome (extra_column_cell place free)) (sym e) refl)))
        (λ (past : n ≤ r).
        subst (λ b. IsSome (labelled_cell X free enter (cond b (Some r) None) (column_label X (perm_column X f r)))) (sym (uncounted_is k e r past))
        (copy_present (column_label X (perm_column X f r)) (takes_copy k e r past h none)))
        (cases_lt r n)

    present_by : (r : ℕ) (o : Option ℕ) → chosen f r ≡ o → r < side → IsSome (labelled_cell X free enter (row_label X r) (column_label X (perm_column X f r)))
    present_by r None e h = rest_present X.place refl r h e
    present_by r (Some d) e h =
        subst (λ b. IsSome (labelled_cell X free enter (cond b (Some r) None) (column_label X (perm_column X f r)))) (sym (counted_some r d e))
        (subst (λ o. IsSome (labelled_cell X free enter (Some r) o)) (sym (label_some r d e))
        (some_entered (live_at X r d) (valid.alive r d (Chooses-from_chosen f r d e).1)))

    perm_present : (r c : ℕ) → c ≡ perm_column X f r → r < side → IsPresent (square_cell X free enter) r c
    perm_present r c is h =
        let below = perm_below r h in
        subst (λ b. IsSome (cond (b && nat_lt c side) (labelled_cell X free enter (row_label X r) (column_label X c)) None)) (sym ((Decides-ltb r side).1 h))
        (subst (λ b. IsSome (cond (true && b) (labelled_cell X free enter (row_label X r) (column_label X c)) None)) (sym ((Decides-ltb c side).1 (omega (arith, below))))
        (subst (λ k. IsSome (labelled_cell X free enter (row_label X r) (column_label X k))) (sym is) (present_by r (chosen f r) refl h)))

    at_row : (r d : ℕ) → r < side → get_or (perm_list X f) r d ≡ perm_column X f r
    at_row r d h = get_or-map-range_with_len (perm_column X f) 0 side r r d h (omega arith)

    pub perm_is_assignment : IsAssignment (square_cell X free enter) side (perm_list X f)
    perm_is_assignment =
        let size = length-map-range_with_len (perm_column X f) 0 side in
        record {
          over = size;
          apart = λ i j d h k same.
              let last : j < side = omega (arith, size) in
              let first : i < side = omega arith in
              let equal = perm_apart i j first last (sym (at_row i d first) ∙ same ∙ at_row j d last) in
              omega (arith, equal);
          present = λ r h. perm_present r (slice_index (perm_list X f) r) (at_row r 0 h) h;
        }

  -- ---- its choice
  none_by : (place : Place) → X.place ≡ place → (r : ℕ) → r < n → chosen f r ≡ None → option_and_then (λ _. column_label X (perm_column X f r)) (row_label X r) ≡ None
  none_by PlaceAll e r h none = ap (λ b. option_and_then (λ _. column_label X (perm_column X f r)) (cond b (Some r) None)) (uncounted e r none)
  none_by (Exactly k) e r h none =
      ap (λ b. option_and_then (λ _. column_label X (perm_column X f r)) (cond b (Some r) None)) (counted_is k e r h)
      ∙ takes_extra k e r h none

  chosen_again : (r : ℕ) (o : Option ℕ) → chosen f r ≡ o → r < n → option_and_then (λ _. column_label X (perm_column X f r)) (row_label X r) ≡ o
  chosen_again r None e h = none_by X.place refl r h e
  chosen_again r (Some d) e h =
      ap (λ b. option_and_then (λ _. column_label X (perm_column X f r)) (cond b (Some r) None)) (counted_some r d e)
      ∙ label_some r d e

  pub choice_of-perm : choice_of X (perm_list X f) ≡ f
  choice_of-perm =
      let p = perm_list X f in
      let size = length-map-range_with_len (chosen_by X p) 0 n in
      let over = valid.over in
      same_lists (choice_of X p) f (omega (arith, size, over))
      (λ r d h.
      let within : r < n = omega (arith, size) in
      let rows = rows_within X range in
      let inside : r < side = omega (arith, rows) in
      let at = get_or-map-range_with_len (perm_column X f) 0 side r r 0 inside (omega arith) in
      let known : get_or f r None ≡ get_or f r d = same_Some (get_or f r None) (get_or f r d) (sym (slice_get-get_or f r None (omega (arith, over))) ∙ slice_get-get_or f r d (omega (arith, over))) in
      get_or-map-range_with_len (chosen_by X p) 0 n r r d within (omega arith)
      ∙ ap (λ c. option_and_then (λ _. column_label X c) (row_label X r)) at
      ∙ chosen_again r (chosen f r) refl within
      ∙ known)
