-- The values of a perfect assignment, and their product where the free value is the unit.
use Rattle.asg_square.proofs.Common.{◌≡◌, ℕ, zero, suc, ◌+◌, ◌<◌, ◌≤◌, Bool, true, false, cond, ◌&&◌, List, [], ◌∷◌, map, length, IfSome, IsSome, nat_lt, slice_get, slice_index, Some, None, fold, Option, option_map, filter_map, sym, refl, ap, ◌∙◌, ⊎_elim, arith, Decides-ltb, cases_Bool, cases_lt, cons_option, false≢true, get_or-map-range_with_len, length-map-range_with_len, option_map_or, range_with_len, slice_get-get_or, slice_get_past, extra_column_cell, corner_cell, labelled_cell, is_counted, IsPlaceInRange, live_at, Problem, square_side, Cost, Place, square_cell, IsAssignment, chosen_by, choice_of, entered_or_free, assignment_values, row_label, column_label, row-from_counted, rows_within, option_and_then}
use Rattle.asg_model.specs.Values.{chosen_cost, costs_of}
use Rattle.asg_order.specs.Monoid.{Monoid, IsValue, IsOrderedMonoid, fold_of}
use Rattle.asg_order.specs.Bridge.{costs_fold}
use Rattle.asg_order.specs.laws.Products.{neutral_right}
use Rattle.asg_square.proofs.PerfectValid.{labelled_as, column_below}
use Rattle.asg_model.specs.laws.Listing.{all_there}
use Rattle.asg_model.specs.declared.parts.Place.TheVariants.{All as PlaceAll, Exactly}

extra_value : {V : Type 0} (place : Place) (free : V) → IsSome (extra_column_cell place free) → extra_column_cell place free ≡ Some free
extra_value PlaceAll free h = absurd (false≢true h)
extra_value (Exactly k) free h = refl

corner_value : {V : Type 0} (place : Place) (free : V) → IsSome (corner_cell place free) → corner_cell place free ≡ Some free
corner_value PlaceAll free h = refl
corner_value (Exactly k) free h = absurd (false≢true h)

some_value : {V : Type 0} (enter : Cost → V) (free : V) (o : Option Cost) → IsSome (option_map enter o) → option_map enter o ≡ Some (option_map_or enter o free)
some_value enter free None h = absurd (false≢true h)
some_value enter free (Some cost) h = refl

value_by : {V : Type 0} (X : Problem) (free : V) (enter : Cost → V) (b : Bool) (r : ℕ) (o : Option ℕ) → IsSome (labelled_cell X free enter (cond b (Some r) None) o) → labelled_cell X free enter (cond b (Some r) None) o ≡ Some (option_map_or enter (option_and_then (live_at X r) (option_and_then (λ _. o) (cond b (Some r) None))) free)
value_by X free enter true r (Some d) h = some_value enter free (live_at X r d) h
value_by X free enter true r None h = extra_value X.place free h
value_by X free enter false r (Some d) h = refl
value_by X free enter false r None h = corner_value X.place free h

uncounted_past : (X : Problem) (r : ℕ) → length X.rows ≤ r → is_counted X r ≡ false
uncounted_past X r h =
    ⊎_elim
    (λ (yes : is_counted X r ≡ true). let inside = row-from_counted X X.place r yes in absurd (omega (arith, inside)))
    (λ (other : is_counted X r ≡ false). other)
    (cases_Bool (is_counted X r))

module _ {V : Type 0} (X : Problem) (free : V) (enter : Cost → V) (p : List ℕ) (a : IsAssignment (square_cell X free enter) (square_side X) p) where
  cost_chosen : (r : ℕ) → chosen_cost X (choice_of X p) r ≡ option_and_then (live_at X r) (chosen_by X p r)
  cost_chosen r =
      let size = length-map-range_with_len (chosen_by X p) 0 (length X.rows) in
      ⊎_elim
      (λ (within : r < length X.rows).
      let at = get_or-map-range_with_len (chosen_by X p) 0 (length X.rows) r r None within (omega arith) in
      let got = slice_get-get_or (choice_of X p) r None (omega (arith, size)) in
      ap (option_and_then (λ chosen. option_and_then (live_at X r) chosen)) (got ∙ ap Some at))
      (λ (past : length X.rows ≤ r).
      ap (option_and_then (λ chosen. option_and_then (live_at X r) chosen)) (slice_get_past (choice_of X p) r (omega (arith, size)))
      ∙ sym (ap (λ b. option_and_then (live_at X r) (option_and_then (λ _. column_label X (slice_index p r)) (cond b (Some r) None))) (uncounted_past X r past)))
      (cases_lt r (length X.rows))

  -- the value of the assignment's cell in a row
  pub value_at : (r : ℕ) → r < square_side X → square_cell X free enter r (slice_index p r) ≡ Some (entered_or_free X free enter (choice_of X p) r)
  value_at r h =
      let cell = labelled_as X free enter p a r (is_counted X r) refl h in
      ap (λ b. cond (b && nat_lt (slice_index p r) (square_side X)) (labelled_cell X free enter (row_label X r) (column_label X (slice_index p r))) None) ((Decides-ltb r (square_side X)).1 h)
      ∙ ap (λ b. cond b (labelled_cell X free enter (row_label X r) (column_label X (slice_index p r))) None) ((Decides-ltb (slice_index p r) (square_side X)).1 (column_below X free enter p a r h))
      ∙ value_by X free enter (is_counted X r) r (column_label X (slice_index p r)) cell
      ∙ ap (λ o. Some (option_map_or enter o free)) (sym (cost_chosen r))

pub values_are : {V : Type 0} (X : Problem) (free : V) (enter : Cost → V) (p : List ℕ) → IsAssignment (square_cell X free enter) (square_side X) p → assignment_values (square_cell X free enter) (square_side X) p ≡ map (entered_or_free X free enter (choice_of X p)) (range_with_len 0 (square_side X))
values_are X free enter p a =
    all_there (λ r. square_cell X free enter r (slice_index p r)) (entered_or_free X free enter (choice_of X p)) 0 (square_side X)
    (λ r from below. value_at X free enter p a r (omega arith))

-- what is not there from a place on adds nothing
none_there : {C : Type 0} (h : ℕ → Option C) (a m : ℕ) → ((r : ℕ) → a ≤ r → h r ≡ None) → filter_map h (range_with_len a m) ≡ []
none_there h a zero none = refl
none_there h a (suc m) none =
    ap (λ o. cons_option o (filter_map h (range_with_len (a + 1) m))) (none a (omega arith)) ∙ none_there h (a + 1) m (λ r from. none r (omega arith))

none_after : {C : Type 0} (h : ℕ → Option C) (a n m : ℕ) → n ≤ m → ((r : ℕ) → a + n ≤ r → h r ≡ None) → filter_map h (range_with_len a m) ≡ filter_map h (range_with_len a n)
none_after h a zero m le none = none_there h a m (λ r from. none r (omega arith))
none_after h a (suc n) zero le none = absurd (omega arith)
none_after h a (suc n) (suc m) le none = ap (cons_option (h a)) (none_after h (a + 1) n m (omega arith) (λ r from. none r (omega arith)))

module _ {V : Type 0} (M : Monoid V) (laws : IsOrderedMonoid M) (enter : Cost → V) where
  fold_step : (x : V) (o : Option Cost) (rest : List V) (costs : List Cost) → IsValue M x → IfSome o (λ cost. IsValue M (enter cost)) → ((y : V) → IsValue M y → fold M.product y rest ≡ fold M.product y (map enter costs)) → fold M.product x (option_map_or enter o M.unit ∷ rest) ≡ fold M.product x (map enter (cons_option o costs))
  fold_step x None rest costs vx ve same = ap (λ y. fold M.product y rest) (neutral_right M laws x vx) ∙ same x vx
  fold_step x (Some cost) rest costs vx ve same = same (M.product x (enter cost)) (laws.product_is_value x (enter cost) vx ve)

  -- units add nothing
  fold_units : (h : ℕ → Option Cost) → ((r : ℕ) → IfSome (h r) (λ cost. IsValue M (enter cost))) → (rs : List ℕ) (x : V) → IsValue M x → fold M.product x (map (λ r. option_map_or enter (h r) M.unit) rs) ≡ fold M.product x (map enter (filter_map h rs))
  fold_units h values [] x vx = refl
  fold_units h values (r ∷ rs) x vx =
      fold_step x (h r) (map (λ s. option_map_or enter (h s) M.unit) rs) (filter_map h rs) vx (values r) (λ y vy. fold_units h values rs y vy)

  IfSome-and_then : {A B : Type 0} (h : A → Option B) (P : B → Type 0) → ((x : A) → IfSome (h x) P) → (o : Option A) → IfSome (option_and_then h o) P
  IfSome-and_then h P each None = tt
  IfSome-and_then h P each (Some x) = each x

  -- the two folds are equal
  pub folds_equal : (X : Problem) → IsPlaceInRange X X.place → ((r c : ℕ) → IfSome (live_at X r c) (λ cost. IsValue M (enter cost))) → (p : List ℕ) → IsAssignment (square_cell X M.unit enter) (square_side X) p → fold_of M (assignment_values (square_cell X M.unit enter) (square_side X) p) ≡ costs_fold M enter (costs_of X (choice_of X p))
  folds_equal X range live p a =
      let f = choice_of X p in
      let size = length-map-range_with_len (chosen_by X p) 0 (length X.rows) in
      ap (fold_of M) (values_are X M.unit enter p a)
      ∙ fold_units (chosen_cost X f)
      (λ r. IfSome-and_then (λ chosen. option_and_then (live_at X r) chosen) (λ cost. IsValue M (enter cost))
      (IfSome-and_then (live_at X r) (λ cost. IsValue M (enter cost)) (live r)) (slice_get f r))
      (range_with_len 0 (square_side X)) M.unit laws.unit_is_value
      ∙ ap (costs_fold M enter)
      (none_after (chosen_cost X f) 0 (length f) (square_side X) (let rows = rows_within X range in omega (arith, rows, size))
      (λ r from. ap (option_and_then (λ chosen. option_and_then (live_at X r) chosen)) (slice_get_past f r (omega arith))))
