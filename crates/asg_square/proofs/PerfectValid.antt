-- The choice of a perfect assignment is valid.
use Rattle.asg_square.proofs.Common.{◌≡◌, ℕ, ◌+◌, ◌-◌, ◌<◌, ◌≤◌, Bool, true, false, cond, ◌&&◌, ◌≢◌, List, length, get_or, is_some, IsSome, nat_lt, slice_index, Some, None, count_by, Option, option_map, AllPairs, sym, refl, ap, ◌∙◌, subst, ⊎_elim, arith, Decides-ltb, cases_Bool, cases_order, false≢true, get_or-map-range_with_len, length-map-range_with_len, same_Some, slice_get-get_or, slice_get_within, extra_column_cell, corner_cell, labelled_cell, active_count, placed_by, counted_by, is_counted, is_counted_by, total_capacity, capacity_at, IsPlaceInRange, is_active, live_at, Problem, square_side, side_by, sum_below, count_below, one, takes, IsValid, Cost, Place, sum_below-same, sum_below-le, sum_by-below, sum_below-zero, counted_total, ones_below, square_cell, IsAssignment, chosen_by, choice_of, row_label, column_label, copies, sum_below-split, sum_below-upto, permute-count, length-copies, count-copies_at, count-labels, row-from_counted, count-map, rows_within, copies_within, option_and_then}
use Rattle.asg_model.specs.declared.parts.Place.TheVariants.{All as PlaceAll, Exactly}

pub cell_parts : {V : Type 0} (b d : Bool) (o : Option V) → IsSome (cond (b && d) o None) → (b ≡ true) × (d ≡ true) × IsSome o
cell_parts true true o h = (refl, refl, h)
cell_parts true false o h = absurd (false≢true h)
cell_parts false d o h = absurd (false≢true h)

some_live : {V : Type 0} (enter : Cost → V) (o : Option Cost) → IsSome (option_map enter o) → IsSome o
some_live enter None h = h
some_live enter (Some cost) h = refl

-- different elements stand at different places only
pub same_place : (p : List ℕ) → AllPairs ◌≢◌ p → (r s : ℕ) → r < length p → s < length p → slice_index p r ≡ slice_index p s → r ≡ s
same_place p apart r s h k same =
    ⊎_elim (λ (i : r ≡ s). i)
    (⊎_elim (λ (less : r < s). absurd (apart r s 0 less k same)) (λ (more : s < r). absurd (apart s r 0 more h (sym same))))
    (cases_order r s)

some_chosen : (b : Bool) (r : ℕ) (o : Option ℕ) → (b ≡ true → is_some o ≡ true) → is_some (option_and_then (λ _. o) (cond b (Some r) None)) ≡ b
some_chosen true r o h = h refl
some_chosen false r o h = refl

takes_chosen : (c : ℕ) (b : Bool) (r : ℕ) (o : Option ℕ) → one (takes c (option_and_then (λ _. o) (cond b (Some r) None))) ≤ one (takes c o)
takes_chosen c true r o = omega arith
takes_chosen c false r o = omega arith

some_of_chosen : (b : Bool) (r : ℕ) (o : Option ℕ) (c : ℕ) → option_and_then (λ _. o) (cond b (Some r) None) ≡ Some c → (b ≡ true) × (o ≡ Some c)
some_of_chosen true r o c e = (refl, e)
some_of_chosen false r o c e = absurd (cc)

count_all : (xs : List ℕ) → count_by (λ _. true) xs ≡ length xs
count_all xs = sum_by-below (λ _. 1) xs 0 ∙ ones_below (length xs)

module _ {V : Type 0} (X : Problem) (free : V) (enter : Cost → V) where
  -- a present cell of a row in a copy of a column is live
  pub live_from_present : (r d : ℕ) → IsSome (labelled_cell X free enter (Some r) (Some d)) → IsSome (live_at X r d)
  live_from_present r d h = some_live enter (live_at X r d) h

  pub labelled_of_counted : X.place ≡ PlaceAll → (r : ℕ) (o : Option ℕ) → IsSome (labelled_cell X free enter (Some r) o) → is_some o ≡ true
  labelled_of_counted e r None h = absurd (false≢true (subst (λ place. IsSome (extra_column_cell place free)) e h))
  labelled_of_counted e r (Some d) h = refl

  labelled_of_extra : (k : ℕ) → X.place ≡ Exactly k → (o : Option ℕ) → IsSome (labelled_cell X free enter None o) → is_some o ≡ true
  labelled_of_extra k e None h = absurd (false≢true (subst (λ place. IsSome (corner_cell place free)) e h))
  labelled_of_extra k e (Some d) h = refl

  module _ (p : List ℕ) (a : IsAssignment (square_cell X free enter) (square_side X) p) where
    abbrev label : ℕ → Option ℕ
    label r = column_label X (slice_index p r)

    pub column_below : (r : ℕ) → r < square_side X → slice_index p r < square_side X
    column_below r h =
        let parts = cell_parts (nat_lt r (square_side X)) (nat_lt (slice_index p r) (square_side X)) (labelled_cell X free enter (row_label X r) (label r)) (a.present r h) in
        (Decides-ltb (slice_index p r) (square_side X)).0 parts.1

    pub labelled : (r : ℕ) → r < square_side X → IsSome (labelled_cell X free enter (row_label X r) (label r))
    labelled r h =
        (cell_parts (nat_lt r (square_side X)) (nat_lt (slice_index p r) (square_side X)) (labelled_cell X free enter (row_label X r) (label r)) (a.present r h)).2

    pub labelled_as : (r : ℕ) (b : Bool) → is_counted X r ≡ b → r < square_side X → IsSome (labelled_cell X free enter (cond b (Some r) None) (label r))
    labelled_as r b e h = subst (λ c. IsSome (labelled_cell X free enter (cond c (Some r) None) (label r))) e (labelled r h)

    -- as many rows take a column that passes as there are such columns
    pub permuted : (q : ℕ → Bool) → count_below (λ r. q (slice_index p r)) (square_side X) ≡ count_below q (square_side X)
    permuted q =
        permute-count q (square_side X) (λ r. slice_index p r) column_below
        (λ r s h k same. same_place p a.apart r s (omega (arith, a.over)) (omega (arith, a.over)) same)

    columns_as : (q : Option ℕ → Bool) → count_below (λ c. q (column_label X c)) (square_side X) ≡ count_by (λ d. q (Some d)) (copies X) + sum_below (λ _. one (q None)) (square_side X - total_capacity X)
    columns_as q =
        let within = copies_within X in
        let side : square_side X ≡ total_capacity X + (square_side X - total_capacity X) = omega arith in
        ap (count_below (λ c. q (column_label X c))) side ∙ count-labels X q (square_side X - total_capacity X)

    within_capacity : IsPlaceInRange X X.place → (c : ℕ) → count_below (λ r. takes c (chosen_by X p r)) (length X.rows) ≤ capacity_at X c
    within_capacity range c =
        let each = sum_below-le (λ r. one (takes c (chosen_by X p r))) (λ r. one (takes c (label r))) (length X.rows) (λ r _. takes_chosen c (is_counted X r) r (label r)) in
        let upto = sum_below-upto (λ r. one (takes c (label r))) (length X.rows) (square_side X) (rows_within X range) in
        let turned = permuted (λ k. takes c (column_label X k)) in
        let columns = columns_as (takes c) in
        let none = sum_below-zero (square_side X - total_capacity X) in
        let capacity = count-copies_at X c in
        omega (arith, each, upto, turned, columns, none, capacity)

    counted_as : IsPlaceInRange X X.place → (place : Place) → X.place ≡ place → IsPlaceInRange X place → count_below (λ r. is_some (chosen_by X p r)) (length X.rows) ≡ placed_by place (active_count X)
    counted_as range PlaceAll e here =
        sum_below-same (λ r. one (is_some (chosen_by X p r))) (λ r. one (is_counted X r)) (length X.rows)
        (λ r h. ap one (some_chosen (is_counted X r) r (label r) (λ counted. labelled_of_counted e r (label r) (labelled_as r true counted (omega (arith, rows_within X range))))))
        ∙ counted_total X X.place
        ∙ ap (λ place. counted_by place (active_count X) (length X.rows)) e
    counted_as range (Exactly k) e here =
        let side : square_side X ≡ total_capacity X + (length X.rows - k) = ap (λ place. side_by place (length X.rows) (total_capacity X)) e in
        let there = λ (r : ℕ) (h : r < length X.rows). ap (λ place. is_counted_by place (is_active X r) (nat_lt r (length X.rows))) e ∙ (Decides-ltb r (length X.rows)).1 h in
        let each = sum_below-same (λ r. one (is_some (chosen_by X p r))) (λ r. one (is_some (label r))) (length X.rows)
        (λ r h. ap (λ b. one (is_some (option_and_then (λ _. label r) (cond b (Some r) None)))) (there r h)) in
        let turned = permuted (λ c. is_some (column_label X c)) in
        let columns = columns_as is_some in
        let all = count_all (copies X) in
        let none = sum_below-zero (square_side X - total_capacity X) in
        let size = length-copies X in
        let more = total_capacity X - k in
        let split = sum_below-split (λ r. one (is_some (label r))) (length X.rows) more in
        let whole : length X.rows + more ≡ square_side X = omega (arith, here.1, here.2, side) in
        let sums : count_below (λ r. is_some (label r)) (length X.rows + more) ≡ count_below (λ r. is_some (label r)) (square_side X) = ap (count_below (λ r. is_some (label r))) whole in
        let extra = sum_below-same (λ j. one (is_some (label (length X.rows + j)))) (λ _. 1) more
        (λ j h.
        let past : is_counted X (length X.rows + j) ≡ false =
        ⊎_elim
        (λ (yes : is_counted X (length X.rows + j) ≡ true). let inside = row-from_counted X X.place (length X.rows + j) yes in absurd (omega (arith, inside)))
        (λ (other : is_counted X (length X.rows + j) ≡ false). other)
        (cases_Bool (is_counted X (length X.rows + j))) in
        ap one (labelled_of_extra k e (label (length X.rows + j)) (labelled_as (length X.rows + j) false past (omega (arith, whole))))) in
        let ones = ones_below more in
        omega (arith, each, turned, columns, all, none, size, split, sums, extra, ones, here.2)

    alive_by : (r c : ℕ) → r < square_side X → chosen_by X p r ≡ Some c → IsSome (live_at X r c)
    alive_by r c h e =
        let parts = some_of_chosen (is_counted X r) r (label r) c e in
        live_from_present r c (subst (λ o. IsSome (labelled_cell X free enter (Some r) o)) parts.1 (labelled_as r true parts.0 h))

    pub choice_is_valid : IsPlaceInRange X X.place → IsValid X (choice_of X p)
    choice_is_valid range =
        let f = choice_of X p in
        let size = length-map-range_with_len (chosen_by X p) 0 (length X.rows) in
        record {
          over = size;
          alive = λ r c chooses.
              let h : r < length X.rows = subst (λ n. r < n) size (slice_get_within f r (Some c) chooses) in
              let at = get_or-map-range_with_len (chosen_by X p) 0 (length X.rows) r r None h (omega arith) in
              let got = slice_get-get_or f r None (slice_get_within f r (Some c) chooses) in
              let is : chosen_by X p r ≡ Some c = sym at ∙ same_Some (get_or f r None) (Some c) (sym got ∙ chooses) in
              alive_by r c (let inside = rows_within X range in omega arith) is;
          within = λ c. let count = count-map (takes c) (chosen_by X p) (length X.rows) None in let le = within_capacity range c in omega (arith, count, le);
          counted = count-map is_some (chosen_by X p) (length X.rows) None ∙ counted_as range X.place refl range;
        }
