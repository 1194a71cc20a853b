-- Rows of the square with fewer allowed columns than they are give a Hall set.
use Rattle.asg_match.proofs.Common.{◌≡◌, ℕ, ◌+◌, ◌-◌, ◌<◌, ◌≤◌, Bool, true, false, cond, not, ◌&&◌, eqb, ltb, ◌≢◌, List, [], ◌∷◌, map, length, get_or, IsTrue, nat_lt, slice_get, Some, None, All, Contains, Option, option_map, AllPairs, filter_map, sym, refl, ap, ◌∙◌, subst, ⊎_elim, arith, lt-ltb, eq-eqb, ne_eqb, All-head, All-map, All-tail, Any-from_list_any, Contains-get_or, Decides-eqb, Decides-ltb, cases_Bool, cases_lt, cases_order, cons_option, enumerate_from, false≢true, get_or-map, length-map, list_any, list_any_at, option_map_or, position_or_len, position_or_len_is, same_Some, slice_get-get_or, IsDeficient, AllowsCells, labelled_id, hall_ids, active_count, placed_by, counted_by, is_counted, is_counted_by, total_capacity, slack, row_place_of, is_live_within, reaches, is_reached, reached_capacity, is_counted_id, IsHall, IsPlaceInRange, Problem, square_side, side_by, sum_below, count_below, one, Place, Row, sum_below-same, sum_below-zero, length-le-count_below, no_row, ones_below, row_label, column_label, copies, row-from_counted, copies_within, option_and_then}
use Rattle.asg_model.specs.declared.bands.Band.{Band}
use Rattle.asg_model.specs.Live.{is_active}
use Rattle.asg_square.specs.Presence.{has_cell}
use Rattle.asg_cell_tables.specs.LabelledCells.{leaves_rows, has_corner, is_labelled_within}
use Rattle.asg_square.specs.laws.Bijections.{sum_below-split, count-le-within}
use Rattle.asg_square.specs.laws.Copies.{length-copies, count-copies, count-labels}
use Rattle.asg_model.specs.declared.parts.Place.TheVariants.{All as PlaceAll, Exactly}

-- the id of the row at a place, 0 past the last
abbrev row_id_at : Problem → ℕ → ℕ
row_id_at X r = option_map_or (λ row. row.id) (slice_get X.rows r) 0

row_id_is : (X : Problem) (r : ℕ) (d : Row) → r < length X.rows → row_id_at X r ≡ (get_or X.rows r d).id
row_id_is X r d h = ap (λ o. option_map_or (λ row. row.id) o 0) (slice_get-get_or X.rows r d h)

module _ (X : Problem) (differ : AllPairs (λ x y. x.id ≢ y.id) X.rows) where
  ids_differ : (r s : ℕ) → r < s → s < length X.rows → row_id_at X r ≢ row_id_at X s
  ids_differ r s h k e =
      differ r s no_row h k (sym (row_id_is X r no_row (omega arith)) ∙ e ∙ row_id_is X s no_row k)

  pub ids_apart : (r s : ℕ) → r < length X.rows → s < length X.rows → r ≢ s → row_id_at X r ≢ row_id_at X s
  ids_apart r s h k apart e =
      ⊎_elim apart
      (⊎_elim (λ less. ids_differ r s less k e) (λ more. ids_differ s r more h (sym e)))
      (cases_order r s)

  -- an id leads back to its place
  pub place_of_id : (r : ℕ) → r < length X.rows → row_place_of X (row_id_at X r) ≡ Some r
  place_of_id r h =
      let test = λ (row : Row). eqb row.id (row_id_at X r) in
      let first : position_or_len test X.rows ≡ r =
      position_or_len_is test X.rows r no_row (omega arith)
      (λ k below. ne_eqb _ (row_id_at X r) (λ e. ids_differ k r below h (row_id_is X k no_row (omega arith) ∙ e)))
      (λ _. eq-eqb _ (row_id_at X r) (sym (row_id_is X r no_row h))) in
      ap (λ n. cond (ltb n (length X.rows)) (Some n) None) first ∙ ap (λ b. cond b (Some r) None) (lt-ltb r (length X.rows) h)

  pub counted_id : (r : ℕ) → is_counted X r ≡ true → is_counted_id X (row_id_at X r) ≡ true
  counted_id r counted = ap (λ o. option_map_or (is_counted X) o false) (place_of_id r (row-from_counted X X.place r counted)) ∙ counted

not_below : (r n : ℕ) → n ≤ r → not (ltb r n) ≡ true
not_below r n h =
    ⊎_elim
    (λ (yes : ltb r n ≡ true). let less = (Decides-ltb r n).0 yes in absurd (omega (arith, less)))
    (λ (other : ltb r n ≡ false). ap not other)
    (cases_Bool (ltb r n))

-- what h gives, where it gives something of each element
filter_map_all : {A B : Type 0} (h : A → Option B) (g : A → B) (xs : List A) → All (λ x. h x ≡ Some (g x)) xs → filter_map h xs ≡ map g xs
filter_map_all h g [] all = refl
filter_map_all h g (x ∷ xs) all =
    ap (λ o. cons_option o (filter_map h xs)) (All-head (λ y. h y ≡ Some (g y)) x xs all)
    ∙ ap (λ ys. g x ∷ ys) (filter_map_all h g xs (All-tail (λ y. h y ≡ Some (g y)) x xs all))

module _ (X : Problem) (band : Band) (allows : ℕ → ℕ → Type 0) (rows : List ℕ) (range : IsPlaceInRange X X.place) (differ : AllPairs (λ x y. x.id ≢ y.id) X.rows) (short : IsDeficient allows (square_side X) rows) (cells : AllowsCells allows X band) where
  abbrev columns : List ℕ
  columns = short.few.columns

  abbrev at : ℕ → ℕ
  at i = get_or rows i 0

  -- a column in which a row of the list has a cell
  reaches_column : (i c : ℕ) → i < length rows → c < square_side X → is_labelled_within X band (row_label X (at i)) (column_label X c) ≡ true → Contains columns c
  reaches_column i c h below e =
      let label = is_labelled_within X band (row_label X (at i)) (column_label X c) in
      let has : has_cell X band (at i) c ≡ true =
      ap (λ b. b && nat_lt c (square_side X) && label) (lt-ltb (at i) (square_side X) (short.below i 0 h))
      ∙ ap (λ b. b && label) (lt-ltb c (square_side X) below)
      ∙ e in
      short.few.all c (at i, Contains-get_or rows i 0 h, (cells (at i) c).1 has)

  reaches_as : (i c : ℕ) (b : Bool) (o : Option ℕ) → is_counted X (at i) ≡ b → column_label X c ≡ o → i < length rows → c < square_side X → is_labelled_within X band (cond b (Some (at i)) None) o ≡ true → Contains columns c
  reaches_as i c b o counted label h below e =
      reaches_column i c h below
      (ap (λ d. is_labelled_within X band (cond d (Some (at i)) None) (column_label X c)) counted ∙ ap (is_labelled_within X band (cond b (Some (at i)) None)) label ∙ e)

  rows_fit : length rows ≤ square_side X
  rows_fit =
      let le = length-le-count_below (λ _. true) (square_side X) rows short.apart
      (λ q e. let any = Any-from_list_any (eqb q) rows e in
      let is : q ≡ any.1 = (Decides-eqb q any.1).0 any.4 in
      let here : get_or rows any.0 any.1 ≡ any.1 = any.3 in
      let below = short.below any.0 any.1 any.2 in
      (omega (arith, is, here, below), refl)) in
      let ones = ones_below (square_side X) in
      omega (arith, le, ones)

  -- not every column of the square is one of the list's
  some_column_left : ((c : ℕ) → c < square_side X → Contains columns c) → ⊥
  some_column_left all =
      let le = count-le-within (λ _. true) (square_side X) columns (λ c h _. all c h) in
      let ones = ones_below (square_side X) in
      let fit = rows_fit in
      let fewer = short.few.fewer in
      omega (arith, le, ones, fit, fewer)

  corner_is : X.place ≡ PlaceAll → (o : Option ℕ) → is_labelled_within X band None o ≡ true
  corner_is e None = ap has_corner e
  corner_is e (Some d) = refl

  extra_is : (k : ℕ) → X.place ≡ Exactly k → (i j c : ℕ) (o : Option ℕ) → column_label X c ≡ o → i < length rows → j < length rows → c < square_side X → is_counted X (at i) ≡ false → is_counted X (at j) ≡ true → Contains columns c
  extra_is k e i j c None label hi hj below out counted = reaches_as j c true None counted label hj below (ap leaves_rows e)
  extra_is k e i j c (Some d) label hi hj below out counted = reaches_as i c false (Some d) out label hi below refl

  uncounted_past : (k : ℕ) → X.place ≡ Exactly k → (r : ℕ) → is_counted X r ≡ false → length X.rows ≤ r
  uncounted_past k e r out =
      ⊎_elim
      (λ (within : r < length X.rows).
      let counted = ap (λ place. is_counted_by place (is_active X r) (nat_lt r (length X.rows))) e ∙ (Decides-ltb r (length X.rows)).1 within in
      absurd (false≢true (sym out ∙ counted)))
      (λ (past : length X.rows ≤ r). past)
      (cases_lt r (length X.rows))

  -- each row of the list is counted
  all_counted_by : (place : Place) → X.place ≡ place → IsPlaceInRange X place → (i : ℕ) → i < length rows → is_counted X (at i) ≡ false → ⊥
  all_counted_by PlaceAll e here i h out =
      some_column_left (λ c below. reaches_as i c false (column_label X c) out refl h below (corner_is e (column_label X c)))
  all_counted_by (Exactly k) e here i h out =
      ⊎_elim
      (λ (some : list_any (is_counted X) rows ≡ true).
      let any = Any-from_list_any (is_counted X) rows some in
      let known : at any.0 ≡ any.1 =
      same_Some (at any.0) any.1 (sym (slice_get-get_or rows any.0 0 any.2) ∙ slice_get-get_or rows any.0 any.1 any.2 ∙ ap Some any.3) in
      let counted : is_counted X (at any.0) ≡ true = ap (is_counted X) known ∙ any.4 in
      some_column_left (λ c below. extra_is k e i any.0 c (column_label X c) refl h any.2 below out counted))
      (λ (none : list_any (is_counted X) rows ≡ false).
      let n = length X.rows in
      let more = total_capacity X - k in
      let side : square_side X ≡ total_capacity X + (n - k) = ap (λ place. side_by place (length X.rows) (total_capacity X)) e in
      let whole : n + more ≡ square_side X = omega (arith, here.1, here.2, side) in
      let few = length-le-count_below (λ r. not (ltb r n)) (square_side X) rows short.apart
      (λ q found.
      let any = Any-from_list_any (eqb q) rows found in
      let is : q ≡ any.1 = (Decides-eqb q any.1).0 any.4 in
      let there : get_or rows any.0 any.1 ≡ any.1 = any.3 in
      let below = short.below any.0 any.1 any.2 in
      let other : is_counted X (get_or rows any.0 any.1) ≡ false =
      ⊎_elim
      (λ (yes : is_counted X (get_or rows any.0 any.1) ≡ true). absurd (false≢true (sym none ∙ list_any_at (is_counted X) rows any.0 any.1 any.2 yes)))
      (λ (no_ : is_counted X (get_or rows any.0 any.1) ≡ false). no_)
      (cases_Bool (is_counted X (get_or rows any.0 any.1))) in
      let past = uncounted_past k e (get_or rows any.0 any.1) other in
      (omega (arith, is, there, below), not_below q n (omega (arith, is, there, past)))) in
      let sums : count_below (λ r. not (ltb r n)) (n + more) ≡ count_below (λ r. not (ltb r n)) (square_side X) = ap (count_below (λ r. not (ltb r n))) whole in
      let split = sum_below-split (λ r. one (not (ltb r n))) n more in
      let front = sum_below-same (λ r. one (not (ltb r n))) (λ _. 0) n
      (λ r less. ap (λ b. one (not b)) ((Decides-ltb r n).1 less)) in
      let zeros = sum_below-zero n in
      let back = sum_below-same (λ j. one (not (ltb (n + j) n))) (λ _. 1) more (λ j _. ap one (not_below (n + j) n (omega arith))) in
      let ones = ones_below more in
      let size = length-copies X in
      let within = copies_within X in
      let le = count-le-within (λ _. true) (total_capacity X) columns
      (λ c below _. reaches_as i c false (Some (get_or (copies X) c 0)) out (slice_get-get_or (copies X) c 0 (omega (arith, size))) h (omega (arith, within)) refl) in
      let all = ones_below (total_capacity X) in
      let fewer = short.few.fewer in
      omega (arith, few, sums, split, front, zeros, back, ones, le, all, fewer, here.2))
      (cases_Bool (list_any (is_counted X) rows))

  all_counted : (i : ℕ) → i < length rows → is_counted X (at i) ≡ true
  all_counted i h =
      ⊎_elim
      (λ (yes : is_counted X (at i) ≡ true). yes)
      (λ (out : is_counted X (at i) ≡ false). absurd (all_counted_by X.place refl range i h out))
      (cases_Bool (is_counted X (at i)))

  at_is : (i d : ℕ) → i < length rows → get_or rows i d ≡ at i
  at_is i d h = same_Some (get_or rows i d) (at i) (sym (slice_get-get_or rows i d h) ∙ slice_get-get_or rows i 0 h)

  id_at : (i : ℕ) → i < length rows → labelled_id X (at i) ≡ Some (row_id_at X (at i))
  id_at i h =
      let counted = all_counted i h in
      let row = slice_get-get_or X.rows (at i) no_row (row-from_counted X X.place (at i) counted) in
      ap (λ b. option_and_then (λ k. option_map (λ row. row.id) (slice_get X.rows k)) (cond b (Some (at i)) None)) counted
      ∙ ap (option_map (λ row. row.id)) row
      ∙ ap (λ o. Some (option_map_or (λ row. row.id) o 0)) (sym row)

  ids_are : hall_ids X rows ≡ map (row_id_at X) rows
  ids_are = filter_map_all (labelled_id X) (row_id_at X) rows (λ i d h. subst (λ r. labelled_id X r ≡ Some (row_id_at X r)) (sym (at_is i d h)) (id_at i h))

  ids : List ℕ
  ids = map (row_id_at X) rows

  -- ---- the columns

  extra_count : (place : Place) → X.place ≡ place → sum_below (λ _. one (leaves_rows place)) (square_side X - total_capacity X) ≡ counted_by place (active_count X) (length X.rows) - placed_by place (active_count X)
  extra_count PlaceAll e = let zeros = sum_below-zero (square_side X - total_capacity X) in omega (arith, zeros)
  extra_count (Exactly k) e =
      let side : square_side X ≡ total_capacity X + (length X.rows - k) = ap (λ place. side_by place (length X.rows) (total_capacity X)) e in
      let ones = ones_below (square_side X - total_capacity X) in
      omega (arith, side, ones)

  abbrev is_met : Option ℕ → Bool
  is_met None = leaves_rows X.place
  is_met (Some d) = is_reached X band (map (row_id_at X) rows) d

  met_count : count_below (λ c. is_met (column_label X c)) (square_side X) ≡ reached_capacity X band (map (row_id_at X) rows) + slack X
  met_count =
      let within = copies_within X in
      let side : square_side X ≡ total_capacity X + (square_side X - total_capacity X) = omega arith in
      let all = ap (count_below (λ c. is_met (column_label X c))) side ∙ count-labels X is_met (square_side X - total_capacity X) in
      let reached = count-copies (is_reached X band (map (row_id_at X) rows)) (enumerate_from 0 X.columns) in
      let extra = extra_count X.place refl in
      omega (arith, all, reached, extra)

  met_within : (c : ℕ) (o : Option ℕ) → column_label X c ≡ o → c < square_side X → is_met o ≡ true → Contains columns c
  met_within c None label below met =
      let fewer = short.few.fewer in
      let some : 0 < length rows = omega (arith, fewer) in
      reaches_as 0 c true None (all_counted 0 some) label some below met
  met_within c (Some d) label below met =
      let any = Any-from_list_any (reaches X band d) (map (row_id_at X) rows) met in
      let h : any.0 < length rows = omega (arith, any.2, length-map rows (row_id_at X)) in
      let counted = all_counted any.0 h in
      let id : any.1 ≡ row_id_at X (at any.0) = sym any.3 ∙ get_or-map (row_id_at X) rows any.0 0 any.1 h in
      let live : is_live_within X band (at any.0) d ≡ true =
      sym (ap (λ o. option_map_or (λ r. is_live_within X band r d) o false) (place_of_id X differ (at any.0) (row-from_counted X X.place (at any.0) counted)))
      ∙ ap (reaches X band d) (sym id)
      ∙ any.4 in
      reaches_as any.0 c true (Some d) counted label h below live

  is_hall : IsHall X band (map (row_id_at X) rows)
  is_hall =
      let size = length-map rows (row_id_at X) in
      record {
        different = λ i j d h k same.
            let last : j < length rows = omega (arith, size) in
            let first : i < length rows = omega arith in
            let counted = λ (m : ℕ) (within : m < length rows). row-from_counted X X.place (at m) (all_counted m within) in
            ids_apart X differ (at i) (at j) (counted i first) (counted j last)
            (λ equal. short.apart i j 0 h last equal)
            (sym (get_or-map (row_id_at X) rows i 0 d first) ∙ same ∙ get_or-map (row_id_at X) rows j 0 d last);
        counted = All-map (λ id. IsTrue (is_counted_id X id)) (row_id_at X) rows
            (λ i d h. subst (λ r. is_counted_id X (row_id_at X r) ≡ true) (sym (at_is i d h)) (counted_id X differ (at i) (all_counted i h)));
        short =
            let met = met_count in
            let le = count-le-within (λ c. is_met (column_label X c)) (square_side X) columns (λ c h e. met_within c (column_label X c) refl h e) in
            let fewer = short.few.fewer in
            omega (arith, met, le, fewer, size);
      }

  pub hall_from_short : IsHall X band (hall_ids X rows)
  hall_from_short = subst (IsHall X band) (sym ids_are) is_hall
