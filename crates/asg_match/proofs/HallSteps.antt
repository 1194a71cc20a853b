-- How many ids there are, and ids from equal rows.
use Rattle.asg_match.proofs.Common.{◌≡◌, ℕ, ◌+◌, ◌<◌, ◌≤◌, Bool, true, false, cond, eqb, ◌≢◌, List, [], ◌∷◌, ◌++◌, map, length, get_or, take, is_some, nat_lt, slice_get, Some, None, sum_by, count_by, filter, Option, option_map, AllPairs, filter_map, sym, refl, ap, ◌∙◌, subst, arith, AllPairs-filter, Any-from_list_any, Decides-eqb, cons_option, filter_map-append, filter_passes, get_or-map-range_with_len, get_or_from_slice_get, length-filter, option_map_or, range_with_len, sum_by-cons, sum_by-take-le, take_more, labelled_id, hall_ids, is_counted, is_counted_by, total_capacity, IsPlaceInRange, Problem, square_side, side_by, one, Place, Row, length-le-count_below, ones_below, row_label, row-from_counted, option_and_then}
use Rattle.std.proofs.lemmas.List.{length-append}
use Rattle.asg_model.specs.declared.parts.Place.TheVariants.{All as PlaceAll, Exactly}

length-cons_option : {B : Type 0} (o : Option B) (ys : List B) → length (cons_option o ys) ≡ one (is_some o) + length ys
length-cons_option None ys = omega arith
length-cons_option (Some y) ys = omega arith

-- a row without a label has no id
id_of_label : (X : Problem) (r : ℕ) (b : Bool) → one (is_some (option_and_then (λ k. option_map (λ row. row.id) (slice_get X.rows k)) (cond b (Some r) None))) ≤ one b
id_of_label X r true = at_most_one (is_some (option_map (λ row. row.id) (slice_get X.rows r)))
  where
    at_most_one : (b : Bool) → one b ≤ 1
    at_most_one true = omega arith
    at_most_one false = omega arith
id_of_label X r false = omega arith

length-hall_ids : (X : Problem) (rows : List ℕ) → length (hall_ids X rows) ≤ count_by (is_counted X) rows
length-hall_ids X [] = omega arith
length-hall_ids X (r ∷ rows) =
    let rest = length-hall_ids X rows in
    let here = id_of_label X r (is_counted X r) in
    omega (arith, rest, here, length-cons_option (labelled_id X r) (hall_ids X rows), sum_by-cons (λ s. one (is_counted X s)) r rows)

counted-le : (X : Problem) (rows : List ℕ) → AllPairs ◌≢◌ rows → count_by (is_counted X) rows ≤ length X.rows
counted-le X rows apart =
    let kept = filter (is_counted X) rows in
    let le = length-le-count_below (λ _. true) (length X.rows) kept (AllPairs-filter ◌≢◌ (is_counted X) rows apart)
    (λ q e.
    let any = Any-from_list_any (eqb q) kept e in
    let is : q ≡ any.1 = (Decides-eqb q any.1).0 any.4 in
    let passes = filter_passes (is_counted X) rows any.0 any.1 any.2 in
    (subst (λ k. k < length X.rows) (sym (is ∙ sym any.3)) (row-from_counted X X.place (get_or kept any.0 any.1) passes), refl)) in
    let ones = ones_below (length X.rows) in
    omega (arith, le, ones, length-filter (is_counted X) rows)

-- so far there are no more ids than rows
pub few_ids : (X : Problem) (rows : List ℕ) (i : ℕ) → AllPairs ◌≢◌ rows → length (hall_ids X (take i rows)) ≤ length X.rows
few_ids X rows i apart =
    omega (arith, length-hall_ids X (take i rows), sum_by-take-le (λ r. one (is_counted X r)) rows i, counted-le X rows apart)

-- one row more
pub hall_ids_more : (X : Problem) (rows : List ℕ) (i d : ℕ) → i < length rows → hall_ids X (take (i + 1) rows) ≡ hall_ids X (take i rows) ++ cons_option (labelled_id X (get_or rows i d)) []
hall_ids_more X rows i d h =
    ap (hall_ids X) (take_more rows i d h)
    ∙ filter_map-append (labelled_id X) (take i rows) (get_or rows i d ∷ [])

pub length_more : (X : Problem) (rows : List ℕ) (i d : ℕ) → i < length rows → length (hall_ids X (take (i + 1) rows)) ≡ length (hall_ids X (take i rows)) + one (is_some (labelled_id X (get_or rows i d)))
length_more X rows i d h =
    let more = ap length (hall_ids_more X rows i d h) in
    let both = length-append (hall_ids X (take i rows)) (cons_option (labelled_id X (get_or rows i d)) []) in
    omega (arith, more, both, length-cons_option (labelled_id X (get_or rows i d)) [])

-- ---- instances with the same rows, columns and place rule

abbrev id_by : List Row → Place → ℕ → Option ℕ
id_by rows place r =
    option_and_then (λ k. option_map (λ row. row.id) (slice_get rows k))
    (cond (is_counted_by place (option_map_or (λ row. row.active) (slice_get rows r) false) (nat_lt r (length rows))) (Some r) None)

pub same_ids : (X Y : Problem) (rows : List ℕ) → Y.rows ≡ X.rows → Y.place ≡ X.place → hall_ids Y rows ≡ hall_ids X rows
same_ids X Y rows e f = ap (λ xs. filter_map (id_by xs Y.place) rows) e ∙ ap (λ place. filter_map (id_by X.rows place) rows) f

pub same_side : (X Y : Problem) → Y.rows ≡ X.rows → Y.columns ≡ X.columns → Y.place ≡ X.place → square_side Y ≡ square_side X
same_side X Y e f g =
    ap (λ xs. side_by Y.place (length xs) (total_capacity Y)) e
    ∙ ap (λ xs. side_by Y.place (length X.rows) (sum_by (λ column. column.cap) xs)) f
    ∙ ap (λ place. side_by place (length X.rows) (total_capacity X)) g

range_by : (X Y : Problem) (place : Place) → length Y.rows ≡ length X.rows → total_capacity Y ≡ total_capacity X → IsPlaceInRange X place → IsPlaceInRange Y place
range_by X Y PlaceAll e f h = h
range_by X Y (Exactly k) e f h = (h.0, omega (arith, e, h.1), omega (arith, f, h.2))

pub same_range : (X Y : Problem) → Y.rows ≡ X.rows → Y.columns ≡ X.columns → Y.place ≡ X.place → IsPlaceInRange X X.place → IsPlaceInRange Y Y.place
same_range X Y e f g h =
    range_by X Y Y.place (ap length e) (ap (λ xs. sum_by (λ column. column.cap) xs) f) (subst (IsPlaceInRange X) (sym g) h)

-- the label that was read
pub label_read : (X : Problem) (labels : List (Option ℕ)) (side r : ℕ) (o : Option ℕ) → labels ≡ map (row_label X) (range_with_len 0 side) → r < side → slice_get labels r ≡ Some o → row_label X r ≡ o
label_read X labels side r o are below read =
    sym (get_or-map-range_with_len (row_label X) 0 side r r None below (omega arith))
    ∙ ap (λ xs. get_or xs r None) (sym are)
    ∙ get_or_from_slice_get labels r o None read
