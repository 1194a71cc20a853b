-- Rows by id as places, one after another, and the columns in which they have cells.
use Rattle.asg_kept_cells.proofs.Common.{◌≡◌, ℕ, ◌+◌, ◌<◌, Bool, true, false, cond, ◌||◌, ◌≢◌, List, [], ◌∷◌, ◌++◌, map, length, get_or, take, IsTrue, Some, None, All, Option, AllPairs, option_and_then, sym, refl, ap, ◌∙◌, subst, arith, length-take-le, get_or-take, All-nil, All-push, all_pairs_push, fun_ext, get_or_default, length-map, list_any, map-append, option_map_or, take_more, AreRowsOf, counted_place, is_counted, is_counted_id, row_place_of, Problem, square_side, count_below}
use Rattle.asg_square.specs.HallColumns.{OutnumberColumns, is_met, met_count}
use Rattle.asg_values.specs.laws.RowIds.{counted_row}

-- where no counted row has the id, it isn't that of one
pub uncounted_id : (X : Problem) (o : Option ℕ) → option_and_then (λ r. cond (is_counted X r) (Some r) None) o ≡ None → option_map_or (is_counted X) o false ≡ false
uncounted_id X None e = refl
uncounted_id X (Some r) e = by_count (is_counted X r) refl e
  where
    by_count : (b : Bool) → is_counted X r ≡ b → cond b (Some r) None ≡ None → is_counted X r ≡ false
    by_count true is e = absurd (cc e)
    by_count false is e = is

module _ (X : Problem) (ids : List ℕ) where
  pub rows_none : AreRowsOf X (take 0 ids) []
  rows_none = record {
    different = λ i j d less within. absurd (omega (arith, within));
    counted = All-nil (λ i. IsTrue (is_counted_id X i));
    places = refl;
    within = All-nil (λ r. r < length X.rows);
  }

  -- one id more
  pub rows_more : (place row : ℕ) (rows : List ℕ) → place < length ids → AreRowsOf X (take place ids) rows → ((k : ℕ) → k < place → get_or ids k 0 ≢ get_or ids place 0)
      → counted_place X (get_or ids place 0) ≡ Some row → row < length X.rows → AreRowsOf X (take (place + 1) ids) (rows ++ row ∷ [])
  rows_more place row rows within are fresh at there =
      let id = get_or ids place 0 in
      let more = take_more ids place 0 within in
      let is = counted_row X (row_place_of X id) row at in
      record {
        different = subst (AllPairs ◌≢◌) (sym more)
            (all_pairs_push ◌≢◌ (take place ids) id are.different
            (λ k d below e.
            let few : k < place = omega (arith, below, length-take-le place ids (omega (arith, within))) in
            fresh k few (get_or_same ids k d 0 (omega (arith, few, within)) ∙ sym (get_or-take place ids k d few) ∙ e)));
        counted = subst (All (λ i. IsTrue (is_counted_id X i))) (sym more)
            (All-push (λ i. IsTrue (is_counted_id X i)) (take place ids) id are.counted (ap (λ o. option_map_or (is_counted X) o false) is.0 ∙ is.1));
        places = ap (map (row_place_of X)) more
            ∙ map-append (row_place_of X) (take place ids) (id ∷ [])
            ∙ ap (λ xs. xs ++ row_place_of X id ∷ []) are.places
            ∙ ap (λ o. map Some rows ++ o ∷ []) is.0
            ∙ sym (map-append Some rows (row ∷ []));
        within = All-push (λ r. r < length X.rows) rows row are.within there;
      }
    where
      get_or_same : (xs : List ℕ) (k d e : ℕ) → k < length xs → get_or xs k e ≡ get_or xs k d
      get_or_same xs k d e below = get_or_default xs k e d below

-- the columns that rows meet, by id and by place
module _ (X : Problem) (has : ℕ → ℕ → Bool) (k : ℕ) where
  met_same : (ids rows : List ℕ) → map (row_place_of X) ids ≡ map Some rows → is_met X has ids k ≡ list_any (λ r. has r k) rows
  met_same [] [] e = refl
  met_same [] (r ∷ rows) e = absurd (cc e)
  met_same (id ∷ ids) [] e = absurd (cc e)
  met_same (id ∷ ids) (r ∷ rows) e =
      let first : row_place_of X id ≡ Some r = cc e in
      let rest : map (row_place_of X) ids ≡ map Some rows = cc e in
      ap (λ o. option_map_or (λ s. has s k) o false || is_met X has ids k) first
      ∙ ap (λ b. has r k || b) (met_same ids rows rest)

module _ (X : Problem) (has : ℕ → ℕ → Bool) (ids rows : List ℕ) (are : AreRowsOf X ids rows) where
  met_columns : count_below (λ k. list_any (λ r. has r k) rows) (square_side X) ≡ met_count X has ids
  met_columns = ap (λ p. count_below p (square_side X)) (fun_ext (λ k. sym (met_same X has k ids rows are.places)))

  rows_length : length rows ≡ length ids
  rows_length = sym (length-map rows Some) ∙ sym (ap (λ (os : List (Option ℕ)). length os) are.places) ∙ length-map ids (row_place_of X)

  -- the rows are more than the columns that they meet, or not
  pub outnumber_from : (met : ℕ) → met ≡ count_below (λ k. list_any (λ r. has r k) rows) (square_side X) → met < length rows → OutnumberColumns X has ids
  outnumber_from met is less = record { different = are.different; counted = are.counted; short = omega (arith, less, is, met_columns, rows_length) }

  pub outnumber_to : (met : ℕ) → met ≡ count_below (λ k. list_any (λ r. has r k) rows) (square_side X) → OutnumberColumns X has ids → met < length rows
  outnumber_to met is out = omega (arith, out.short, is, met_columns, rows_length)
