-- The costs of live cells as a list, and the first of them that no window holds.
use Rattle.asg_check.proofs.Common.{◌≡◌, ℕ, zero, suc, ◌+◌, ◌<◌, ◌≤◌, Bool, true, false, cond, ◌&&◌, ◌||◌, List, [], ◌∷◌, ◌++◌, map, length, get_or, take, ℤ, pos, ◌+ℤ◌, ◌-ℤ◌, ◌≤ℤ◌, ◌<ℤ◌, IfSome, slice_get, int_le, Some, None, All, Option, option_map, IsPermutation, IsSorted, IsSortedByKey, option_to_list, flat_map, filter_map, int_cmp, is_lt, sym, refl, ap, ◌∙◌, subst, ⊎_elim, append_assoc, zero-add, arith, Bor, All-append, All-cons, All-contains, All-head, All-nil, All-permutation, All-tail, Contains-get_or, IsPermutation-sym, by_lt_z, cases_lt, cons_option, false≢true, flat_map_more, get_or-range_with_len, get_or_default, int_cmp_total, ints, length-range_with_len, list_any_at, list_any_none, map-append, none-some, option_map_or, range_with_len, ranks_by, same_Some, slice_get-get_or, slice_get_past, slice_get_within, sorted_far, take_more, AreCostsUp, AreSpansUp, IsFirstOutside, in_span, in_spans, live_part, live_parts, row_parts, span_of, IsLeastGap, Span, IsLiveCost, live_at, cost_at, is_active, is_open, Problem, Cost, less_is, holds_from, is_held, Window}
use Rattle.std.proofs.lemmas.Fn.{always_returns_same}
use Rattle.std.specs.Fn.{Mut, Called, ComputesKey}
use Rattle.asg_model.specs.laws.Listing.{range_with_len_more, filter_map-range_more}

-- ---- what holds of each cost of a list

module _ (P : ℤ → Type 0) where
  all_left : (xs ys : List ℤ) → All P (xs ++ ys) → All P xs
  all_left [] ys all = All-nil P
  all_left (x ∷ xs) ys all = All-cons P x xs (All-head P x (xs ++ ys) all) (all_left xs ys (All-tail P x (xs ++ ys) all))

  all_right : (xs ys : List ℤ) → All P (xs ++ ys) → All P ys
  all_right [] ys all = all
  all_right (x ∷ xs) ys all = all_right xs ys (All-tail P x (xs ++ ys) all)

  all_flat : (f : ℕ → List ℤ) → ((x : ℕ) → All P (f x)) → (xs : List ℕ) → All P (flat_map f xs)
  all_flat f each [] = All-nil P
  all_flat f each (x ∷ xs) = All-append P (f x) (flat_map f xs) (each x) (all_flat f each xs)

  one_flat : (f : ℕ → List ℤ) (xs : List ℕ) (k : ℕ) → k < length xs → All P (flat_map f xs) → All P (f (get_or xs k 0))
  one_flat f [] k within all = absurd (omega (arith, within))
  one_flat f (x ∷ xs) zero within all = all_left (f x) (flat_map f xs) all
  one_flat f (x ∷ xs) (suc k) within all = one_flat f xs k (omega (arith, within)) (all_right (f x) (flat_map f xs) all)

  with_option : (o : Option ℤ) (ys : List ℤ) → IfSome o P → All P ys → All P (cons_option o ys)
  with_option None ys holds all = all
  with_option (Some y) ys holds all = All-cons P y ys holds all

  all_given : (h : ℕ → Option ℤ) → ((x : ℕ) → IfSome (h x) P) → (xs : List ℕ) → All P (filter_map h xs)
  all_given h each [] = All-nil P
  all_given h each (x ∷ xs) = with_option (h x) (filter_map h xs) (each x) (all_given h each xs)

  first_given : (o : Option ℤ) (ys : List ℤ) (y : ℤ) → o ≡ Some y → All P (cons_option o ys) → P y
  first_given None ys y e all = absurd (none-some y e)
  first_given (Some z) ys y e all = subst P (same_Some z y e) (All-head P z ys all)

  rest_given : (o : Option ℤ) (ys : List ℤ) → All P (cons_option o ys) → All P ys
  rest_given None ys all = all
  rest_given (Some z) ys all = All-tail P z ys all

  one_given : (h : ℕ → Option ℤ) (xs : List ℕ) (k : ℕ) (y : ℤ) → k < length xs → h (get_or xs k 0) ≡ Some y → All P (filter_map h xs) → P y
  one_given h [] k y within e all = absurd (omega (arith, within))
  one_given h (x ∷ xs) zero y within e all = first_given (h x) (filter_map h xs) y e all
  one_given h (x ∷ xs) (suc k) y within e all = one_given h xs k y (omega (arith, within)) e (rest_given (h x) (filter_map h xs) all)

-- ---- the costs of live cells

module _ (X : Problem) where
  part_live : (r c : ℕ) (o : Option Cost) → live_at X r c ≡ o → IfSome (option_map (λ cost. cost.a) o) (IsLiveCost X)
  part_live r c None live = tt
  part_live r c (Some cost) live = record { row = r; column = c; cost = cost; live = live; is = refl }

  -- each cost of the list is one of a live cell
  pub parts_live : (rows : ℕ) → All (IsLiveCost X) (live_parts X rows)
  parts_live rows =
      all_flat (IsLiveCost X) (λ r. row_parts X r (length X.columns))
      (λ r. all_given (IsLiveCost X) (live_part X r) (λ c. part_live r c (live_at X r c) refl) (range_with_len 0 (length X.columns)))
      (range_with_len 0 rows)

  -- one more place of a row, and one more row
  pub row_more : (costs before : List ℤ) (r n : ℕ) (after : List ℤ) → before ≡ costs ++ row_parts X r n → after ≡ before ++ option_to_list (live_part X r n) → after ≡ costs ++ row_parts X r (n + 1)
  row_more costs before r n after so_far more =
      more ∙ ap (λ list. list ++ option_to_list (live_part X r n)) so_far ∙ append_assoc costs (row_parts X r n) (option_to_list (live_part X r n))
      ∙ ap (λ list. costs ++ list) (sym (filter_map-range_more (live_part X r) n))

  pub rows_more : (before : List ℤ) (n : ℕ) (after : List ℤ) → before ≡ live_parts X n → after ≡ before ++ row_parts X n (length X.columns) → after ≡ live_parts X (n + 1)
  rows_more before n after so_far more =
      let parts = λ (r : ℕ). row_parts X r (length X.columns) in
      more ∙ ap (λ list. list ++ parts n) so_far
      ∙ flat_map_more parts [] (range_with_len 0 n) n
      ∙ ap (flat_map parts) (sym (range_with_len_more n))

  left_true : (a b : Bool) (o : Option Cost) (cost : Cost) → cond (a && b) o None ≡ Some cost → (a ≡ true) × (b ≡ true)
  left_true true true o cost e = (refl, refl)
  left_true true false o cost e = absurd (none-some cost e)
  left_true false b o cost e = absurd (none-some cost e)

  there : {A : Type 0} (test : A → Bool) (xs : List A) (k : ℕ) (o : Option A) → slice_get xs k ≡ o → option_map_or test o false ≡ true → k < length xs
  there test xs k None at e = absurd (false≢true e)
  there test xs k (Some x) at e = slice_get_within xs k x at

  -- what holds of each cost of the list holds of that of a live cell
  pub part_holds : (P : ℤ → Type 0) → All P (live_parts X (length X.rows)) → (v : ℤ) → IsLiveCost X v → P v
  part_holds P all v one =
      let both = left_true (is_active X one.row) (is_open X one.column) (cost_at X.cells one.row one.column) one.cost one.live in
      let row : one.row < length X.rows = there (λ row. row.active) X.rows one.row (slice_get X.rows one.row) refl both.0 in
      let column : one.column < length X.columns = there (λ column. column.usable) X.columns one.column (slice_get X.columns one.column) refl both.1 in
      let rows = range_with_len 0 (length X.rows) in
      let columns = range_with_len 0 (length X.columns) in
      let at : get_or rows one.row 0 ≡ one.row = get_or-range_with_len 0 (length X.rows) one.row 0 row ∙ zero-add one.row in
      let below : get_or columns one.column 0 ≡ one.column = get_or-range_with_len 0 (length X.columns) one.column 0 column ∙ zero-add one.column in
      let parts = one_flat P (λ r. row_parts X r (length X.columns)) rows one.row (omega (arith, row, length-range_with_len 0 (length X.rows))) all in
      let these : All P (row_parts X one.row (length X.columns)) = subst (λ r. All P (row_parts X r (length X.columns))) at parts in
      let part : live_part X one.row (get_or columns one.column 0) ≡ Some v = ap (live_part X one.row) below ∙ ap (option_map (λ cost. cost.a)) one.live ∙ ap Some one.is in
      one_given P (live_part X one.row) columns one.column v (omega (arith, column, length-range_with_len 0 (length X.columns))) part these

-- ---- windows and their spans

-- one window more
pub spans_more : (d : ℤ) (windows : List Window) (before after : List Span) (n : ℕ) (window : Window) → n < length windows → before ≡ map (span_of d) (take n windows) → after ≡ before ++ span_of d (get_or windows n window) ∷ [] → after ≡ map (span_of d) (take (n + 1) windows)
spans_more d windows before after n window within so_far more =
    let last = get_or windows n window in
    more ∙ ap (λ list. list ++ span_of d last ∷ []) so_far
    ∙ sym (map-append (span_of d) (take n windows) (last ∷ []))
    ∙ ap (map (span_of d)) (sym (take_more windows n window within))

same_end : (v d hi : ℤ) → int_le v ((hi -ℤ d) +ℤ pos 1) ≡ int_le ((v +ℤ d) -ℤ pos 1) hi
same_end v d hi = grind (arith, ints)

spans_held : (d v : ℤ) (windows : List Window) → in_spans (map (span_of d) windows) v ≡ is_held windows d v
spans_held d v [] = refl
spans_held d v (window ∷ windows) =
    ap (λ b. (int_le window.lo v && b) || in_spans (map (span_of d) windows) v) (same_end v d window.hi)
    ∙ ap (λ b. holds_from d v window || b) (spans_held d v windows)

-- the first of the costs that no span of a window has is the least gap
pub IsLeastGap-from_outside : (X : Problem) (d : ℤ) (windows : List Window) (costs : List ℤ) (found : Option ℤ) → IsPermutation (live_parts X (length X.rows)) costs
    → IsFirstOutside costs (map (span_of d) windows) found → IsLeastGap X d windows found
IsLeastGap-from_outside X d windows costs found all_costs outside = by found outside
  where
    held : (v : ℤ) → in_spans (map (span_of d) windows) v ≡ is_held windows d v
    held v = spans_held d v windows

    back : (P : ℤ → Type 0) → All P costs → (v : ℤ) → IsLiveCost X v → P v
    back P all = part_holds X P (All-permutation P costs (live_parts X (length X.rows)) (IsPermutation-sym (live_parts X (length X.rows)) costs all_costs) all)

    by : (found : Option ℤ) → IsFirstOutside costs (map (span_of d) windows) found → IsLeastGap X d windows found
    by None all = λ v live. sym (held v) ∙ back (λ w. in_spans (map (span_of d) windows) w ≡ true) all v live
    by (Some v) (there, out, least) = (
      All-contains (IsLiveCost X) costs v (All-permutation (IsLiveCost X) (live_parts X (length X.rows)) costs all_costs (parts_live X (length X.rows))) there,
      sym (held v) ∙ out,
      λ w live unheld. back (λ x. in_spans (map (span_of d) windows) x ≡ false → v ≤ℤ x) least w live (held w ∙ unheld),
    )

-- ---- sorted costs and sorted spans

not_less : (x y : ℤ) → is_lt (int_cmp y x) ≡ false → x ≤ℤ y
not_less x y e = by_lt_z y x (λ below. absurd (false≢true (sym e ∙ less_is y x below))) (λ above. above)

pub costs_up : (xs : List ℤ) → IsSorted int_cmp xs → AreCostsUp xs
costs_up xs sorted i j d less within =
    not_less (get_or xs i d) (get_or xs j d) (sorted_far (λ x y. is_lt (int_cmp x y)) (ranks_by int_cmp_total (λ (x : ℤ). x)) xs sorted i j d (omega (arith, less)) within)

spans_up : (xs : List Span) → IsSortedByKey (λ s. s.lo) int_cmp xs → AreSpansUp xs
spans_up xs sorted i j d less within =
    not_less (get_or xs i d).lo (get_or xs j d).lo (sorted_far (λ x y. is_lt (int_cmp x.lo y.lo)) (ranks_by int_cmp_total (λ (s : Span). s.lo)) xs sorted i j d (omega (arith, less)) within)

-- from what a sort by the least costs ensures, where each call gives that of the span
pub spans_up_by_key : {F : Type 0} {g : Mut F (Bor Span × Unit {0}) ℤ} {f : F} (xs : List Span) → ((key : Span → ℤ) → ComputesKey g key f → IsSortedByKey key int_cmp xs)
    → ((a : Bor Span × Unit {0}) (r : ℤ) (f' : F) → Called g f a r f' → (r ≡ a.0.now.lo) × (f' ≡ f)) → AreSpansUp xs
spans_up_by_key {g = g} {f = f} xs up h = spans_up xs (up (λ s. s.lo) (always_returns_same g (λ a r. r ≡ a.0.now.lo) f h))

-- ---- costs up to the end of a span

-- one cost more isn't above the end
pub none_above_more : (costs : List ℤ) (from at : ℕ) (last : ℤ) → at < length costs → get_or costs at (pos 0) ≤ℤ last → ((k : ℕ) (d : ℤ) → from ≤ k → k < at → get_or costs k d ≤ℤ last)
    → (k : ℕ) (d : ℤ) → from ≤ k → k < at + 1 → get_or costs k d ≤ℤ last
none_above_more costs from at last within here before k d low less =
    ⊎_elim (λ (early : k < at). before k d low early)
    (λ (late : at ≤ k).
    let same : at ≡ k = omega (arith, late, less) in
    subst (λ n. get_or costs n d ≤ℤ last) same (subst (λ v. v ≤ℤ last) (get_or_default costs at (pos 0) d within) here))
    (cases_lt k at)

-- ---- one pass over sorted costs and sorted spans

-- the costs before the place are those of spans, and the first so many spans end before the cost
-- there
pub record IsPassed (costs : List ℤ) (spans : List Span) (place count : ℕ) : Type 0 where
  pub within : place ≤ length costs
  pub had : (k : ℕ) (d : ℤ) → k < place → in_spans spans (get_or costs k d) ≡ true
  pub ended : (j : ℕ) (s : Span) (d : ℤ) → j < count → place < length costs → (get_or spans j s).last <ℤ get_or costs place d

has_cost : (lo last v : ℤ) → lo ≤ℤ v → v ≤ℤ last → (int_le lo v && int_le v last) ≡ true
has_cost lo last v from up_to = grind (arith, ints)

begins_above : (lo last v : ℤ) → v <ℤ lo → (int_le lo v && int_le v last) ≡ false
begins_above lo last v below = grind (arith, ints)

ends_below : (lo last v : ℤ) → last <ℤ v → (int_le lo v && int_le v last) ≡ false
ends_below lo last v below = grind (arith, ints)

pub int_le_trans : (x y z : ℤ) → x ≤ℤ y → y ≤ℤ z → x ≤ℤ z
int_le_trans x y z a b = omega (arith, ints, a, b)

lt-le : (x y z : ℤ) → x <ℤ y → y ≤ℤ z → x <ℤ z
lt-le x y z a b = omega (arith, ints, a, b)

le-refl : (x : ℤ) → x ≤ℤ x
le-refl x = omega (arith, ints)

pub le-not : (x y : ℤ) → (x <ℤ y → ⊥) → y ≤ℤ x
le-not x y not = by_lt_z x y (λ below. absurd (not below)) (λ above. above)

module _ (costs : List ℤ) (spans : List Span) (up : AreCostsUp costs) (spans_up : AreSpansUp spans) where
  no_later : (i j : ℕ) (d : ℤ) → i ≤ j → j < length costs → get_or costs i d ≤ℤ get_or costs j d
  no_later i j d le within =
      ⊎_elim (λ (less : i < j). up i j d less within)
      (λ (more : j ≤ i). let same : i ≡ j = omega (arith, le, more) in subst (λ k. get_or costs i d ≤ℤ get_or costs k d) same (le-refl (get_or costs i d)))
      (cases_lt i j)

  no_earlier : (i j : ℕ) (s : Span) → i ≤ j → j < length spans → (get_or spans i s).lo ≤ℤ (get_or spans j s).lo
  no_earlier i j s le within =
      ⊎_elim (λ (less : i < j). spans_up i j s less within)
      (λ (more : j ≤ i). let same : i ≡ j = omega (arith, le, more) in subst (λ k. (get_or spans i s).lo ≤ℤ (get_or spans k s).lo) same (le-refl (get_or spans i s).lo))
      (cases_lt i j)

  -- one span more
  pub passed_more : (place count next : ℕ) (span : Span) → IsPassed costs spans place count → count < length spans → get_or spans count span ≡ span
      → ((d : ℤ) → place < length costs → get_or costs place d <ℤ span.lo → ⊥)
      → place ≤ next → next ≤ length costs → ((k : ℕ) (d : ℤ) → place ≤ k → k < next → get_or costs k d ≤ℤ span.last)
      → ((d : ℤ) → next < length costs → span.last <ℤ get_or costs next d) → IsPassed costs spans next (count + 1)
  passed_more place count next span passed below is begun from within before after = record { within = within; had = had; ended = ended }
    where
      had : (k : ℕ) (d : ℤ) → k < next → in_spans spans (get_or costs k d) ≡ true
      had k d less =
          ⊎_elim (λ (early : k < place). passed.had k d early)
          (λ (late : place ≤ k).
          let low : span.lo ≤ℤ get_or costs place d = le-not (get_or costs place d) span.lo (begun d (omega (arith, late, less, within))) in
          let all = int_le_trans span.lo (get_or costs place d) (get_or costs k d) low (no_later place k d late (omega (arith, less, within))) in
          list_any_at (in_span (get_or costs k d)) spans count span below
          (subst (λ s. in_span (get_or costs k d) s ≡ true) (sym is) (has_cost span.lo span.last (get_or costs k d) all (before k d late less))))
          (cases_lt k place)

      ended : (j : ℕ) (s : Span) (d : ℤ) → j < count + 1 → next < length costs → (get_or spans j s).last <ℤ get_or costs next d
      ended j s d less there =
          ⊎_elim (λ (early : j < count). lt-le (get_or spans j s).last (get_or costs place d) (get_or costs next d) (passed.ended j s d early (omega (arith, from, there))) (no_later place next d from there))
          (λ (late : count ≤ j).
          let same : count ≡ j = omega (arith, late, less) in
          let this : get_or spans j s ≡ span = ap (λ k. get_or spans k s) (sym same) ∙ get_or_default spans count s span below ∙ is in
          subst (λ t. t.last <ℤ get_or costs next d) (sym this) (after d there))
          (cases_lt j count)

  -- the first of the costs that no span has
  first_open : (place count : ℕ) (d : ℤ) → IsPassed costs spans place count → place < length costs
      → ((j : ℕ) (s : Span) → count ≤ j → j < length spans → get_or costs place d <ℤ (get_or spans j s).lo) → IsFirstOutside costs spans (Some (get_or costs place d))
  first_open place count d passed there later =
      let v : ℤ = get_or costs place d in (
        Contains-get_or costs place d there,
        list_any_none (in_span v) spans (λ j s within.
            ⊎_elim (λ (early : j < count). ends_below (get_or spans j s).lo (get_or spans j s).last v (passed.ended j s d early there))
            (λ (late : count ≤ j). begins_above (get_or spans j s).lo (get_or spans j s).last v (later j s late within))
            (cases_lt j count)),
        (λ k e within unheld.
            ⊎_elim (λ (early : k < place). absurd (false≢true (sym unheld ∙ passed.had k e early)))
            (λ (late : place ≤ k). subst (λ w. w ≤ℤ get_or costs k e) (get_or_default costs place e d there) (no_later place k e late within))
            (cases_lt k place)),
      )

  pub gap_found : (place count : ℕ) (d : ℤ) (span : Span) → IsPassed costs spans place count → count < length spans → get_or spans count span ≡ span → place < length costs → get_or costs place d <ℤ span.lo
      → IsFirstOutside costs spans (Some (get_or costs place d))
  gap_found place count d span passed below is there unheld =
      first_open place count d passed there (λ j s late within.
      let this : get_or spans count s ≡ span = get_or_default spans count s span below ∙ is in
      lt-le (get_or costs place d) (get_or spans count s).lo (get_or spans j s).lo (subst (λ t. get_or costs place d <ℤ t.lo) (sym this) unheld) (no_earlier count j s late within))

  pub at_end : (place count : ℕ) → IsPassed costs spans place count → length spans ≤ count → IsFirstOutside costs spans (slice_get costs place)
  at_end place count passed all =
      ⊎_elim
      (λ (there : place < length costs).
      subst (IsFirstOutside costs spans) (sym (slice_get-get_or costs place (pos 0) there)) (first_open place count (pos 0) passed there (λ j s late within. absurd (omega (arith, late, within, all)))))
      (λ (past : length costs ≤ place).
      subst (IsFirstOutside costs spans) (sym (slice_get_past costs place past)) (λ k d within. passed.had k d (omega (arith, within, past))))
      (cases_lt place (length costs))
