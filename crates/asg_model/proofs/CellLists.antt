-- Lists of cells in order: the cells of a row, and one more cell at the end.
use Rattle.asg_model.proofs.Common.{◌≡◌, ℕ, ◌+◌, ◌-◌, ◌<◌, ◌≤◌, true, false, cond, ◌&&◌, ◌≢◌, List, [], ◌∷◌, ◌++◌, length, get_or, take, drop, Some, None, All, nat_cmp, Less, Equal, Greater, sym, refl, ap, ◌∙◌, subst, ⊎_elim, arith, ltb, All-head, All-tail, cases_lt, cases_order, get_or-drop, get_or-map, get_or-take, insert_entry, keys_of, length-drop, length-map, length-take, match_ordering, nat_cmp_is, ordering_then, by_places, cost_at, Cost, AllByRecursion, All-cons, All-nil, All-weaker, IsCostInRange, IsInstance, Option, Problem, cases_eq, cond-true, eq-eqb, eqb-true, and_parts, cases_Bool, cond-false, get_or_default, ◌==◌}
use Rattle.std.proofs.Common.{ltb-true, ltb-false, ne_eqb}
use Rattle.std.proofs.lemmas.List.{take-append-drop, take_all, drop_more}
use Rattle.std.proofs.lemmas.Map.Keys.{Less-from_sorted}
use Rattle.std.specs.List.Sorted.{IsNonDecreasingBy, IsPartitionPoint, IsStrictlySortedBy}
use Rattle.std.proofs.lemmas.List.Elements.{All-drop, All-take}
use Rattle.asg_model.specs.CellLists.{AreRowCells, IsRowOf}

abbrev pub Cells : Type 0
Cells = List ((ℕ × ℕ) × Cost)

-- a place is in no earlier row than one before it
less_row : (x y : ℕ × ℕ) → by_places x y ≡ Less → x.0 ≤ y.0
less_row x y less =
    ⊎_elim
    (λ same. omega (arith, same))
    (⊎_elim
    (λ before. omega (arith, before))
    (λ past. let e : Greater ≡ Less = ap (λ o. ordering_then o (nat_cmp x.1 y.1)) (nat_cmp_is x.0 y.0 Greater past) ∙ less in cc))
    (cases_order x.0 y.0)

-- the other way about
flipped : (x y : ℕ × ℕ) → by_places x y ≡ Less → by_places y x ≡ Greater
flipped x y less =
    ⊎_elim
    (λ same.
    ⊎_elim
    (λ tied. let e : Equal ≡ Less = (λ i. ordering_then (nat_cmp_is x.0 y.0 Equal same i) (nat_cmp_is x.1 y.1 Equal tied i)) ∙ less in cc)
    (⊎_elim
    (λ before. sym (λ i. ordering_then (nat_cmp_is y.0 x.0 Equal (sym same) i) (nat_cmp_is y.1 x.1 Greater before i)))
    (λ past. let e : Greater ≡ Less = (λ i. ordering_then (nat_cmp_is x.0 y.0 Equal same i) (nat_cmp_is x.1 y.1 Greater past i)) ∙ less in cc))
    (cases_order x.1 y.1))
    (⊎_elim
    (λ before. ap (λ o. ordering_then o (nat_cmp y.1 x.1)) (sym (nat_cmp_is y.0 x.0 Greater before)))
    (λ past. let e : Greater ≡ Less = ap (λ o. ordering_then o (nat_cmp x.1 y.1)) (nat_cmp_is x.0 y.0 Greater past) ∙ less in cc))
    (cases_order x.0 y.0)

-- cells in order
module _ (cells : Cells) (sorted : IsStrictlySortedBy by_places (keys_of cells)) where
  in_order : (i j : ℕ) (d : (ℕ × ℕ) × Cost) → i < j → j < length cells → by_places (get_or cells i d).0 (get_or cells j d).0 ≡ Less
  in_order i j d before within =
      (λ t. by_places (sym (get_or-map (λ e. e.0) cells i d d.0 (omega (arith, before, within))) t) (sym (get_or-map (λ e. e.0) cells j d d.0 within) t))
      ∙ Less-from_sorted by_places (keys_of cells) i j d.0 sorted before (omega (arith, length-map cells (λ e. e.0), within))

  pub rows_rise : IsNonDecreasingBy (λ cell. cell.0.0) cells
  rows_rise i j d upto within =
      ⊎_elim
      (λ before. less_row (get_or cells i d).0 (get_or cells j d).0 (in_order i j d before within))
      (λ same. let e : i ≡ j = omega (arith, upto, same) in subst (λ k. (get_or cells i d).0.0 ≤ (get_or cells k d).0.0) e (omega arith))
      (cases_lt i j)

-- cells of other rows are passed over
cost_at-past : (front rest : Cells) (r c : ℕ) → All (λ cell. cell.0.0 ≢ r) front → cost_at (front ++ rest) r c ≡ cost_at rest r c
cost_at-past [] rest r c others = refl
cost_at-past (e ∷ es) rest r c others =
    rw (ne_eqb e.0.0 r (All-head (λ (cell : (ℕ × ℕ) × Cost). cell.0.0 ≢ r) e es others))
    (cost_at-past es rest r c (All-tail (λ (cell : (ℕ × ℕ) × Cost). cell.0.0 ≢ r) e es others))

cost_at-none : (cells : Cells) (r c : ℕ) → All (λ cell. cell.0.0 ≢ r) cells → cost_at cells r c ≡ None
cost_at-none [] r c others = refl
cost_at-none (e ∷ es) r c others =
    rw (ne_eqb e.0.0 r (All-head (λ (cell : (ℕ × ℕ) × Cost). cell.0.0 ≢ r) e es others))
    (cost_at-none es r c (All-tail (λ (cell : (ℕ × ℕ) × Cost). cell.0.0 ≢ r) e es others))

cost_at-front : (front back : Cells) (r c : ℕ) → All (λ cell. cell.0.0 ≢ r) back → cost_at (front ++ back) r c ≡ cost_at front r c
cost_at-front [] back r c others = cost_at-none back r c others
cost_at-front (e ∷ es) back r c others =
    ap (λ o. cond ((e.0.0 == r) && (e.0.1 == c)) (Some e.1) o) (cost_at-front es back r c others)

pub rise_from : (cells : Cells) (first : ℕ) → IsNonDecreasingBy (λ cell. cell.0.0) cells → IsNonDecreasingBy (λ cell. cell.0.0) (drop first cells)
rise_from cells first rise i j d upto within =
    let there : first + j < length cells = omega (arith, length-drop first cells, within) in
    let low = ap (λ (cell : (ℕ × ℕ) × Cost). cell.0.0) (get_or-drop first cells i d) in
    let high = ap (λ (cell : (ℕ × ℕ) × Cost). cell.0.0) (get_or-drop first cells j d) in
    omega (arith, low, high, rise (first + i) (first + j) d (omega (arith, upto)) there)

-- the part of a list behind the cells before a row and before those past it
pub row_part : (cells : Cells) (r first count : ℕ) → count ≤ length (drop first cells)
    → IsPartitionPoint (λ cell. ltb cell.0.0 r ≡ true) (λ cell. ltb cell.0.0 r ≡ false) cells first
    → IsPartitionPoint (λ cell. ltb cell.0.0 (r + 1) ≡ true) (λ cell. ltb cell.0.0 (r + 1) ≡ false) (drop first cells) count
    → IsRowOf cells r (take count (drop first cells))
row_part cells r first count within before upto = record {
  first = first;
  count = count;
  part = refl;
  of_row = λ k d below.
      let inside : k < count = omega (arith, length-take count (drop first cells), below) in
      let there : first + k < length cells = omega (arith, length-drop first cells, within, inside) in
      let here : get_or (take count (drop first cells)) k d ≡ get_or (drop first cells) k d = get_or-take count (drop first cells) k d inside in
      let low = ltb-false (get_or cells (first + k) d).0.0 r (before.1 (first + k) d (omega arith) there) in
      let high = ltb-true (get_or (drop first cells) k d).0.0 (r + 1) (upto.0 k d (omega arith) inside) in
      let same = ap (λ (cell : (ℕ × ℕ) × Cost). cell.0.0) (get_or-drop first cells k d) in
      ap (λ (cell : (ℕ × ℕ) × Cost). cell.0.0) here ∙ omega (arith, low, high, same);
  costs = λ c.
      let rest = drop first cells in
      ap (λ list. cost_at list r c) (sym (take-append-drop first cells))
      ∙ cost_at-past (take first cells) rest r c
      (λ k d below.
      let inside : k < first = omega (arith, length-take first cells, below) in
      let low = ltb-true (get_or cells k d).0.0 r (before.0 k d (omega arith) inside) in
      λ is. omega (arith, low, ap (λ (cell : (ℕ × ℕ) × Cost). cell.0.0) (get_or-take first cells k d inside), is))
      ∙ ap (λ list. cost_at list r c) (sym (take-append-drop count rest))
      ∙ cost_at-front (take count rest) (drop count rest) r c
      (λ k d below.
      let there : count + k < length rest = omega (arith, length-drop count rest, below, within) in
      let high = ltb-false (get_or rest (count + k) d).0.0 (r + 1) (upto.1 (count + k) d (omega arith) there) in
      λ is. omega (arith, high, ap (λ (cell : (ℕ × ℕ) × Cost). cell.0.0) (get_or-drop count rest k d), is));
}

-- one more cell that comes last
insert_last : (front : Cells) (place : ℕ × ℕ) (cost : Cost) → All (λ cell. by_places place cell.0 ≡ Greater) front → insert_entry by_places front place cost ≡ front ++ (place, cost) ∷ []
insert_last [] place cost past = refl
insert_last (e ∷ es) place cost past =
    ap (λ o. match_ordering o ((place, cost) ∷ e ∷ es) ((e.0, cost) ∷ es) (e ∷ insert_entry by_places es place cost)) (All-head (λ (cell : (ℕ × ℕ) × Cost). by_places place cell.0 ≡ Greater) e es past)
    ∙ ap (λ list. e ∷ list) (insert_last es place cost (All-tail (λ (cell : (ℕ × ℕ) × Cost). by_places place cell.0 ≡ Greater) e es past))

-- the first cells of a list in order, with the next one inserted
pub insert_next : (cells : Cells) (i : ℕ) (d : (ℕ × ℕ) × Cost) → IsStrictlySortedBy by_places (keys_of cells) → i < length cells → insert_entry by_places (take i cells) (get_or cells i d).0 (get_or cells i d).1 ≡ take i cells ++ get_or cells i d ∷ []
insert_next cells i d sorted within =
    insert_last (take i cells) (get_or cells i d).0 (get_or cells i d).1
    (λ k e below.
    let before : k < i = omega (arith, length-take i cells, below) in
    let inside : k < length cells = omega (arith, before, within) in
    (λ t. by_places (get_or cells i d).0 ((get_or-take i cells k e before ∙ get_or_default cells k e d inside) t).0)
    ∙ flipped (get_or cells k d).0 (get_or cells i d).0 (in_order cells sorted k i d before within))

-- each cell of a list in order is the one that its place finds
others_later : (e : (ℕ × ℕ) × Cost) (es : Cells) (P : (ℕ × ℕ) × Cost → Type 0) → AllByRecursion (λ key. by_places e.0 key ≡ Less) (keys_of es) → All P es → All (λ cell. (by_places e.0 cell.0 ≡ Less) × P cell) es
others_later e [] P later all = All-nil (λ cell. (by_places e.0 cell.0 ≡ Less) × P cell)
others_later e (x ∷ es) P later all =
    All-cons (λ cell. (by_places e.0 cell.0 ≡ Less) × P cell) x es (later.0, All-head P x es all) (others_later e es P later.1 (All-tail P x es all))

passed : (e cell : (ℕ × ℕ) × Cost) (es : Cells) → by_places e.0 cell.0 ≡ Less → cost_at (e ∷ es) cell.0.0 cell.0.1 ≡ cost_at es cell.0.0 cell.0.1
passed e cell es less =
    ⊎_elim
    (λ yes.
    let parts = and_parts (e.0.0 == cell.0.0) (e.0.1 == cell.0.1) yes in
    let same : Equal ≡ Less = (λ i. ordering_then (nat_cmp_is e.0.0 cell.0.0 Equal (eqb-true e.0.0 cell.0.0 parts.0) i) (nat_cmp_is e.0.1 cell.0.1 Equal (eqb-true e.0.1 cell.0.1 parts.1) i)) ∙ less in
    cc)
    (λ no. cond-false ((e.0.0 == cell.0.0) && (e.0.1 == cell.0.1)) (Some e.1) (cost_at es cell.0.0 cell.0.1) no)
    (cases_Bool ((e.0.0 == cell.0.0) && (e.0.1 == cell.0.1)))

pub each_found : (cells : Cells) → IsStrictlySortedBy by_places (keys_of cells) → All (λ cell. cost_at cells cell.0.0 cell.0.1 ≡ Some cell.1) cells
unfolding IsStrictlySortedBy
each_found [] sorted = All-nil (λ cell. cost_at [] cell.0.0 cell.0.1 ≡ Some cell.1)
each_found (e ∷ es) sorted =
    All-cons (λ cell. cost_at (e ∷ es) cell.0.0 cell.0.1 ≡ Some cell.1) e es
    (rw (eq-eqb e.0.0 e.0.0 refl, eq-eqb e.0.1 e.0.1 refl) refl)
    (All-weaker (λ cell. (by_places e.0 cell.0 ≡ Less) × (cost_at es cell.0.0 cell.0.1 ≡ Some cell.1)) (λ cell. cost_at (e ∷ es) cell.0.0 cell.0.1 ≡ Some cell.1)
    (λ cell h. passed e cell es h.0 ∙ h.1) es
    (others_later e es (λ cell. cost_at es cell.0.0 cell.0.1 ≡ Some cell.1) sorted.0 (each_found es sorted.1)))

-- all cells from one on
pub rest_of : (cells : Cells) (first : ℕ) → take (length cells - first) (drop first cells) ≡ drop first cells
rest_of cells first = take_all (length cells - first) (drop first cells) (omega (arith, length-drop first cells))

-- what stands first among the cells from one on
pub first_of_rest : (cells : Cells) (k : ℕ) (d : (ℕ × ℕ) × Cost) → k < length cells → drop k cells ≡ get_or cells k d ∷ drop (k + 1) cells
first_of_rest cells k d within = drop_more cells k d within

-- what holds of all cells of a list holds of those of a row
pub of_part : (P : (ℕ × ℕ) × Cost → Type 0) (cells row : Cells) (r : ℕ) → IsRowOf cells r row → All P cells → All P row
of_part P cells row r is all =
    subst (λ (list : Cells). All P list) (sym is.part) (All-take P is.count (drop is.first cells) (All-drop P is.first cells all))

-- the cells of a row of an instance
pub AreRowCells-row : (X : Problem) (r : ℕ) (row : Cells) → IsInstance X → r < length X.rows → IsRowOf X.cells r row → AreRowCells X r row
AreRowCells-row X r row instance there is =
    let found = of_part (λ cell. cost_at X.cells cell.0.0 cell.0.1 ≡ Some cell.1) X.cells row r is (each_found X.cells instance.cells_ascend) in
    record {
      there = there;
      of_row = is.of_row;
      within = of_part (λ cell. cell.0.1 < length X.columns) X.cells row r is (All-weaker (λ cell. (cell.0.0 < length X.rows) × (cell.0.1 < length X.columns)) (λ cell. cell.0.1 < length X.columns) (λ cell h. h.1) X.cells instance.well_formed.cells_within);
      in_range = of_part (λ cell. IsCostInRange cell.1) X.cells row r is instance.well_formed.costs;
      each = λ k d within. subst (λ i. cost_at X.cells i (get_or row k d).0.1 ≡ Some (get_or row k d).1) (is.of_row k d within) (found k d within);
      costs = is.costs;
    }

-- one more cell of a row that is read, the last first
pub read_one : (cells : Cells) (i r k : ℕ) (d : (ℕ × ℕ) × Cost) (old new : ℕ → Option Cost) → i < length cells → All (λ cell. cell.0.0 ≡ r) cells
    → new (get_or cells i d).0.1 ≡ Some (get_or cells i d).1 → ((c : ℕ) → c ≢ (get_or cells i d).0.1 → new c ≡ old c)
    → old k ≡ cost_at (drop (i + 1) cells) r k → new k ≡ cost_at (drop i cells) r k
read_one cells i r k d old new within of_row here others before =
    let cell = get_or cells i d in
    let front : cost_at (drop i cells) r k ≡ cond ((cell.0.0 == r) && (cell.0.1 == k)) (Some cell.1) (cost_at (drop (i + 1) cells) r k) = ap (λ list. cost_at list r k) (first_of_rest cells i d within) in
    ⊎_elim
    (λ (same : k ≡ cell.0.1).
    ap new same ∙ here
    ∙ sym (front ∙ cond-true ((cell.0.0 == r) && (cell.0.1 == k)) (Some cell.1) (cost_at (drop (i + 1) cells) r k) (rw (eq-eqb cell.0.0 r (of_row i d within), eq-eqb cell.0.1 k (sym same)) refl)))
    (λ (other : k ≡ cell.0.1 → ⊥).
    others k other ∙ before
    ∙ sym (front ∙ cond-false ((cell.0.0 == r) && (cell.0.1 == k)) (Some cell.1) (cost_at (drop (i + 1) cells) r k) (rw (eq-eqb cell.0.0 r (of_row i d within), ne_eqb cell.0.1 k (λ e. other (sym e))) refl)))
    (cases_eq k cell.0.1)
