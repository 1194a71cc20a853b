-- What a row chooses, and the rows that a set of ids names.
use Rattle.asg_values.proofs.Common.{◌≡◌, ℕ, ◌<◌, ◌≤◌, Bool, true, false, cond, eqb, ◌≢◌, List, map, length, get_or, take, ◌==◌, Some, None, Option, AllPairs, unwrap_or, sym, refl, ap, ◌∙◌, ⊎_elim, arith, length-take, get_or-take, Decides-eqb, cases_lt, get_or-map, get_or_past, length-map, list_any, list_any_at, none-some, option_map_or, slice_get-get_or, is_counted, row_place_of, is_live_within, reaches, is_reached, is_counted_id, IsHall, Problem, count_below, Chooses, Band, length-le-count_below, no_row}
use Rattle.asg_values.specs.laws.Elements.{list_any-found}
use Rattle.asg_values.specs.laws.Options.{option_passes}
use Rattle.asg_values.specs.laws.RowIds.{id_at_place}

-- the number of a fact, 1 where it holds
abbrev pub one : Bool → ℕ
one b = cond b 1 0

-- ---- what a row chooses

-- what the row at place r chooses, nothing past the last row
abbrev pub chosen : List (Option ℕ) → ℕ → Option ℕ
chosen f r = get_or f r None

pub Chooses-from_chosen : (f : List (Option ℕ)) (r c : ℕ) → chosen f r ≡ Some c → Chooses f r c
Chooses-from_chosen f r c e =
    ⊎_elim
    (λ (within : r < length f). slice_get-get_or f r None within ∙ ap Some e)
    (λ (past : length f ≤ r). absurd (none-some c (sym (get_or_past f r None past) ∙ e)))
    (cases_lt r (length f))

-- ---- the rows of the set

-- the id names the row at place r
abbrev pub names : Problem → ℕ → ℕ → Bool
names X r id = option_map_or (λ k. k == r) (row_place_of X id) false

-- the row at place r is one of the set
abbrev pub is_in : Problem → List ℕ → ℕ → Bool
is_in X ids r = list_any (names X r) ids

pub place_named : (X : Problem) (r id : ℕ) → names X r id ≡ true → row_place_of X id ≡ Some r
place_named X r id e =
    let found = option_passes (λ k. k == r) (row_place_of X id) e in
    found.1 ∙ ap Some ((Decides-eqb found.0 r).0 found.2)

-- the place of a row, by its id
abbrev place_of : Problem → ℕ → ℕ
place_of X id = unwrap_or (row_place_of X id) 0

-- an id that names a counted row names the row at its place
counted_place : (X : Problem) (id : ℕ) → is_counted_id X id ≡ true → (row_place_of X id ≡ Some (place_of X id)) × (is_counted X (place_of X id) ≡ true)
counted_place X id e =
    let found = option_passes (is_counted X) (row_place_of X id) e in
    let at : place_of X id ≡ found.0 = ap (λ o. unwrap_or o 0) found.1 in
    (found.1 ∙ ap Some (sym at), ap (is_counted X) at ∙ found.2)

-- different ids name rows at different places
places_differ : (X : Problem) (x y : ℕ) → is_counted_id X x ≡ true → is_counted_id X y ≡ true → x ≢ y → place_of X x ≢ place_of X y
places_differ X x y cx cy apart same =
    let at_x = (id_at_place X x (place_of X x) (counted_place X x cx).0).1 in
    let at_y = (id_at_place X y (place_of X y) (counted_place X y cy).0).1 in
    apart (sym at_x ∙ ap (λ r. (get_or X.rows r no_row).id) same ∙ at_y)

module _ (X : Problem) (band : Band) (ids : List ℕ) (hall : IsHall X band ids) where
  place_at : (k d : ℕ) → k < length ids → get_or (map (place_of X) ids) k d ≡ place_of X (get_or ids k 0)
  place_at k d within = get_or-map (place_of X) ids k 0 d within

  set_places_differ : AllPairs ◌≢◌ (map (place_of X) ids)
  set_places_differ i j d before within =
      let inside : j < length ids = omega (arith, within, length-map ids (place_of X)) in
      let outside : i < length ids = omega arith in
      rw (place_at i d outside, place_at j d inside)
      (places_differ X (get_or ids i 0) (get_or ids j 0) (hall.counted i 0 outside) (hall.counted j 0 inside) (hall.different i j 0 before inside))

  -- each place of the set is that of a row which is in the set
  set_places_within : (q : ℕ) → list_any (eqb q) (map (place_of X) ids) ≡ true → (q < length X.rows) × (is_in X ids q ≡ true)
  set_places_within q e =
      let found = list_any-found (eqb q) (map (place_of X) ids) e in
      let inside : found.0 < length ids = omega (arith, found.1, length-map ids (place_of X)) in
      let id = get_or ids found.0 0 in
      let same : q ≡ place_of X id = (Decides-eqb q _).0 (found.2 0) ∙ place_at found.0 0 inside in
      let counted = counted_place X id (hall.counted found.0 0 inside) in
      let at : row_place_of X id ≡ Some q = counted.0 ∙ ap Some (sym same) in
      let named : names X q id ≡ true = ap (λ o. option_map_or (λ k. k == q) o false) at ∙ (Decides-eqb q q).1 refl in
      ((id_at_place X id q at).0, list_any_at (names X q) ids found.0 0 inside named)

  pub set-le : length ids ≤ count_below (is_in X ids) (length X.rows)
  set-le =
      let le = length-le-count_below (is_in X ids) (length X.rows) (map (place_of X) ids) set_places_differ set_places_within in
      omega (arith, le, length-map ids (place_of X))

  -- a row that is in the set is counted
  pub counted-from_in : (r : ℕ) → is_in X ids r ≡ true → is_counted X r ≡ true
  counted-from_in r e =
      let found = list_any-found (names X r) ids e in
      let id = get_or ids found.0 0 in
      let at = place_named X r id (found.2 0) in
      let same : place_of X id ≡ r = ap (λ o. unwrap_or o 0) at in
      ap (is_counted X) (sym same) ∙ (counted_place X id (hall.counted found.0 0 found.1)).1

  -- a row that is in the set reaches the column of its live cell of the band
  pub reached-from_in : (r c : ℕ) → is_in X ids r ≡ true → is_live_within X band r c ≡ true → is_reached X band ids c ≡ true
  reached-from_in r c e live =
      let found = list_any-found (names X r) ids e in
      let id = get_or ids found.0 0 in
      let at = place_named X r id (found.2 0) in
      let reach : reaches X band c id ≡ true = ap (λ o. option_map_or (λ k. is_live_within X band k c) o false) at ∙ live in
      list_any_at (reaches X band c) ids found.0 0 found.1 reach

-- ---- ids that are read one after another

-- an id that names the row at place r stands twice where an earlier one names it too
pub named_twice : (X : Problem) (ids : List ℕ) (i r : ℕ) → i < length ids → row_place_of X (get_or ids i 0) ≡ Some r → list_any (names X r) (take i ids) ≡ true → AllPairs ◌≢◌ ids → ⊥
named_twice X ids i r within place seen differ =
    let found = list_any-found (names X r) (take i ids) seen in
    let k = found.0 in
    let before : k < i = omega (arith, found.1, length-take i ids) in
    let earlier : row_place_of X (get_or ids k 0) ≡ Some r = place_named X r (get_or ids k 0) (ap (names X r) (sym (get_or-take i ids k 0 before)) ∙ found.2 0) in
    differ k i 0 before within (sym (id_at_place X (get_or ids k 0) r earlier).1 ∙ (id_at_place X (get_or ids i 0) r place).1)

-- an earlier id that is the same names the same row
pub named_before : (X : Problem) (ids : List ℕ) (i j r : ℕ) → j < i → i < length ids → row_place_of X (get_or ids i 0) ≡ Some r → get_or ids j 0 ≡ get_or ids i 0 → list_any (names X r) (take i ids) ≡ true
named_before X ids i j r before within place same =
    list_any_at (names X r) (take i ids) j 0 (omega (arith, before, within, length-take i ids))
    (ap (names X r) (get_or-take i ids j 0 before ∙ same) ∙ ap (λ o. option_map_or (λ k. k == r) o false) place ∙ (Decides-eqb r r).1 refl)
