-- Rows and their columns: why short rows have no perfect assignment, and why a closed tree is
-- short.
use Rattle.std.proofs.Common.{◌≡◌, ◌≢◌, ◌↔◌, ℕ, ◌+◌, ◌-◌, ◌<◌, List, length, Option, None, is_some, map, drop, get_or, unwrap_or, ⊎_elim, sym, ◌∙◌, subst, ap, arith, AllPairs, Contains}
use Rattle.std.proofs.lemmas.List.{get_or-map, get_or-drop, get_or_default, length-map, length-drop}
use Rattle.std.proofs.lemmas.List.Elements.{All-contains, Contains-get_or}
use Rattle.std.proofs.lemmas.Bool.{cases_lt}
use Rattle.std.proofs.lemmas.Option.{none-some}
use Rattle.asg_match.specs.Matching.{column_at, Matches, IsMatched, IsMatching, IsPerfect}
use Rattle.asg_match.specs.Deficient.{IsColumnOf, IsDeficient}
use Rattle.asg_match.specs.Augmentation.{IsStuck}
use Rattle.asg_match.specs.Alternating.{IsTree, AllParentsAllowed, IsClosed}
use Rattle.asg_match.specs.laws.Matchings.{Matches-same, Some-from_test}
use Rattle.asg_match.specs.laws.Distinct.{length-le_from_within}

-- the column of a row that has one
abbrev pub column_of_row : List (Option ℕ) → ℕ → ℕ
column_of_row m r = unwrap_or (column_at m r) 0

column_of_row-is : (m : List (Option ℕ)) (r c : ℕ) → Matches m r c → column_of_row m r ≡ c
column_of_row-is m r c e = ap (λ o. unwrap_or o 0) e

Matches-column_of_row : (m : List (Option ℕ)) (r : ℕ) → IsMatched m r → Matches m r (column_of_row m r)
Matches-column_of_row m r h =
    let found = Some-from_test (column_at m r) h in
    subst (λ c. Matches m r c) (sym (column_of_row-is m r found.0 found.1)) found.1

-- an element of a mapped list comes from one of the list
Contains-map : (f : ℕ → ℕ) (xs : List ℕ) (x : ℕ) → Contains xs x → Contains (map f xs) (f x)
Contains-map f xs x has = (has.0, subst (λ n. has.0 < n) (sym (length-map xs f)) has.1, get_or-map f xs has.0 x (f x) has.1 ∙ ap f has.2)

Contains-map_cases : (f : ℕ → ℕ) (xs : List ℕ) (y : ℕ) → Contains (map f xs) y → (x : ℕ) × Contains xs x × (f x ≡ y)
Contains-map_cases f xs y has =
    let within : has.0 < length xs = subst (λ n. has.0 < n) (length-map xs f) has.1 in
    (get_or xs has.0 0, Contains-get_or xs has.0 0 within, sym (get_or-map f xs has.0 0 y within) ∙ has.2)

-- different rows have different columns
AllPairs-columns : (m : List (Option ℕ)) (rows : List ℕ) → IsMatching m → ((r : ℕ) → Contains rows r → IsMatched m r) → AllPairs ◌≢◌ rows → AllPairs ◌≢◌ (map (column_of_row m) rows)
AllPairs-columns m rows matching matched apart i j d before within e =
    let f = column_of_row m in
    let j_within : j < length rows = subst (λ n. j < n) (length-map rows f) within in
    let i_within : i < length rows = omega arith in
    let r = get_or rows i 0 in
    let s = get_or rows j 0 in
    let same : f r ≡ f s = sym (get_or-map f rows i 0 d i_within) ∙ (e ∙ get_or-map f rows j 0 d j_within) in
    let r_has = Matches-column_of_row m r (matched r (Contains-get_or rows i 0 i_within)) in
    let s_has = Matches-column_of_row m s (matched s (Contains-get_or rows j 0 j_within)) in
    apart i j 0 before j_within (matching.apart r s (f s) (subst (λ c. Matches m r c) same r_has) s_has)

-- a perfect assignment gives each of the rows a column of its own, so they aren't short
pub IsDeficient-refutes : (allows : ℕ → ℕ → Type 0) (side : ℕ) (rows : List ℕ) (m : List (Option ℕ)) → IsDeficient allows side rows → IsPerfect allows side m → ⊥
IsDeficient-refutes allows side rows m short perfect =
    let f = column_of_row m in
    let matched = λ (r : ℕ) (has : Contains rows r). perfect.all r (All-contains (λ x. x < side) rows r short.below has) in
    let within = λ (c : ℕ) (has : Contains (map f rows) c).
    let from = Contains-map_cases f rows c has in
    let there = subst (λ d. Matches m from.0 d) from.2 (Matches-column_of_row m from.0 (matched from.0 from.1)) in
    short.few.all c (from.0, from.1, perfect.cells from.0 c there) in
    let few = length-le_from_within (map f rows) short.few.columns (AllPairs-columns m rows perfect.columns matched short.apart) within in
    absurd (omega (arith, few, short.few.fewer, length-map rows f))

module _ (m : List (Option ℕ)) (rows : List ℕ) (parents : ℕ → Option ℕ) (allows : ℕ → ℕ → Type 0) (matching : IsMatching m) (tree : IsTree m rows parents) (cells : AllParentsAllowed allows rows parents) (closed : (k : ℕ) → k < length rows → IsClosed allows parents (get_or rows k 0)) where
  -- a row at a later place than the root's has a column
  matched_later : (k : ℕ) → 0 < k → k < length rows → IsMatched m (get_or rows k 0)
  matched_later k later within = ap (is_some {T = ℕ}) (tree.joined k later within).has

  -- a row that has a column stands at a later place
  later_matched : (k c : ℕ) → Matches m (get_or rows k 0) c → 0 < k
  later_matched k c has =
      ⊎_elim
      (λ later. later)
      (λ first.
      let at_root : 0 ≡ k = omega arith in
      absurd (none-some c (sym (subst (λ i. column_at m (get_or rows i 0) ≡ None) at_root tree.root_free) ∙ has)))
      (cases_lt 0 k)

  -- the element that `Contains` tells of, at any default
  row_at : (r : ℕ) → (has : Contains rows r) → get_or rows has.0 0 ≡ r
  row_at r has = get_or_default rows has.0 0 r has.1 ∙ has.2

  others_matched : (r : ℕ) → Contains rows r → r ≢ get_or rows 0 0 → IsMatched m r
  others_matched r has ne =
      ⊎_elim
      (λ later. subst (IsMatched m) (row_at r has) (matched_later has.0 later has.1))
      (λ first.
      let zero : has.0 ≡ 0 = omega arith in
      absurd (ne (sym (row_at r has) ∙ ap (λ i. get_or rows i 0) zero)))
      (cases_lt 0 has.0)

  allowed_has_row : (c : ℕ) → IsColumnOf allows rows c → IsColumnOf (Matches m) rows c
  allowed_has_row c w =
      let reached = closed w.1.0 w.1.1 c (subst (λ r. allows r c) (sym (row_at w.0 w.1)) w.2) in
      let from = Some-from_test (parents c) reached in
      let next = tree.followed c from.0 from.1 in
      (get_or rows next.place 0, Contains-get_or rows next.place 0 next.within, next.has)

  row_has_allowed : (c : ℕ) → IsColumnOf (Matches m) rows c → IsColumnOf allows rows c
  row_has_allowed c w =
      let has = subst (λ r. Matches m r c) (sym (row_at w.0 w.1)) w.2 in
      let j = tree.joined w.1.0 (later_matched w.1.0 c has) w.1.1 in
      let same = Matches-same m (get_or rows w.1.0 0) j.column c j.has has in
      let parent_within : j.parent < length rows = omega (arith, j.earlier, w.1.1) in
      (get_or rows j.parent 0, Contains-get_or rows j.parent 0 parent_within, subst (λ d. allows (get_or rows j.parent 0) d) same (cells j.column j.parent j.reached))

  -- the rows but for the root
  Contains-others : (r : ℕ) → Contains (drop 1 rows) r → (k : ℕ) × (0 < k) × (k < length rows) × (get_or rows k 0 ≡ r)
  Contains-others r has =
      let within : 1 + has.0 < length rows = omega (arith, has.1, length-drop 1 rows) in
      (1 + has.0, omega arith, within, get_or_default rows (1 + has.0) 0 r within ∙ (sym (get_or-drop 1 rows has.0 r) ∙ has.2))

  others_Contains : (k : ℕ) → 0 < k → k < length rows → Contains (drop 1 rows) (get_or rows k 0)
  others_Contains k later within =
      let at : 1 + (k - 1) ≡ k = omega arith in
      let r = get_or rows k 0 in
      (k - 1, omega (arith, length-drop 1 rows), get_or-drop 1 rows (k - 1) r ∙ (ap (λ i. get_or rows i r) at ∙ get_or_default rows k r 0 within))

  columns_apart : AllPairs ◌≢◌ (map (column_of_row m) (drop 1 rows))
  columns_apart =
      AllPairs-columns m (drop 1 rows) matching
      (λ r has.
      let at = Contains-others r has in
      subst (IsMatched m) at.3 (matched_later at.0 at.1 at.2))
      (λ i j d before within e.
      let further : 1 + j < length rows = omega (arith, length-drop 1 rows) in
      tree.apart (1 + i) (1 + j) d (omega arith) further (sym (get_or-drop 1 rows i d) ∙ (e ∙ get_or-drop 1 rows j d)))

  columns_exact : (c : ℕ) → Contains (map (column_of_row m) (drop 1 rows)) c ↔ IsColumnOf (Matches m) rows c
  columns_exact c = (
    λ has.
        let from = Contains-map_cases (column_of_row m) (drop 1 rows) c has in
        let at = Contains-others from.0 from.1 in
        let matched = subst (IsMatched m) at.3 (matched_later at.0 at.1 at.2) in
        (from.0, subst (Contains rows) at.3 (Contains-get_or rows at.0 0 at.2), subst (λ d. Matches m from.0 d) from.2 (Matches-column_of_row m from.0 matched)),
    λ w.
        let has = subst (λ r. Matches m r c) (sym (row_at w.0 w.1)) w.2 in
        let there = others_Contains w.1.0 (later_matched w.1.0 c has) w.1.1 in
        subst (Contains (map (column_of_row m) (drop 1 rows))) (column_of_row-is m (get_or rows w.1.0 0) c has) (Contains-map (column_of_row m) (drop 1 rows) (get_or rows w.1.0 0) there),
  )

  -- a tree whose rows are all closed can't grow
  pub IsStuck-from_tree : IsStuck allows m (get_or rows 0 0) rows
  IsStuck-from_tree =
      record {
        has_root = Contains-get_or rows 0 0 tree.rooted;
        others = others_matched;
        exact = λ c. (allowed_has_row c, row_has_allowed c);
        count = (
          map (column_of_row m) (drop 1 rows),
          record {
            apart = columns_apart;
            exact = λ c. (
              λ has. row_has_allowed c ((columns_exact c).0 has),
              λ w. (columns_exact c).1 (allowed_has_row c w),
            );
          },
          omega (arith, length-map (drop 1 rows) (column_of_row m), length-drop 1 rows, tree.rooted),
        );
      }

  pub IsDeficient-from_tree : IsDeficient allows (length m) rows
  IsDeficient-from_tree =
      record {
        below = tree.below;
        apart = tree.apart;
        few = record {
          columns = map (column_of_row m) (drop 1 rows);
          fewer = omega (arith, length-map (drop 1 rows) (column_of_row m), length-drop 1 rows, tree.rooted);
          all = λ c w. (columns_exact c).1 (allowed_has_row c w);
        };
      }
