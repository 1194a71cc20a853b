-- A path that is being flipped, from its free column to the root.
use Rattle.asg_match.proofs.Common.{◌≡◌, ℕ, ◌<◌, ◌≤◌, ◌⊎◌, List, length, get_or, set, is_some, Some, None, Option, sym, refl, ap, ◌∙◌, subst, inl, inr, ⊎_elim, arith, length-set, get_or-set_other, cases_eq, cases_lt, get_or-set_at, none-some, same_Some, HasParent, IsTree, IsLink, Flips, column_at, Matches, IsMatched, IsFree, IsMatching, Matches-same, Matches-set_cases, IsMatching-set}

-- the row at a place is about to get a free column; rows up to that place have what they had
pub record IsFlipping (rows : List ℕ) (parents : ℕ → Option ℕ) (end_place end_column : ℕ) (before now : List (Option ℕ)) (place row column : ℕ) : Type 0 where
  pub side : length now ≡ length before
  pub within : place < length rows
  pub row_there : row ≡ get_or rows place 0
  pub below : column < length now
  pub free : IsFree now column
  pub kept : (r : ℕ) → IsMatched before r → IsMatched now r
  pub only : (r : ℕ) → IsMatched now r → IsMatched before r
  pub waiting : (k : ℕ) → k ≤ place → column_at now (get_or rows k 0) ≡ column_at before (get_or rows k 0)
  pub cells : (r c : ℕ) → Matches now r c → Matches before r c ⊎ IsLink rows parents end_place end_column r c
  pub link : IsLink rows parents end_place end_column row column

-- a row that is written has a column, and the others have what they had
IsMatched-set : (m : List (Option ℕ)) (i c r : ℕ) → i < length m → IsMatched m r → IsMatched (set m i (Some c)) r
IsMatched-set m i c r h e =
    ⊎_elim
    (λ q. ap (is_some {T = ℕ}) (get_or-set_at m i r (Some c) None q h))
    (λ n. ap (is_some {T = ℕ}) (get_or-set_other m i r (Some c) None n) ∙ e)
    (cases_eq r i)

IsMatched-unset : (m : List (Option ℕ)) (i c r : ℕ) → IsMatched m i → IsMatched (set m i (Some c)) r → IsMatched m r
IsMatched-unset m i c r has e =
    ⊎_elim
    (λ q. subst (IsMatched m) (sym q) has)
    (λ n. sym (ap (is_some {T = ℕ}) (get_or-set_other m i r (Some c) None n)) ∙ e)
    (cases_eq r i)

module _ (rows : List ℕ) (parents : ℕ → Option ℕ) (end_place end_column : ℕ) (before now : List (Option ℕ)) (place row column : ℕ) (tree : IsTree before rows parents) (state : IsFlipping rows parents end_place end_column before now place row column) where
  -- the row is below the side
  pub row_below : row < length now
  row_below = subst (λ r. r < length now) (sym state.row_there) (subst (λ n. get_or rows place 0 < n) (sym state.side) (tree.below place 0 state.within))

  -- the row has what it had
  row_waits : column_at before (get_or rows place 0) ≡ column_at now row
  row_waits = sym (state.waiting place (omega arith)) ∙ ap (column_at now) (sym state.row_there)

  -- the column of the row was reached from an earlier place
  pub parent_of : (former : ℕ) → Matches now row former → (p : ℕ) × (p < place) × HasParent parents former p
  parent_of former has =
      ⊎_elim
      (λ later.
      let j = tree.joined place later state.within in
      let same = Matches-same before (get_or rows place 0) j.column former j.has (row_waits ∙ has) in
      (j.parent, j.earlier, subst (λ d. HasParent parents d j.parent) same j.reached))
      (λ first.
      let at_root : 0 ≡ place = omega arith in
      absurd (none-some former (sym (subst (λ k. column_at before (get_or rows k 0) ≡ None) at_root tree.root_free) ∙ (row_waits ∙ has))))
      (cases_lt 0 place)

  -- a row with no column is the root
  at_root : column_at now row ≡ None → row ≡ get_or rows 0 0
  at_root unmatched =
      ⊎_elim
      (λ later.
      let j = tree.joined place later state.within in
      absurd (none-some j.column (sym unmatched ∙ (sym row_waits ∙ j.has))))
      (λ first.
      let zero : place ≡ 0 = omega arith in
      subst (λ k. row ≡ get_or rows k 0) zero state.row_there)
      (cases_lt 0 place)

  cells_after : (r c : ℕ) → Matches (set now row (Some column)) r c → Matches before r c ⊎ IsLink rows parents end_place end_column r c
  cells_after r c e =
      ⊎_elim
      (λ here. inr (subst (λ d. IsLink rows parents end_place end_column r d) (same_Some column c here.1) (subst (λ s. IsLink rows parents end_place end_column s column) (sym here.0) state.link)))
      (λ there. state.cells r c there.1)
      (Matches-set_cases now row (Some column) r c e)

  -- one link of the path is flipped
  pub IsFlipping-step : IsMatching now → (former p : ℕ) → Matches now row former → HasParent parents former p → p < place → IsFlipping rows parents end_place end_column before (set now row (Some column)) p (get_or rows p 0) former
  IsFlipping-step moved former p has reached earlier =
      record {
        side = length-set now row (Some column) ∙ state.side;
        within = omega (arith, state.within);
        row_there = refl;
        below = subst (λ n. former < n) (sym (length-set now row (Some column))) (moved.below row former has);
        free = λ s e.
            ⊎_elim
            (λ here. state.free row (subst (λ d. Matches now row d) (sym (same_Some column former here.1)) has))
            (λ there. there.0 (moved.apart s row former there.1 has))
            (Matches-set_cases now row (Some column) s former e);
        kept = λ r e. IsMatched-set now row column r row_below (state.kept r e);
        only = λ r e. state.only r (IsMatched-unset now row column r (ap (is_some {T = ℕ}) has) e);
        waiting = λ k near.
            get_or-set_other now row (get_or rows k 0) (Some column) None
            (λ e. tree.apart k place 0 (omega arith) state.within (e ∙ state.row_there))
            ∙ state.waiting k (omega arith);
        cells = cells_after;
        link = inr (p, refl, reached);
      }

  -- the root gets its column, and the path is flipped
  pub Flips-done : IsMatching now → column_at now row ≡ None → Flips rows parents end_place end_column before (set now row (Some column))
  Flips-done moved unmatched =
      record {
        side = length-set now row (Some column) ∙ state.side;
        columns = IsMatching-set now row column moved state.below state.free;
        kept = λ r e. IsMatched-set now row column r row_below (state.kept r e);
        added = subst (IsMatched (set now row (Some column))) (at_root unmatched) (ap (is_some {T = ℕ}) (get_or-set_at now row row (Some column) None refl row_below));
        only = λ r e.
            ⊎_elim
            (λ q. inr (q ∙ at_root unmatched))
            (λ n. inl (state.only r (sym (ap (is_some {T = ℕ}) (get_or-set_other now row r (Some column) None n)) ∙ e)))
            (cases_eq r row);
        cells = cells_after;
      }
