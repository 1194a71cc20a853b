-- Least cells, as they are held and merged.
use Rattle.asg_admit.proofs.Common.{◌≡◌, ℕ, ◌+◌, ◌<◌, ◌≤◌, min, Bool, true, false, cond, ◌≢◌, ◌⊎◌, List, length, get_or, replicate, is_some, slice_index, Some, None, Option, sym, refl, ap, ◌∙◌, subst, inl, inr, ⊎_elim, arith, le-ltb, lt-ltb, cases_eq, cases_lt, false≢true, get_or-replicate, get_or_past, length-replicate, place_at, place_of, held_at, lesser_of, HasAtMost, AreHeldValues, MergesRow, MergesRows, IsLeastStaying, Monoid, IsValue, IsOrderedMonoid, Grid, cell_at}
use Rattle.asg_order.specs.laws.Orders.{reflexive, le_from_less}

pub none_some : {V : Type 0} (y : V) → None ≡ Some y → ⊥
none_some y e = false≢true (ap is_some e)

-- ---- places

-- there are no more places than columns, and none past the number of steps
pub place_few : (side end leave k : ℕ) → k < side → (place_at side end leave k < side) × (place_at side end leave k ≤ end)
place_few side end leave k h =
    ⊎_elim
    (λ (few : end < side).
    let is : place_at side end leave k ≡ min leave end = ap (λ b. cond b (min leave end) k) (lt-ltb end side few) in
    (omega (arith, is, few), omega (arith, is)))
    (λ (many : side ≤ end).
    let is : place_at side end leave k ≡ k = ap (λ b. cond b (min leave end) k) (le-ltb end side many) in
    (omega (arith, is, h), omega (arith, is, h, many)))
    (cases_lt end side)

-- columns with one place leave at the same step, if they do so before the end
pub same_leave : (end : ℕ) (leaves : List ℕ) (i k t : ℕ) → place_of end leaves i ≡ place_of end leaves k → t < end → t < slice_index leaves k → t < slice_index leaves i
same_leave end leaves i k t same before stays =
    let at = slice_index leaves i in
    let mark = slice_index leaves k in
    ⊎_elim
    (λ (few : end < length leaves).
    let one : place_of end leaves i ≡ min at end = ap (λ b. cond b (min at end) i) (lt-ltb end (length leaves) few) in
    let other : place_of end leaves k ≡ min mark end = ap (λ b. cond b (min mark end) k) (lt-ltb end (length leaves) few) in
    let both : min at end ≡ min mark end = sym one ∙ same ∙ other in
    omega (arith, both, before, stays))
    (λ (many : length leaves ≤ end).
    let one : place_of end leaves i ≡ i = ap (λ b. cond b (min at end) i) (le-ltb end (length leaves) many) in
    let other : place_of end leaves k ≡ k = ap (λ b. cond b (min mark end) k) (le-ltb end (length leaves) many) in
    subst (λ j. t < slice_index leaves j) (sym other ∙ sym same ∙ one) stays)
    (cases_lt end (length leaves))

-- ---- what is held

-- where no mark is set nothing is held
pub none_held : {V : Type 0} (M : Monoid V) (room : List V) (held : List Bool) (n : ℕ) → held ≡ replicate n false → (s : ℕ) → held_at M room held s ≡ None
none_held M room held n is s =
    ap (λ b. cond b (Some (get_or room s M.unit)) None)
    (ap (λ bs. get_or bs s false) is
    ∙ ⊎_elim
    (λ (within : s < n). get_or-replicate n s false false within)
    (λ (past : n ≤ s). get_or_past (replicate n false) s false (omega (arith, past, length-replicate n false)))
    (cases_lt s n))

-- ---- the lesser of two

lesser_is : {V : Type 0} (M : Monoid V) (a b : Option V) (z : V) → lesser_of M a b ≡ Some z → (a ≡ Some z) ⊎ (b ≡ Some z)
lesser_is M None b z e = inr e
lesser_is M (Some x) None z e = inl e
lesser_is {V} M (Some x) (Some y) z e = by_order (M.is_le x y) e
  where
    by_order : (b : Bool) → Some (cond b x y) ≡ Some z → (Some x ≡ Some z) ⊎ (Some y ≡ Some z)
    by_order true e = inl e
    by_order false e = inr e

module _ {V : Type 0} (M : Monoid V) (laws : IsOrderedMonoid M) where
  abbrev AreValues : Option V → Type 0
  AreValues o = (y : V) → o ≡ Some y → IsValue M y

  lesser_left : (x : V) (b : Option V) → IsValue M x → AreValues b → HasAtMost M (lesser_of M (Some x) b) x
  lesser_left x None vx vb = (x, refl, reflexive M laws x vx)
  lesser_left x (Some y) vx vb = by_order (M.is_le x y) refl
    where
      by_order : (b : Bool) → M.is_le x y ≡ b → HasAtMost M (Some (cond b x y)) x
      by_order true e = (x, refl, reflexive M laws x vx)
      by_order false e = (y, refl, le_from_less M laws y x (vb y refl) vx e)

  lesser_right : (a : Option V) (y : V) → AreValues a → IsValue M y → HasAtMost M (lesser_of M a (Some y)) y
  lesser_right None y va vy = (y, refl, reflexive M laws y vy)
  lesser_right (Some x) y va vy = by_order (M.is_le x y) refl
    where
      by_order : (b : Bool) → M.is_le x y ≡ b → HasAtMost M (Some (cond b x y)) y
      by_order true e = (x, refl, e)
      by_order false e = (y, refl, reflexive M laws y vy)

  lesser_value : (a b : Option V) → AreValues a → AreValues b → AreValues (lesser_of M a b)
  lesser_value a b va vb z e = ⊎_elim (λ was. va z was) (λ now. vb z now) (lesser_is M a b z e)

  -- what was at most a value still is
  pub lesser_keeps : (a b : Option V) (x : V) → AreValues a → AreValues b → IsValue M x → HasAtMost M a x → HasAtMost M (lesser_of M a b) x
  lesser_keeps a b x va vb vx h =
      let z = h.0 in
      let vz : IsValue M z = va z h.1 in
      let left = lesser_left z b vz vb in
      let vl = lesser_value (Some z) b (λ y e. va y (h.1 ∙ e)) vb left.0 left.1 in
      subst (λ o. HasAtMost M (lesser_of M o b) x) (sym h.1)
      (left.0, left.1, laws.transitive left.0 z x vl vz vx left.2 h.2)

  pub lesser_takes : (a b : Option V) (x : V) → AreValues a → IsValue M x → b ≡ Some x → HasAtMost M (lesser_of M a b) x
  lesser_takes a b x va vx e = subst (λ o. HasAtMost M (lesser_of M a o) x) (sym e) (lesser_right a x va vx)

  -- ---- a row's cells, one after the other

  module _ (row : ℕ → Option V) (place : ℕ → ℕ) (before : ℕ → Option V) (values : AreHeldValues M before) where
    pub merges_none : MergesRow M row place 0 before before
    merges_none = record {
      kept = λ s y e. (y, e, reflexive M laws y (values s y e));
      under = λ k x h. absurd (omega (arith, h));
      reached = λ s y e. inl e;
    }

    pub merged_values : (n : ℕ) (after : ℕ → Option V) → MergesRow M row place n before after → ((k : ℕ) (x : V) → k < n → row k ≡ Some x → IsValue M x) → AreHeldValues M after
    merged_values n after so cells s y e =
        ⊎_elim (λ was. values s y was) (λ found. cells found.0 y found.1 found.3) (so.reached s y e)

    module _ (n : ℕ) (mid after : ℕ → Option V) (cell : Option V) (so : MergesRow M row place n before mid) (cells : (k : ℕ) (x : V) → k < n + 1 → row k ≡ Some x → IsValue M x) (is : cell ≡ row n) (here : after (place n) ≡ lesser_of M (mid (place n)) cell) (others : (s : ℕ) → s ≢ place n → after s ≡ mid s) where
      mid_values : AreHeldValues M mid
      mid_values = merged_values n mid so (λ k x h e. cells k x (omega (arith, h)) e)

      cell_value : AreValues cell
      cell_value y e = cells n y (omega arith) (sym is ∙ e)

      grown : (s : ℕ) (y : V) → IsValue M y → HasAtMost M (mid s) y → HasAtMost M (after s) y
      grown s y vy h =
          ⊎_elim
          (λ (at : s ≡ place n).
          subst (λ j. HasAtMost M (after j) y) (sym at)
          (subst (λ o. HasAtMost M o y) (sym here)
          (lesser_keeps (mid (place n)) cell y (mid_values (place n)) cell_value vy (subst (λ j. HasAtMost M (mid j) y) at h))))
          (λ apart. subst (λ o. HasAtMost M o y) (sym (others s apart)) h)
          (cases_eq s (place n))

      pub merges_more : MergesRow M row place (n + 1) before after
      merges_more = record {
        kept = λ s y e. grown s y (values s y e) (so.kept s y e);
        under = λ k x below e.
            ⊎_elim
            (λ (early : k < n). grown (place k) x (cells k x below e) (so.under k x early e))
            (λ (late : n ≤ k).
            let last : n ≡ k = omega (arith, late, below) in
            subst (λ j. HasAtMost M (after (place j)) x) last
            (subst (λ o. HasAtMost M o x) (sym here)
            (lesser_takes (mid (place n)) cell x (mid_values (place n)) (cells k x below e) (is ∙ ap row last ∙ e))))
            (cases_lt k n);
        reached = λ s y e.
            ⊎_elim
            (λ (at : s ≡ place n).
            ⊎_elim
            (λ was.
            ⊎_elim
            (λ old. inl old)
            (λ found. inr (found.0, omega (arith, found.1), found.2, found.3))
            (so.reached s y (ap mid at ∙ was)))
            (λ now. inr (n, omega arith, sym at, sym is ∙ now))
            (lesser_is M (mid (place n)) cell y (sym here ∙ ap after (sym at) ∙ e)))
            (λ apart.
            ⊎_elim
            (λ old. inl old)
            (λ found. inr (found.0, omega (arith, found.1), found.2, found.3))
            (so.reached s y (sym (others s apart) ∙ e)))
            (cases_eq s (place n));
      }

  -- ---- the rows that enter at a step, one after the other

  module _ (Q : Grid V) (enters : List ℕ) (from : ℕ) (place : ℕ → ℕ) (before : ℕ → Option V) (values : AreHeldValues M before) where
    pub rows_none : MergesRows M Q enters from place 0 before before
    rows_none = record {
      kept = λ s y e. (y, e, reflexive M laws y (values s y e));
      under = λ r k x h. absurd (omega (arith, h));
      reached = λ s y e. inl e;
    }

    module _ (cells : (r k : ℕ) (x : V) → r < Q.side → k < Q.side → cell_at Q r k ≡ Some x → IsValue M x) (n : ℕ) (inside : n ≤ Q.side) (mid : ℕ → Option V) (so : MergesRows M Q enters from place n before mid) where
      pub rows_values : AreHeldValues M mid
      rows_values s y e =
          ⊎_elim
          (λ was. values s y was)
          (λ found. cells found.0 found.1 y (omega (arith, found.2, inside)) found.3 found.6)
          (so.reached s y e)

      older : (s : ℕ) (y : V) → mid s ≡ Some y → (before s ≡ Some y) ⊎ ((r : ℕ) × (k : ℕ) × (r < n + 1) × (k < Q.side) × (slice_index enters r ≡ from) × (place k ≡ s) × (cell_at Q r k ≡ Some y))
      older s y e =
          ⊎_elim
          (λ was. inl was)
          (λ found. inr (found.0, found.1, omega (arith, found.2), found.3, found.4, found.5, found.6))
          (so.reached s y e)

      -- a row that doesn't enter there
      pub rows_skip : (slice_index enters n ≡ from → ⊥) → MergesRows M Q enters from place (n + 1) before mid
      rows_skip apart = record {
        kept = so.kept;
        under = λ r k x below hk enters_there e.
            ⊎_elim
            (λ (early : r < n). so.under r k x early hk enters_there e)
            (λ (late : n ≤ r).
            let last : r ≡ n = omega (arith, late, below) in
            absurd (apart (ap (slice_index enters) (sym last) ∙ enters_there)))
            (cases_lt r n);
        reached = older;
      }

      -- a row that does
      pub rows_more : n < Q.side → slice_index enters n ≡ from → (after : ℕ → Option V) → MergesRow M (cell_at Q n) place Q.side mid after → MergesRows M Q enters from place (n + 1) before after
      rows_more below_side enters_there after row = record {
        kept = λ s y e.
            let was = so.kept s y e in
            grown s y (values s y e) was;
        under = λ r k x below hk at e.
            ⊎_elim
            (λ (early : r < n). grown (place k) x (cells r k x (omega (arith, early, inside)) hk e) (so.under r k x early hk at e))
            (λ (late : n ≤ r).
            let last : r ≡ n = omega (arith, late, below) in
            row.under k x hk (ap (λ i. cell_at Q i k) (sym last) ∙ e))
            (cases_lt r n);
        reached = λ s y e.
            ⊎_elim
            (λ was. older s y was)
            (λ found. inr (n, found.0, omega arith, found.1, enters_there, found.2, found.3))
            (row.reached s y e);
      }
        where
          after_values : AreHeldValues M after
          after_values s y e =
              ⊎_elim
              (λ was. rows_values s y was)
              (λ found. cells n found.0 y below_side found.1 found.3)
              (row.reached s y e)

          grown : (s : ℕ) (y : V) → IsValue M y → HasAtMost M (mid s) y → HasAtMost M (after s) y
          grown s y vy h =
              let now = row.kept s h.0 h.1 in
              (now.0, now.1, laws.transitive now.0 h.0 y (after_values s now.0 now.1) (rows_values s h.0 h.1) vy now.2 h.2)

  -- ---- the least of the columns that stay

  module _ (cells : ℕ → Option V) (leaves : List ℕ) (from : ℕ) (values : (k : ℕ) (y : V) → cells k ≡ Some y → IsValue M y) where
    pub staying_none : IsLeastStaying M cells leaves from 0 None
    staying_none = record {
      under = λ k x h. absurd (omega (arith, h));
      reached = λ y e. absurd (none_some y e);
    }

    module _ (n : ℕ) (least : Option V) (so : IsLeastStaying M cells leaves from n least) where
      pub staying_value : AreValues least
      staying_value y e =
          let found = so.reached y e in
          values found.0 y found.3

      pub staying_more : (next : Option V) → from < slice_index leaves n → next ≡ lesser_of M least (cells n) → IsLeastStaying M cells leaves from (n + 1) next
      staying_more next stays is = record {
        under = λ k x below after e.
            subst (λ o. HasAtMost M o x) (sym is)
            (⊎_elim
            (λ (early : k < n). lesser_keeps least (cells n) x staying_value (values n) (values k x e) (so.under k x early after e))
            (λ (late : n ≤ k).
            let last : n ≡ k = omega (arith, late, below) in
            lesser_takes least (cells n) x staying_value (values k x e) (ap cells last ∙ e))
            (cases_lt k n));
        reached = λ y e.
            ⊎_elim
            (λ was.
            let found = so.reached y was in
            (found.0, omega (arith, found.1), found.2, found.3))
            (λ now. (n, omega arith, stays, now))
            (lesser_is M least (cells n) y (sym is ∙ e));
      }

      pub staying_skip : (next : Option V) → slice_index leaves n ≤ from → next ≡ least → IsLeastStaying M cells leaves from (n + 1) next
      staying_skip next left is = record {
        under = λ k x below after e.
            subst (λ o. HasAtMost M o x) (sym is)
            (⊎_elim
            (λ (early : k < n). so.under k x early after e)
            (λ (late : n ≤ k).
            let last : k ≡ n = omega (arith, late, below) in
            let stays : from < slice_index leaves n = subst (λ j. from < slice_index leaves j) last after in
            absurd (omega (arith, stays, left)))
            (cases_lt k n));
        reached = λ y e.
            let found = so.reached y (sym is ∙ e) in
            (found.0, omega (arith, found.1), found.2, found.3);
      }
