-- A list of columns gone through from its front: those so far are below the side, different, and
-- marked as seen.
use Rattle.asg_verdicts.proofs.LevelCommon.{◌≡◌, ℕ, ◌+◌, ◌<◌, ◌≤◌, Bool, true, false, cond, eqb, ◌≢◌, List, length, get_or, IsTrue, sym, refl, ap, ◌∙◌, subst, ⊎_elim, arith, eq-eqb, eqb-true, cases_Bool, cases_lt, get_or_default, BitTable, PutsBit, has_bit, AreColumns}

or_true : (b x : Bool) → x ≡ true → cond b true x ≡ true
or_true true x e = refl
or_true false x e = e

module _ (columns : List ℕ) (place column : ℕ) (read : column ≡ get_or columns place 0) where
  module _ (seen after : BitTable) (put : PutsBit seen after 0 column true) where
    -- the column is marked too
    pub seen_next : ((i : ℕ) → i < place → IsTrue (has_bit seen 0 (get_or columns i 0))) → (i : ℕ) → i < place + 1 → IsTrue (has_bit after 0 (get_or columns i 0))
    seen_next old i h =
        put.bits 0 (get_or columns i 0)
        ∙ ⊎_elim
        (λ (before : i < place). or_true (eqb (get_or columns i 0) column) (has_bit seen 0 (get_or columns i 0)) (old i before))
        (λ (from : place ≤ i).
        let at : place ≡ i = omega (arith, h, from) in
        ap (λ b. cond b true (has_bit seen 0 (get_or columns i 0))) (eq-eqb (get_or columns i 0) column (ap (λ k. get_or columns k 0) (sym at) ∙ sym read)))
        (cases_lt i place)

    -- and no other
    pub only_next : ((c : ℕ) → IsTrue (has_bit seen 0 c) → (i : ℕ) × (i < place) × (get_or columns i 0 ≡ c)) → (c : ℕ) → IsTrue (has_bit after 0 c) → (i : ℕ) × (i < place + 1) × (get_or columns i 0 ≡ c)
    only_next old c is =
        ⊎_elim
        (λ (same : eqb c column ≡ true). (place, omega arith, sym read ∙ sym (eqb-true c column same)))
        (λ (other : eqb c column ≡ false).
        let one = old c (sym (put.bits 0 c ∙ ap (λ b. cond b true (has_bit seen 0 c)) other) ∙ is) in
        (one.0, (let h = one.1 in omega (arith, h)), one.2))
        (cases_Bool (eqb c column))

  -- it isn't one of those before it
  pub apart_next : ((i : ℕ) → i < place → get_or columns i 0 ≢ column) → ((i j : ℕ) → i < j → j < place → get_or columns i 0 ≢ get_or columns j 0)
      → (i j : ℕ) → i < j → j < place + 1 → get_or columns i 0 ≢ get_or columns j 0
  apart_next fresh old i j before h =
      ⊎_elim
      (λ (early : j < place). old i j before early)
      (λ (late : place ≤ j).
      let at : place ≡ j = omega (arith, h, late) in
      λ e. fresh i (omega (arith, before, at)) (e ∙ ap (λ k. get_or columns k 0) (sym at) ∙ sym read))
      (cases_lt j place)

  pub within_next : (side : ℕ) → column < side → ((i : ℕ) → i < place → get_or columns i 0 < side) → (i : ℕ) → i < place + 1 → get_or columns i 0 < side
  within_next side low old i h =
      ⊎_elim
      (λ (early : i < place). old i early)
      (λ (late : place ≤ i).
      let at : place ≡ i = omega (arith, h, late) in
      subst (λ k. get_or columns k 0 < side) at (subst (λ c. c < side) read low))
      (cases_lt i place)

-- the list gone through to its end
pub columns_by : (side : ℕ) (columns : List ℕ) → length columns ≡ side → ((i : ℕ) → i < length columns → get_or columns i 0 < side)
    → ((i j : ℕ) → i < j → j < length columns → get_or columns i 0 ≢ get_or columns j 0) → AreColumns side columns
columns_by side columns over within apart = record {
  over = over;
  apart = λ i j d before h e. apart i j before h (get_or_default columns i 0 d (omega (arith, before, h)) ∙ e ∙ get_or_default columns j d 0 h);
  within = λ i d h. subst (λ c. c < side) (get_or_default columns i 0 d h) (within i h);
}

-- a column that isn't below the side, or was seen before
pub none_by : (side : ℕ) (columns : List ℕ) (place column : ℕ) (seen : BitTable) → column ≡ get_or columns place 0 → place < length columns
    → ((c : ℕ) → IsTrue (has_bit seen 0 c) → (i : ℕ) × (i < place) × (get_or columns i 0 ≡ c))
    → ¬ ((column < side) × (has_bit seen 0 column ≡ false)) → ¬ AreColumns side columns
none_by side columns place column seen read there only stale w = stale (low, unseen (has_bit seen 0 column) refl)
  where
    low : column < side
    low = subst (λ c. c < side) (sym read) (w.within place 0 there)

    unseen : (b : Bool) → has_bit seen 0 column ≡ b → has_bit seen 0 column ≡ false
    unseen false e = e
    unseen true e =
        let one = only column e in
        absurd (w.apart one.0 place 0 one.1 there (one.2 ∙ read))
