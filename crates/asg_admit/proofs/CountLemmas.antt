-- Rows that have entered and columns that stay, from step to step.
use Rattle.asg_admit.proofs.Common.{◌≡◌, ℕ, zero, suc, ◌+◌, ◌-◌, ◌<◌, ◌≤◌, min, Bool, true, false, cond, eqb, ltb, leb, List, length, slice_index, sym, refl, ap, ◌∙◌, subst, ⊎_elim, arith, le-ltb, lt-ltb, eq-eqb, ne_eqb, le-leb, cases_lt, cases_order, lt-leb, AreBalanced, AreCounted, has_mark, entered_at, staying_at, count_below, count_below-more}

-- ---- counts

-- what passes one test or another of two is counted by both
count_both : (p q s : ℕ → Bool) → ((i : ℕ) → cond (q i) 1 0 ≡ cond (p i) 1 0 + cond (s i) 1 0) → (n : ℕ) → count_below q n ≡ count_below p n + count_below s n
count_both p q s each zero = refl
count_both p q s each (suc n) =
    let next : suc n ≡ n + 1 = omega arith in
    let sum : count_below q (n + 1) ≡ count_below p (n + 1) + count_below s (n + 1) =
    omega (arith, count_below-more q n, count_below-more p n, count_below-more s n, count_both p q s each n, each n) in
    ap (count_below q) next ∙ sum ∙ sym (ap (λ m. count_below p m + count_below s m) next)

pub count_few : (p : ℕ → Bool) (n : ℕ) → count_below p n ≤ n
count_few p zero = omega arith
count_few p (suc n) =
    let next : n + 1 ≡ suc n = omega arith in
    let more : count_below p (n + 1) ≤ n + 1 = omega (arith, count_below-more p n, count_few p n, one (p n)) in
    subst (λ m. count_below p m ≤ m) next more
  where
    one : (b : Bool) → cond b 1 0 ≤ 1
    one true = omega arith
    one false = omega arith

enters_by : (mark t : ℕ) → cond (leb mark (t + 1)) 1 0 ≡ cond (leb mark t) 1 0 + cond (eqb mark (t + 1)) 1 0
enters_by mark t =
    ⊎_elim
    (λ (here : mark ≡ t + 1). rw (le-leb mark (t + 1) (omega (arith, here)), lt-leb mark t (omega (arith, here)), eq-eqb mark (t + 1) here) refl)
    (⊎_elim
    (λ (before : mark < t + 1). rw (le-leb mark (t + 1) (omega (arith, before)), le-leb mark t (omega (arith, before)), ne_eqb mark (t + 1) (λ e. omega (arith, e, before))) refl)
    (λ (after : t + 1 < mark). rw (lt-leb mark (t + 1) after, lt-leb mark t (omega (arith, after)), ne_eqb mark (t + 1) (λ e. omega (arith, e, after))) refl))
    (cases_order mark (t + 1))

leaves_by : (mark t : ℕ) → cond (ltb t mark) 1 0 ≡ cond (ltb (t + 1) mark) 1 0 + cond (eqb mark (t + 1)) 1 0
leaves_by mark t =
    ⊎_elim
    (λ (here : mark ≡ t + 1). rw (lt-ltb t mark (omega (arith, here)), le-ltb (t + 1) mark (omega (arith, here)), eq-eqb mark (t + 1) here) refl)
    (⊎_elim
    (λ (before : mark < t + 1). rw (le-ltb t mark (omega (arith, before)), le-ltb (t + 1) mark (omega (arith, before)), ne_eqb mark (t + 1) (λ e. omega (arith, e, before))) refl)
    (λ (after : t + 1 < mark). rw (lt-ltb t mark (omega (arith, after)), lt-ltb (t + 1) mark after, ne_eqb mark (t + 1) (λ e. omega (arith, e, after))) refl))
    (cases_order mark (t + 1))

module _ (enters leaves : List ℕ) where
  abbrev rows : ℕ → ℕ
  rows t = count_below (entered_at enters t) (length enters)

  abbrev columns : ℕ → ℕ
  columns t = count_below (staying_at leaves t) (length leaves)

  abbrev entering : ℕ → ℕ
  entering t = count_below (has_mark enters t) (length enters)

  abbrev leaving : ℕ → ℕ
  leaving t = count_below (has_mark leaves t) (length leaves)

  rows_more : (t : ℕ) → rows (t + 1) ≡ rows t + entering (t + 1)
  rows_more t = count_both (entered_at enters t) (entered_at enters (t + 1)) (has_mark enters (t + 1)) (λ i. enters_by (slice_index enters i) t) (length enters)

  columns_more : (t : ℕ) → columns t ≡ columns (t + 1) + leaving (t + 1)
  columns_more t = count_both (staying_at leaves (t + 1)) (staying_at leaves t) (has_mark leaves (t + 1)) (λ i. leaves_by (slice_index leaves i) t) (length leaves)

  module _ (end : ℕ) where
    -- a first step that is counted, and as many rows that enter as columns that leave after it
    pub counted_by_balance : rows 0 + columns 0 ≡ length enters + 1 → AreBalanced enters leaves 1 (end - 1) → AreCounted enters leaves end
    counted_by_balance first balanced = go
      where
        go : AreCounted enters leaves end
        go zero h = first
        go (suc t) h =
            let next : t + 1 ≡ suc t = omega arith in
            let place : 1 + t ≡ t + 1 = omega arith in
            let before : rows t + columns t ≡ length enters + 1 = go t (omega (arith, h)) in
            let even : entering (t + 1) ≡ leaving (t + 1) = subst (λ n. entering n ≡ leaving n) place (balanced t (omega (arith, h))) in
            let sum : rows (t + 1) + columns (t + 1) ≡ length enters + 1 = omega (arith, rows_more t, columns_more t, before, even) in
            subst (λ n. rows n + columns n ≡ length enters + 1) next sum

    pub balance_by_counts : AreCounted enters leaves end → AreBalanced enters leaves 1 (end - 1)
    balance_by_counts counted = λ t h.
        let place : t + 1 ≡ 1 + t = omega arith in
        let before : rows t + columns t ≡ length enters + 1 = counted t (omega (arith, h)) in
        let after : rows (t + 1) + columns (t + 1) ≡ length enters + 1 = counted (t + 1) (omega (arith, h)) in
        let even : entering (t + 1) ≡ leaving (t + 1) = omega (arith, rows_more t, columns_more t, before, after) in
        subst (λ n. entering n ≡ leaving n) place even

  -- ---- windows

  -- balanced steps up to a window, and those of the window
  pub balance_more : (base size count : ℕ) → size ≡ min (count - base) 2000 → ((i : ℕ) → i < base → i < count → entering (1 + i) ≡ leaving (1 + i)) → AreBalanced enters leaves (base + 1) size → (i : ℕ) → i < base + 2000 → i < count → entering (1 + i) ≡ leaving (1 + i)
  balance_more base size count e so_far last i h k =
      ⊎_elim
      (λ (before : i < base). so_far i before k)
      (λ (within : base ≤ i).
      let place : base + 1 + (i - base) ≡ 1 + i = omega (arith, within) in
      subst (λ n. entering n ≡ leaving n) place (last (i - base) (omega (arith, e, h, k, within))))
      (cases_lt i base)

  -- a window of balanced steps
  pub balance_part : (base size count : ℕ) → size ≡ min (count - base) 2000 → AreBalanced enters leaves 1 count → AreBalanced enters leaves (base + 1) size
  balance_part base size count e all i h =
      let place : 1 + (base + i) ≡ base + 1 + i = omega arith in
      subst (λ n. entering n ≡ leaving n) place (all (base + i) (omega (arith, e, h)))
