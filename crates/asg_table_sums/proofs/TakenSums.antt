-- What columns add up to over the rows that take them.
use Rattle.asg_table_sums.proofs.Common.{◌≡◌, ℕ, zero, suc, ◌+◌, ◌*◌, ◌<◌, ◌≤◌, Bool, true, false, cond, eqb, ◌⊎◌, List, [], ◌∷◌, Some, None, sum_by, count_by, Option, sym, ap, ◌∙◌, inl, inr, ⊎_elim, mul-add, arith, eq-eqb, ne_eqb, cases_lt, mul-le, sum_by-cons, sum_below, one, takes, sum_below-same, sum_below-le, sum_below-add, sum_below-zero}

-- the number of the column that is taken, 0 for none
abbrev pub taken : (ℕ → ℕ) → Option ℕ → ℕ
taken v None = 0
taken v (Some c) = v c

times_no : (x : ℕ) (b : Bool) → b ≡ false → x * one b ≡ 0
times_no x false e = omega arith
times_no x true e = cc

times_yes : (x : ℕ) (b : Bool) → b ≡ true → x * one b ≡ x
times_yes x true e = omega arith
times_yes x false e = cc

-- a sum of nothing
all_zero : (f : ℕ → ℕ) (m : ℕ) → ((c : ℕ) → c < m → f c ≡ 0) → sum_below f m ≡ 0
all_zero f m each = sum_below-same f (λ _. 0) m each ∙ sum_below-zero m

module _ (v : ℕ → ℕ) where
  -- a column at or past the end isn't met
  none_met : (d m : ℕ) → m ≤ d → sum_below (λ c. v c * one (eqb d c)) m ≡ 0
  none_met d m past = all_zero (λ c. v c * one (eqb d c)) m (λ c h. times_no (v c) (eqb d c) (ne_eqb d c (λ (e : d ≡ c). omega (arith, e, h, past))))

  -- one before it is met once
  once_met : (d m : ℕ) → d < m → sum_below (λ c. v c * one (eqb d c)) m ≡ v d
  once_met d zero h = absurd (omega arith)
  once_met d (suc m) h =
      ⊎_elim
      (λ (before : d < m).
      let rest = once_met d m before in
      let last = times_no (v m) (eqb d m) (ne_eqb d m (λ (e : d ≡ m). omega (arith, e, before))) in
      omega (arith, rest, last))
      (λ (from : m ≤ d).
      let here : d ≡ m = omega arith in
      let rest = none_met d m from in
      let last = times_yes (v m) (eqb d m) (eq-eqb d m here) in
      let same : v d ≡ v m = ap v here in
      omega (arith, rest, last, same))
      (cases_lt d m)

  module _ (m : ℕ) (past : (c : ℕ) → m ≤ c → v c ≡ 0) where
    one_row : (o : Option ℕ) → sum_below (λ c. v c * one (takes c o)) m ≡ taken v o
    one_row None = all_zero (λ c. v c * 0) m (λ c h. omega arith)
    one_row (Some d) =
        ⊎_elim
        (λ (before : d < m). once_met d m before)
        (λ (from : m ≤ d). none_met d m from ∙ sym (past d from))
        (cases_lt d m)

    -- what the columns of all rows add up to, column by column
    pub sum_taken : (f : List (Option ℕ)) → sum_by (taken v) f ≡ sum_below (λ c. v c * count_by (takes c) f) m
    sum_taken [] = sym (all_zero (λ c. v c * 0) m (λ c h. omega arith))
    sum_taken (o ∷ f) =
        let first = sum_by-cons (taken v) o f in
        let rest = sum_taken f in
        let row = one_row o in
        let both = sum_below-add (λ c. v c * one (takes c o)) (λ c. v c * count_by (takes c) f) m in
        let split = sum_below-same (λ c. v c * count_by (takes c) (o ∷ f)) (λ c. v c * one (takes c o) + v c * count_by (takes c) f) m (λ c h.
        ap (λ n. v c * n) (sum_by-cons (λ x. cond (takes c x) 1 0) o f) ∙ spread (v c) (one (takes c o)) (count_by (takes c) f)) in
        omega (arith, first, rest, row, both, split)
      where
        spread : (x y z : ℕ) → x * (y + z) ≡ x * y + x * z
        spread x y z = mul-add x y z

    -- where each column that has a number is taken as often by one choice as by another, or more
    -- often, its numbers add up to as much
    pub taken-le : (f g : List (Option ℕ)) → ((c : ℕ) → (v c ≡ 0) ⊎ (count_by (takes c) g ≤ count_by (takes c) f)) → sum_by (taken v) g ≤ sum_by (taken v) f
    taken-le f g more =
        let le = sum_below-le (λ c. v c * count_by (takes c) g) (λ c. v c * count_by (takes c) f) m (λ c h. each c (more c)) in
        omega (arith, sum_taken f, sum_taken g, le)
      where
        each : (c : ℕ) → (v c ≡ 0) ⊎ (count_by (takes c) g ≤ count_by (takes c) f) → v c * count_by (takes c) g ≤ v c * count_by (takes c) f
        each c (inl none) = let e : v c * count_by (takes c) g ≡ 0 = ap (λ x. x * count_by (takes c) g) none ∙ (let z : 0 * count_by (takes c) g ≡ 0 = omega arith in z) in omega (arith, e)
        each c (inr le) = mul-le (v c) (count_by (takes c) g) (v c) (count_by (takes c) f) (let same : v c ≤ v c = omega arith in same) le
