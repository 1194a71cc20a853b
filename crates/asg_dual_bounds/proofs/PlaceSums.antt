-- Sums over numbers below a bound: one term apart, the terms along different numbers, a raised term.
use Rattle.asg_dual_bounds.proofs.Common.{◌≡◌, ℕ, zero, suc, ◌+◌, ◌-◌, ◌*◌, ◌<◌, ◌≤◌, cond, eqb, sym, refl, ap, ◌∙◌, ⊎_elim, arith, eq-eqb, ne_eqb, cases_eq, cases_lt, cond-false, cond-true, sum_below, sum_below-same, sum_below-le, sum_below-add, ones_below}

-- the terms without that at j
abbrev pub without : (ℕ → ℕ) → ℕ → ℕ → ℕ
without g j k = cond (eqb k j) 0 (g k)

pub without_here : (g : ℕ → ℕ) (j k : ℕ) → k ≡ j → without g j k ≡ 0
without_here g j k e = cond-true (eqb k j) 0 (g k) (eq-eqb k j e)

pub without_else : (g : ℕ → ℕ) (j k : ℕ) → (k ≡ j → ⊥) → without g j k ≡ g k
without_else g j k other = cond-false (eqb k j) 0 (g k) (ne_eqb k j other)

-- the term at j, and the others
pub sum_below-apart : (g : ℕ → ℕ) (m j : ℕ) → j < m → sum_below g m ≡ g j + sum_below (without g j) m
sum_below-apart g zero j h = absurd (omega arith)
sum_below-apart g (suc m) j h =
    ⊎_elim
    (λ (below : j < m).
    let rest = sum_below-apart g m j below in
    let last = without_else g j m (λ e. omega (arith, e, below)) in
    omega (arith, rest, last))
    (λ (from : m ≤ j).
    let here : m ≡ j = omega arith in
    let rest = sum_below-same (without g j) g m (λ k lt. without_else g j k (λ e. omega (arith, e, lt, from))) in
    let last = without_here g j m here in
    let same = ap g here in
    omega (arith, rest, last, same))
    (cases_lt j m)

-- the terms at different numbers below m are no more than all terms below m
pub sum_chosen-le : (n : ℕ) (g f : ℕ → ℕ) (m : ℕ) → ((r : ℕ) → r < n → f r < m) → ((r s : ℕ) → r < s → s < n → f r ≡ f s → ⊥) → sum_below (λ r. g (f r)) n ≤ sum_below g m
sum_chosen-le zero g f m below different = omega arith
sum_chosen-le (suc n) g f m below different =
    let j = f n in
    let apart = sum_below-apart g m j (below n (omega arith)) in
    let same = sum_below-same (λ r. g (f r)) (λ r. without g j (f r)) n (λ r h. sym (without_else g j (f r) (different r n h (omega arith)))) in
    let rest = sum_chosen-le n (without g j) f m (λ r h. below r (omega arith)) (λ r s h k. different r s h (omega arith)) in
    omega (arith, apart, same, rest)

-- so many different numbers below m are no more than m
pub chosen-le : (n : ℕ) (f : ℕ → ℕ) (m : ℕ) → ((r : ℕ) → r < n → f r < m) → ((r s : ℕ) → r < s → s < n → f r ≡ f s → ⊥) → n ≤ m
chosen-le n f m below different =
    let le = sum_chosen-le n (λ _. 1) f m below different in
    omega (arith, le, ones_below n, ones_below m)

-- the same term added up
pub sum_below-each : (x n : ℕ) → sum_below (λ _. x) n ≡ n * x
sum_below-each x zero = omega arith
sum_below-each x (suc n) = let rest = sum_below-each x n in grind (arith)

-- where each term is at least the floor, the terms at different numbers, and the floor for each of
-- the other numbers, are no more than all terms
pub sum_floored-le : (n : ℕ) (g f : ℕ → ℕ) (m floor : ℕ) → ((r : ℕ) → r < n → f r < m) → ((r s : ℕ) → r < s → s < n → f r ≡ f s → ⊥) → ((c : ℕ) → c < m → floor ≤ g c) → sum_below (λ r. g (f r)) n + (m - n) * floor ≤ sum_below g m
sum_floored-le n g f m floor below different floored =
    let h : ℕ → ℕ = λ c. g c - floor in
    let few = chosen-le n f m below different in
    let le = sum_chosen-le n h f m below different in
    let all = sum_below-same g (λ c. h c + floor) m (λ c lt. let at = floored c lt in omega (arith, at)) in
    let all_apart = sum_below-add h (λ _. floor) m in
    let some = sum_below-same (λ r. g (f r)) (λ r. h (f r) + floor) n (λ r lt. let at = floored (f r) (below r lt) in omega (arith, at)) in
    let some_apart = sum_below-add (λ r. h (f r)) (λ _. floor) n in
    let spare : n * floor + (m - n) * floor ≡ m * floor = spared (m - n) m (omega (arith, few)) in
    omega (arith, le, all, all_apart, some, some_apart, spare, sum_below-each floor m, sum_below-each floor n)
  where
    spared : (d m : ℕ) → n + d ≡ m → n * floor + d * floor ≡ m * floor
    spared d m e = grind (arith)

-- the terms with that at j raised
abbrev pub raised : (ℕ → ℕ) → ℕ → ℕ → ℕ → ℕ
raised g j gap k = cond (eqb k j) (g k + gap) (g k)

pub raised_here : (g : ℕ → ℕ) (j gap k : ℕ) → k ≡ j → raised g j gap k ≡ g k + gap
raised_here g j gap k e = cond-true (eqb k j) (g k + gap) (g k) (eq-eqb k j e)

pub raised_else : (g : ℕ → ℕ) (j gap k : ℕ) → (k ≡ j → ⊥) → raised g j gap k ≡ g k
raised_else g j gap k other = cond-false (eqb k j) (g k + gap) (g k) (ne_eqb k j other)

pub sum_below-raised : (g : ℕ → ℕ) (n j gap : ℕ) → j < n → sum_below (raised g j gap) n ≡ sum_below g n + gap
sum_below-raised g n j gap h =
    let was = sum_below-apart g n j h in
    let is = sum_below-apart (raised g j gap) n j h in
    let here = raised_here g j gap j refl in
    let others = sum_below-same (without (raised g j gap) j) (without g j) n (λ k lt.
    ⊎_elim (λ (e : k ≡ j). without_here (raised g j gap) j k e ∙ sym (without_here g j k e))
    (λ (other : k ≡ j → ⊥). without_else (raised g j gap) j k other ∙ raised_else g j gap k other ∙ sym (without_else g j k other))
    (cases_eq k j)) in
    omega (arith, was, is, here, others)

-- the terms with that at j lessened
abbrev pub lessened : (ℕ → ℕ) → ℕ → ℕ → ℕ → ℕ
lessened g j gap k = cond (eqb k j) (g k - gap) (g k)

pub lessened_here : (g : ℕ → ℕ) (j gap k : ℕ) → k ≡ j → lessened g j gap k ≡ g k - gap
lessened_here g j gap k e = cond-true (eqb k j) (g k - gap) (g k) (eq-eqb k j e)

pub lessened_else : (g : ℕ → ℕ) (j gap k : ℕ) → (k ≡ j → ⊥) → lessened g j gap k ≡ g k
lessened_else g j gap k other = cond-false (eqb k j) (g k - gap) (g k) (ne_eqb k j other)

pub sum_below-lessened : (g : ℕ → ℕ) (n j gap : ℕ) → j < n → gap ≤ g j → sum_below (lessened g j gap) n + gap ≡ sum_below g n
sum_below-lessened g n j gap h le =
    let was = sum_below-apart g n j h in
    let is = sum_below-apart (lessened g j gap) n j h in
    let here = lessened_here g j gap j refl in
    let others = sum_below-same (without (lessened g j gap) j) (without g j) n (λ k lt.
    ⊎_elim (λ (e : k ≡ j). without_here (lessened g j gap) j k e ∙ sym (without_here g j k e))
    (λ (other : k ≡ j → ⊥). without_else (lessened g j gap) j k other ∙ lessened_else g j gap k other ∙ sym (without_else g j k other))
    (cases_eq k j)) in
    omega (arith, was, is, here, others, le)

-- the bound by dual variables: where each chosen term is at least what its numbers ask
pub sums_bound : (n m floor b : ℕ) (falls rises x f : ℕ → ℕ) → ((r : ℕ) → r < n → f r < m) → ((r s : ℕ) → r < s → s < n → f r ≡ f s → ⊥) → ((r : ℕ) → r < n → falls r ≤ x r + rises (f r)) → ((c : ℕ) → c < m → floor ≤ rises c) → b + sum_below rises m ≤ sum_below falls n + (m - n) * floor → b ≤ sum_below x n
sums_bound n m floor b falls rises x f below different above floored is =
    let rows = sum_below-le falls (λ r. x r + rises (f r)) n above in
    let apart = sum_below-add x (λ r. rises (f r)) n in
    let columns = sum_floored-le n rises f m floor below different floored in
    omega (arith, rows, apart, columns, is)
