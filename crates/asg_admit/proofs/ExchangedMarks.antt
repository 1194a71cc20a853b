-- Where columns leave at the steps at which rows enter, but for one that enters at once and one
-- that never leaves, the counts of a phase are right.
use Rattle.asg_admit.proofs.Common.{◌≡◌, ℕ, zero, suc, ◌+◌, ◌<◌, ◌≤◌, Bool, cond, ltb, leb, List, [], ◌∷◌, length, take, slice_index, sym, refl, ap, ◌∙◌, ⊎_elim, arith, take_all, le-ltb, lt-ltb, le-leb, cases_lt, length_permutation, lt-leb, sum_by-IsPermutation, sum_by-cons, sum_by_more, AreCounted, count_below, count_below-more}
use Rattle.std.specs.List.{sum_by}
use Rattle.std.specs.List.Sorted.{IsPermutation}

-- 1 where the number passes
abbrev one_if : (ℕ → Bool) → ℕ → ℕ
one_if p x = cond (p x) 1 0

-- how many places below the length have a number that passes
count_part : (p : ℕ → Bool) (xs : List ℕ) (n : ℕ) → n ≤ length xs → count_below (λ r. p (slice_index xs r)) n ≡ sum_by (one_if p) (take n xs)
count_part p xs zero h = refl
count_part p xs (suc n) h =
    let next : suc n ≡ n + 1 = omega arith in
    ap (count_below (λ r. p (slice_index xs r))) next
    ∙ count_below-more (λ r. p (slice_index xs r)) n
    ∙ ap (λ m. m + one_if p (slice_index xs n)) (count_part p xs n (omega (arith, h)))
    ∙ sym (sum_by_more (one_if p) xs n 0 (omega (arith, h)))
    ∙ ap (λ i. sum_by (one_if p) (take i xs)) (sym next)

count_all : (p : ℕ → Bool) (xs : List ℕ) → count_below (λ r. p (slice_index xs r)) (length xs) ≡ sum_by (one_if p) xs
count_all p xs = count_part p xs (length xs) (omega arith) ∙ ap (sum_by (one_if p)) (take_all (length xs) xs (omega arith))

-- each number is at most t or above it
both_counts : (t : ℕ) (xs : List ℕ) → sum_by (one_if (λ x. leb x t)) xs + sum_by (one_if (λ x. ltb t x)) xs ≡ length xs
both_counts t [] = refl
both_counts t (x ∷ xs) =
    let more = both_counts t xs in
    let low = sum_by-cons (one_if (λ y. leb y t)) x xs in
    let high = sum_by-cons (one_if (λ y. ltb t y)) x xs in
    ⊎_elim
    (λ (above : t < x).
    let a : one_if (λ y. leb y t) x ≡ 0 = ap (λ b. cond b 1 0) (lt-leb x t above) in
    let b : one_if (λ y. ltb t y) x ≡ 1 = ap (λ b. cond b 1 0) (lt-ltb t x above) in
    omega (arith, more, low, high, a, b))
    (λ (within : x ≤ t).
    let a : one_if (λ y. leb y t) x ≡ 1 = ap (λ b. cond b 1 0) (le-leb x t within) in
    let b : one_if (λ y. ltb t y) x ≡ 0 = ap (λ b. cond b 1 0) (le-ltb t x within) in
    omega (arith, more, low, high, a, b))
    (cases_lt t x)

pub exchanged_counted : (enters leaves : List ℕ) (n : ℕ) → IsPermutation (0 ∷ leaves) (n ∷ enters) → AreCounted enters leaves n
exchanged_counted enters leaves n same = λ t h.
    let low = λ (x : ℕ). leb x t in
    let rows = count_all low enters in
    let columns = count_all (λ x. ltb t x) leaves in
    let both = both_counts t leaves in
    let exchanged = sum_by-IsPermutation (one_if low) (0 ∷ leaves) (n ∷ enters) same in
    let first = sum_by-cons (one_if low) n enters in
    let last = sum_by-cons (one_if low) 0 leaves in
    let at_end : one_if low n ≡ 0 = ap (λ b. cond b 1 0) (lt-leb n t h) in
    let at_once : one_if low 0 ≡ 1 = ap (λ b. cond b 1 0) (le-leb 0 t (omega arith)) in
    let lengths : suc (length enters) ≡ suc (length leaves) = length_permutation (0 ∷ leaves) (n ∷ enters) same in
    omega (arith, rows, columns, both, exchanged, first, last, at_end, at_once, lengths)
