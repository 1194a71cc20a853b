-- Sums and counts over the numbers below a bound.
use Rattle.std.specs.Prelude.{ℕ, zero, suc, ◌+◌, Bool, cond, List, [], ◌∷◌}

-- f added up over the numbers below n
abbrev pub sum_below : (ℕ → ℕ) → ℕ → ℕ
sum_below f zero = 0
sum_below f (suc n) = sum_below f n + f n

-- the number of a fact, 1 where it holds
abbrev pub one : Bool → ℕ
one b = cond b 1 0

-- the numbers below n that pass a test
abbrev pub passing_below : (ℕ → Bool) → ℕ → List ℕ
passing_below p zero = []
passing_below p (suc n) = cond (p n) (n ∷ passing_below p n) (passing_below p n)

-- how many numbers below n pass a test
abbrev pub count_below : (ℕ → Bool) → ℕ → ℕ
count_below p n = sum_below (λ k. cond (p k) 1 0) n
