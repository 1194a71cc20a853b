-- The laws of sums and counts over the numbers below a bound.
use Rattle.std.specs.Prelude.{◌≡◌, ◌≢◌, ℕ, zero, suc, ◌+◌, ◌<◌, ◌≤◌, Bool, true, false, cond, eqb, List, [], ◌∷◌, length, get_or, All, AllPairs, Contains, refl, sum_by}
use Rattle.std.specs.List.{list_any}
use Rattle.std.proofs.Common.{sym, ap, subst, ◌∙◌, arith, ⊎_elim}
use Rattle.std.proofs.Math.Bool.{or-true}
use Rattle.std.specs.Cmp.{nat_eq_equiv}
use Rattle.std.proofs.lemmas.Bool.{cases_lt, eq-eqb, false≢true}
use Rattle.std.proofs.lemmas.Bool.Decides.{Decides-eqb}
use Rattle.std.proofs.lemmas.List.Sums.{sum_by-cons}
use Rattle.std.proofs.lemmas.List.Elements.{All-contains}
use Rattle.std.proofs.lemmas.Map.Views.{list_any-from_Contains, Contains-from_any}
use Rattle.std.proofs.lemmas.Map.Made.{length-le_from_is_member, IsDistinct-from_AllPairs}
use Rattle.asg_model.specs.Sums.{sum_below, passing_below, count_below}

-- sums that agree
pub sum_below-same : (f g : ℕ → ℕ) (n : ℕ) → ((k : ℕ) → k < n → f k ≡ g k) → sum_below f n ≡ sum_below g n
sum_below-same f g zero same = refl
sum_below-same f g (suc n) same =
    let rest = sum_below-same f g n (λ k h. same k (omega arith)) in
    let last = same n (omega arith) in
    omega (arith, rest, last)

-- a sum of larger terms is larger
pub sum_below-le : (f g : ℕ → ℕ) (n : ℕ) → ((k : ℕ) → k < n → f k ≤ g k) → sum_below f n ≤ sum_below g n
sum_below-le f g zero le = omega arith
sum_below-le f g (suc n) le =
    let rest = sum_below-le f g n (λ k h. le k (omega arith)) in
    let last = le n (omega arith) in
    omega (arith, rest, last)

-- the sum of sums
pub sum_below-add : (f g : ℕ → ℕ) (n : ℕ) → sum_below (λ k. f k + g k) n ≡ sum_below f n + sum_below g n
sum_below-add f g zero = omega arith
sum_below-add f g (suc n) = let rest = sum_below-add f g n in omega (arith, rest)

-- nothing added up
pub sum_below-zero : (n : ℕ) → sum_below (λ _. 0) n ≡ 0
sum_below-zero zero = refl
sum_below-zero (suc n) = let rest = sum_below-zero n in omega (arith, rest)

-- a table added up by rows or by columns
pub sum_below-exchange : (f : ℕ → ℕ → ℕ) (n m : ℕ) → sum_below (λ r. sum_below (f r) m) n ≡ sum_below (λ c. sum_below (λ r. f r c) n) m
sum_below-exchange f zero m = sym (sum_below-zero m)
sum_below-exchange f (suc n) m =
    let rest = sum_below-exchange f n m in
    let both = sum_below-add (λ c. sum_below (λ r. f r c) n) (f n) m in
    omega (arith, rest, both)

-- each term is within the sum
pub term-le-sum_below : (f : ℕ → ℕ) (n k : ℕ) → k < n → f k ≤ sum_below f n
term-le-sum_below f zero k h = absurd (omega arith)
term-le-sum_below f (suc n) k h =
    ⊎_elim
    (λ (below : k < n). let rest = term-le-sum_below f n k below in omega (arith, rest))
    (λ (from : n ≤ k). let here : k ≡ n = omega arith in let last = ap f here in omega (arith, last))
    (cases_lt k n)

-- the first term, and the others
pub sum_below-first : (f : ℕ → ℕ) (n : ℕ) → sum_below f (suc n) ≡ f 0 + sum_below (λ k. f (suc k)) n
sum_below-first f zero = omega arith
sum_below-first f (suc n) = let rest = sum_below-first f n in omega (arith, rest)

-- the sum over a list is a sum over its places
pub sum_by-below : {X : Type 0} (f : X → ℕ) (xs : List X) (d : X) → sum_by f xs ≡ sum_below (λ k. f (get_or xs k d)) (length xs)
sum_by-below f [] d = refl
sum_by-below f (x ∷ xs) d =
    let rest = sum_by-below f xs d in
    let first = sum_by-cons f x xs in
    let shifted = sum_below-first (λ k. f (get_or (x ∷ xs) k d)) (length xs) in
    omega (arith, rest, first, shifted)

length-passing_cond : (b : Bool) (n : ℕ) (xs : List ℕ) (m : ℕ) → length xs ≡ m → length (cond b (n ∷ xs) xs) ≡ m + cond b 1 0
length-passing_cond true n xs m e = omega (arith, e)
length-passing_cond false n xs m e = omega (arith, e)

pub length-passing_below : (p : ℕ → Bool) (n : ℕ) → length (passing_below p n) ≡ count_below p n
length-passing_below p zero = refl
length-passing_below p (suc n) = length-passing_cond (p n) n (passing_below p n) (count_below p n) (length-passing_below p n)

has_more : (b : Bool) (q n : ℕ) (xs : List ℕ) → list_any (eqb q) xs ≡ true → list_any (eqb q) (cond b (n ∷ xs) xs) ≡ true
has_more true q n xs e = rw e (or-true (eqb q n))
has_more false q n xs e = e

has_here : (b : Bool) (n : ℕ) (xs : List ℕ) → b ≡ true → list_any (eqb n) (cond b (n ∷ xs) xs) ≡ true
has_here true n xs e = rw (eq-eqb n n refl) refl
has_here false n xs e = absurd (false≢true e)

pub passing_has : (p : ℕ → Bool) (n q : ℕ) → q < n → p q ≡ true → list_any (eqb q) (passing_below p n) ≡ true
passing_has p zero q h passes = absurd (omega arith)
passing_has p (suc n) q h passes =
    ⊎_elim
    (λ (below : q < n). has_more (p n) q n (passing_below p n) (passing_has p n q below passes))
    (λ (from : n ≤ q).
    let here : n ≡ q = omega arith in
    subst (λ k. list_any (eqb k) (cond (p n) (n ∷ passing_below p n) (passing_below p n)) ≡ true) here
    (has_here (p n) n (passing_below p n) (ap p here ∙ passes)))
    (cases_lt q n)

-- different numbers of a list that all stand in another are no more than the other has
pub length-le_within : (xs ys : List ℕ) → AllPairs ◌≢◌ xs → ((q : ℕ) → list_any (eqb q) xs ≡ true → list_any (eqb q) ys ≡ true) → length xs ≤ length ys
length-le_within xs ys apart within = length-le_from_is_member nat_eq_equiv xs ys (IsDistinct-from_AllPairs Decides-eqb xs apart) within

-- the same, in the words of what a list contains
pub length-le_contains : (xs ys : List ℕ) → AllPairs ◌≢◌ xs → All (Contains ys) xs → length xs ≤ length ys
length-le_contains xs ys apart all =
    length-le_within xs ys apart (λ q e.
    list_any-from_Contains nat_eq_equiv q ys
    (All-contains (Contains ys) xs q all (Contains-from_any (λ x y same. (Decides-eqb x y).0 same) q xs e)))

-- different numbers below n that pass a test are no more than there are
pub length-le-count_below : (p : ℕ → Bool) (n : ℕ) (xs : List ℕ) → AllPairs ◌≢◌ xs → ((q : ℕ) → list_any (eqb q) xs ≡ true → (q < n) × (p q ≡ true)) → length xs ≤ count_below p n
length-le-count_below p n xs apart within =
    let le = length-le_within xs (passing_below p n) apart (λ q h. passing_has p n q (within q h).0 (within q h).1) in
    let size = length-passing_below p n in
    omega (arith, le, size)
