-- Elements of lists that pass a test, and sums over elements with their places.
use Rattle.std.proofs.Common.{◌≡◌, ℕ, suc, ◌+◌, ◌<◌, ◌≤◌, ◌⊎◌, Bool, true, false, cond, ◌||◌, List, [], ◌∷◌, length, get_or, take, slice_get, Some, count_by, refl, ap, ◌∙◌, inl, inr, arith, zero-add}
use Rattle.std.specs.List.{list_any, enumerate_from}
use Rattle.std.proofs.lemmas.Bool.{false≢true}
use Rattle.std.proofs.lemmas.List.{take_all}
use Rattle.std.proofs.lemmas.List.FromFn.{get_or-enumerate_from, length-enumerate_from}
use Rattle.std.proofs.lemmas.List.Sums.{sum_by-cons, sum_by_more}
use Rattle.std.specs.List.{sum_by}

-- some element of a list passes
abbrev pub Found : {A : Type 0} → (A → Bool) → List A → Type 0
Found {A} p xs = (k : ℕ) × (k < length xs) × ((d : A) → p (get_or xs k d) ≡ true)

found_more : {A : Type 0} (p : A → Bool) (x : A) (xs : List A) (b : Bool) → p x ≡ b → (b || list_any p xs) ≡ true → (list_any p xs ≡ true → Found p xs) → Found p (x ∷ xs)
found_more p x xs true here e later = (0, omega arith, λ d. here)
found_more p x xs false here e later =
    let found = later e in
    (suc found.0, omega (arith, found.1), λ d. found.2 d)

pub list_any-found : {A : Type 0} (p : A → Bool) (xs : List A) → list_any p xs ≡ true → Found p xs
list_any-found p [] e = absurd (false≢true e)
list_any-found p (x ∷ xs) e = found_more p x xs (p x) refl e (list_any-found p xs)

-- the same, with the element
abbrev pub Passes : {A : Type 0} → (A → Bool) → List A → Type 0
Passes {A} p xs = (k : ℕ) × (x : A) × (slice_get xs k ≡ Some x) × (p x ≡ true)

-- one more element passes, or the count stays
count_more : {A : Type 0} (p : A → Bool) (x : A) (xs : List A) (b : Bool) → p x ≡ b → (count_by p xs ≡ 0) ⊎ Passes p xs → (count_by p (x ∷ xs) ≡ 0) ⊎ Passes p (x ∷ xs)
count_more p x xs true e r = inr (0, x, refl, e)
count_more p x xs false e (inl none) =
    inl (let step = sum_by-cons (λ y. cond (p y) 1 0) x xs in let fails : cond {A = ℕ} (p x) 1 0 ≡ 0 = ap (λ (b : Bool). cond {A = ℕ} b 1 0) e in omega arith)
count_more p x xs false e (inr (k, y, at, passes)) = inr (suc k, y, at, passes)

-- a count is 0, or some element passes
pub count_by_found : {A : Type 0} (p : A → Bool) (xs : List A) → (count_by p xs ≡ 0) ⊎ Passes p xs
count_by_found p [] = inl refl
count_by_found p (x ∷ xs) = count_more p x xs (p x) refl (count_by_found p xs)

-- ---- elements with their places

pub sum_by-enumerate_more : {X : Type 0} (g : ℕ × X → ℕ) (xs : List X) (i : ℕ) (d : X) → i < length xs → sum_by g (take (i + 1) (enumerate_from 0 xs)) ≡ sum_by g (take i (enumerate_from 0 xs)) + g (i, get_or xs i d)
sum_by-enumerate_more g xs i d lt =
    let within : i < length (enumerate_from 0 xs) = omega (arith, length-enumerate_from 0 xs) in
    let item = get_or-enumerate_from 0 xs i (0, d) lt in
    sum_by_more g (enumerate_from 0 xs) i (0, d) within
    ∙ ap (λ e. sum_by g (take i (enumerate_from 0 xs)) + g e) (item ∙ ap (λ k. (k, get_or xs i d)) (zero-add i))

pub take-enumerate_all : {X : Type 0} (xs : List X) (i : ℕ) → length xs ≤ i → take i (enumerate_from 0 xs) ≡ enumerate_from 0 xs
take-enumerate_all xs i all = take_all i (enumerate_from 0 xs) (omega (arith, length-enumerate_from 0 xs))

-- a part that is there only where a test is true
pub part-le : (b : Bool) (m n : ℕ) → (b ≡ true → m ≤ n) → cond b m 0 ≤ n
part-le true m n h = h refl
part-le false m n h = omega arith
