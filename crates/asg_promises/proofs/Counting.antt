-- Counting: different numbers of a list, and the elements that pass a test.
use Rattle.asg_promises.proofs.Common.{◌≡◌, ℕ, ◌<◌, ◌≤◌, Bool, true, false, cond, ◌≢◌, List, [], ◌∷◌, map, length, All, Contains, sum_by, count_by, filter, AllPairs, sym, refl, ap, ◌∙◌, arith, All-contains, All-filter, All-head, All-map, All-tail, AllPairs-filter, Decides-eqb, IsDistinct-from_AllPairs, filter_passes, get_or-map, is_member-Decides, length-filter, length-le_from_is_member, length-map, nat_eq_equiv, sum_by-cons}

-- elements with different numbers give different numbers
pub AllPairs-map : {X : Type 0} (g : X → ℕ) (xs : List X) → AllPairs (λ a b. g a ≢ g b) xs → AllPairs ◌≢◌ (map g xs)
AllPairs-map g [] apart = λ i j d h k. absurd (omega arith)
AllPairs-map g (x ∷ xs) apart =
    λ i j d h k.
    let below : j < length (x ∷ xs) = omega (arith, length-map (x ∷ xs) g, k) in
    λ e.
    apart i j x h below
    (sym (get_or-map g (x ∷ xs) i x d (omega arith)) ∙ e ∙ get_or-map g (x ∷ xs) j x d below)

-- elements whose different numbers all stand in a list are no more than it
pub length-le-within : {X : Type 0} (g : X → ℕ) (xs : List X) (ys : List ℕ) → AllPairs (λ a b. g a ≢ g b) xs → All (λ x. Contains ys (g x)) xs → length xs ≤ length ys
length-le-within g xs ys apart within =
    let most = length-le_from_is_member nat_eq_equiv (map g xs) ys (IsDistinct-from_AllPairs Decides-eqb (map g xs) (AllPairs-map g xs apart)) (λ q h. (is_member-Decides Decides-eqb ys q).1 (All-contains (Contains ys) (map g xs) q (All-map (Contains ys) g xs within) ((is_member-Decides Decides-eqb (map g xs) q).0 h))) in
    omega (arith, length-map xs g)

-- as many elements pass a test as numbers of a list at most, where different ones stand for those
-- that pass
pub count_by-le-within : {X : Type 0} (g : X → ℕ) (p : X → Bool) (xs : List X) (ys : List ℕ) → AllPairs (λ a b. g a ≢ g b) xs → All (λ x. p x ≡ true → Contains ys (g x)) xs → count_by p xs ≤ length ys
count_by-le-within g p xs ys apart within =
    let passing = filter p xs in
    let kept = AllPairs-filter (λ a b. g a ≢ g b) p xs apart in
    let all : All (λ x. Contains ys (g x)) passing = λ k d h. All-filter p (λ x. p x ≡ true → Contains ys (g x)) xs within k d h (filter_passes p xs k d h) in
    omega (arith, length-filter p xs, length-le-within g passing ys kept all)

-- sums of equal parts are equal
pub sum_by-same : {X : Type 0} (f g : X → ℕ) (xs : List X) → All (λ x. f x ≡ g x) xs → sum_by f xs ≡ sum_by g xs
sum_by-same f g [] same = refl
sum_by-same f g (x ∷ xs) same =
    let head = All-head (λ y. f y ≡ g y) x xs same in
    let rest = sum_by-same f g xs (All-tail (λ y. f y ≡ g y) x xs same) in
    omega (arith, sum_by-cons f x xs, sum_by-cons g x xs)

-- where all elements pass, as many pass as there are
pub count_by-all : {X : Type 0} (p : X → Bool) (xs : List X) → All (λ x. p x ≡ true) xs → count_by p xs ≡ length xs
count_by-all p [] all = refl
count_by-all p (x ∷ xs) all =
    let head : cond {A = ℕ} (p x) 1 0 ≡ 1 = ap (λ (b : Bool). cond {A = ℕ} b 1 0) (All-head (λ y. p y ≡ true) x xs all) in
    let rest = count_by-all p xs (All-tail (λ y. p y ≡ true) x xs all) in
    omega (arith, sum_by-cons (λ y. cond (p y) 1 0) x xs)

-- where no element passes, none is counted
pub count_by-none : {X : Type 0} (p : X → Bool) (xs : List X) → All (λ x. p x ≡ false) xs → count_by p xs ≡ 0
count_by-none p [] none = refl
count_by-none p (x ∷ xs) none =
    let head : cond {A = ℕ} (p x) 1 0 ≡ 0 = ap (λ (b : Bool). cond {A = ℕ} b 1 0) (All-head (λ y. p y ≡ false) x xs none) in
    let rest = count_by-none p xs (All-tail (λ y. p y ≡ false) x xs none) in
    omega (arith, sum_by-cons (λ y. cond (p y) 1 0) x xs)
