-- `descending` is the one rearrangement of a list that goes down, so it is the sorted list turned
-- round.
use Rattle.asg_values.proofs.Common.{◌≡◌, ℕ, zero, suc, ◌+◌, ◌-◌, ◌<◌, ◌≤◌, Bool, true, false, cond, ◌≢◌, List, [], ◌∷◌, reverse, length, get_or, ℤ, pos, ◌≤ℤ◌, ◌<ℤ◌, int_lt, count_by, IsPermutation, IsSorted, int_cmp, int_eq, is_lt, sym, refl, ap, ◌∙◌, arith, AllByRecursion, Decides-int_eq, IsPermutation-cons, IsPermutation-middle, IsPermutation-refl, IsPermutation-reverse, IsPermutation-trans, by_lt_z, false_from_ne_true, false≢true, get_or-reverse, int_cmp_total, ints, length-reverse, ranks_by, sorted_far, sum_by-IsPermutation, sum_by-cons, ⊤, with_descending, descending, IsDescending, less_is}

-- no number is above one that stands before it, head by head
abbrev Descends : List ℤ → Type 0
Descends [] = ⊤
Descends (x ∷ xs) = AllByRecursion (λ y. y ≤ℤ x) xs × Descends xs

-- how often a number stands in a list
abbrev times : ℤ → List ℤ → ℕ
times z xs = count_by (λ x. int_eq x z) xs

times-cons : (z x : ℤ) (xs : List ℤ) → times z (x ∷ xs) ≡ cond (int_eq x z) 1 0 + times z xs
times-cons z x xs = sum_by-cons (λ y. cond (int_eq y z) 1 0) x xs

int_eq-same : (z : ℤ) → int_eq z z ≡ true
int_eq-same z = (Decides-int_eq z z).1 refl

int_eq-other : (x z : ℤ) → x ≢ z → int_eq x z ≡ false
int_eq-other x z apart = false_from_ne_true (int_eq x z) (λ e. apart ((Decides-int_eq x z).0 e))

times-here : (z : ℤ) (xs : List ℤ) → times z (z ∷ xs) ≡ 1 + times z xs
times-here z xs = times-cons z z xs ∙ ap (λ b. cond {A = ℕ} b 1 0 + times z xs) (int_eq-same z)

times-other : (z x : ℤ) (xs : List ℤ) → x ≢ z → times z (x ∷ xs) ≡ times z xs
times-other z x xs apart = times-cons z x xs ∙ ap (λ b. cond {A = ℕ} b 1 0 + times z xs) (int_eq-other x z apart) ∙ omega arith

at_most_when_less : (y x : ℤ) → int_lt y x ≡ true → y ≤ℤ x
at_most_when_less y x e = grind (arith, ints)

at_most_when_not : (y x : ℤ) → int_lt y x ≡ false → x ≤ℤ y
at_most_when_not y x e = grind (arith, ints)

not_both : (x y z : ℤ) → x <ℤ z → y ≤ℤ x → y ≡ z → ⊥
not_both x y z above at_most same = omega (arith, ints)

times_tails : (z x y : ℤ) (xs ys : List ℤ) → x ≡ y → times z (x ∷ xs) ≡ times z (y ∷ ys) → times z xs ≡ times z ys
times_tails z x y xs ys heads same =
    let one = times-cons z x xs in
    let other = times-cons z y ys in
    let heads_count = ap (λ h. cond {A = ℕ} (int_eq h z) 1 0) heads in
    omega (arith, one, other, heads_count, same)

-- a number above all of a list stands nowhere in it
times-above : (x z : ℤ) (xs : List ℤ) → x <ℤ z → AllByRecursion (λ y. y ≤ℤ x) xs → times z xs ≡ 0
times-above x z [] above all = refl
times-above x z (y ∷ ys) above all =
    times-other z y ys (λ e. absurd (not_both x y z above all.0 e)) ∙ times-above x z ys above all.1

-- a list that goes down and one with a greater head differ in how often that head stands there
heads_same : (x y : ℤ) (xs ys : List ℤ) → Descends (x ∷ xs) → ((z : ℤ) → times z (x ∷ xs) ≡ times z (y ∷ ys)) → x <ℤ y → ⊥
heads_same x y xs ys down same below =
    let none = times-other y x xs (λ e. absurd (not_both x x y below (omega (arith, ints)) e)) ∙ times-above x y xs below down.0 in
    let one = times-here y ys in
    let both = same y in
    omega (arith, none, one, both)

-- lists that go down and have each number equally often are the same
unique : (xs ys : List ℤ) → Descends xs → Descends ys → ((z : ℤ) → times z xs ≡ times z ys) → xs ≡ ys
unique [] [] dx dy same = refl
unique [] (y ∷ ys) dx dy same = let one = times-here y ys in let both = same y in absurd (omega (arith, one, both))
unique (x ∷ xs) [] dx dy same = let one = times-here x xs in let both = same x in absurd (omega (arith, one, both))
unique (x ∷ xs) (y ∷ ys) dx dy same =
    let heads : x ≡ y = by_lt_z x y (λ below. absurd (heads_same x y xs ys dx same below)) (λ above. by_lt_z y x (λ below. absurd (heads_same y x ys xs dy (λ z. sym (same z)) below)) (λ up. omega (arith, ints))) in
    let tails = unique xs ys dx.1 dy.1 (λ z. times_tails z x y xs ys heads (same z)) in
    ap (λ h. h ∷ xs) heads ∙ ap (λ t. y ∷ t) tails

at_most_of : (x y z : ℤ) → y ≤ℤ x → z ≤ℤ y → z ≤ℤ x
at_most_of x y z h k = omega (arith, ints)

with_bound_cases : (x b y : ℤ) (ys : List ℤ) (c : Bool) → x ≤ℤ b → y ≤ℤ b → AllByRecursion (λ y. y ≤ℤ b) ys → AllByRecursion (λ y. y ≤ℤ b) (with_descending x ys) → AllByRecursion (λ y. y ≤ℤ b) (cond c (x ∷ (y ∷ ys)) (y ∷ with_descending x ys))
with_bound_cases x b y ys true h hy all more = (h, (hy, all))
with_bound_cases x b y ys false h hy all more = (hy, more)

all_weaker : (x y : ℤ) (ys : List ℤ) → y ≤ℤ x → AllByRecursion (λ z. z ≤ℤ y) ys → AllByRecursion (λ z. z ≤ℤ x) ys
all_weaker x y [] h all = tt
all_weaker x y (z ∷ zs) h all = (at_most_of x y z h all.0, all_weaker x y zs h all.1)

with_bound : (x b : ℤ) (ys : List ℤ) → x ≤ℤ b → AllByRecursion (λ y. y ≤ℤ b) ys → AllByRecursion (λ y. y ≤ℤ b) (with_descending x ys)
with_bound x b [] h all = (h, tt)
with_bound x b (y ∷ ys) h all = with_bound_cases x b y ys (int_lt y x) h all.0 all.1 (with_bound x b ys h all.1)

Descends_cases : (x y : ℤ) (ys : List ℤ) (c : Bool) → int_lt y x ≡ c → Descends (y ∷ ys) → Descends (with_descending x ys) → Descends (cond c (x ∷ (y ∷ ys)) (y ∷ with_descending x ys))
Descends_cases x y ys true e down more = let h : y ≤ℤ x = at_most_when_less y x e in ((h, all_weaker x y ys h down.0), down)
Descends_cases x y ys false e down more = (with_bound x y ys (at_most_when_not y x e) down.0, more)

Descends-with : (x : ℤ) (ys : List ℤ) → Descends ys → Descends (with_descending x ys)
Descends-with x [] down = (tt, tt)
Descends-with x (y ∷ ys) down = Descends_cases x y ys (int_lt y x) refl down (Descends-with x ys down.1)

Descends-descending : (xs : List ℤ) → Descends (descending xs)
Descends-descending [] = tt
Descends-descending (x ∷ xs) = Descends-with x (descending xs) (Descends-descending xs)

below_head : (x : ℤ) (xs : List ℤ) → ((k : ℕ) → k < length xs → get_or xs k (pos 0) ≤ℤ x) → AllByRecursion (λ y. y ≤ℤ x) xs
below_head x [] all = tt
below_head x (y ∷ ys) all = (all 0 (omega arith), below_head x ys (λ k within. all (suc k) (omega arith)))

-- a list that goes down by its places goes down by its heads
Descends-from_places : (xs : List ℤ) → IsDescending xs → Descends xs
Descends-from_places [] down = tt
Descends-from_places (x ∷ xs) down = (
  below_head x xs (λ k within. down 0 (suc k) (omega arith) (omega arith)),
  Descends-from_places xs (λ i j before within. down (suc i) (suc j) (omega arith) (omega arith)),
)

at_most_head : (x : ℤ) (xs : List ℤ) → AllByRecursion (λ y. y ≤ℤ x) xs → (k : ℕ) → k < length xs → get_or xs k (pos 0) ≤ℤ x
at_most_head x [] all k within = absurd (omega arith)
at_most_head x (y ∷ ys) all zero within = all.0
at_most_head x (y ∷ ys) all (suc k) within = at_most_head x ys all.1 k (omega arith)

-- and the other way round
IsDescending-from_heads : (xs : List ℤ) → Descends xs → IsDescending xs
IsDescending-from_heads [] down i j before within = absurd (omega arith)
IsDescending-from_heads (x ∷ xs) down i zero before within = absurd (omega arith)
IsDescending-from_heads (x ∷ xs) down zero (suc j) before within = at_most_head x xs down.0 j (omega arith)
IsDescending-from_heads (x ∷ xs) down (suc i) (suc j) before within = IsDescending-from_heads xs down.1 i j (omega arith) (omega arith)

not_less : (x y : ℤ) → is_lt (int_cmp x y) ≡ false → y ≤ℤ x
not_less x y e = by_lt_z x y (λ below. absurd (false≢true (sym e ∙ less_is x y below))) (λ up. up)

sorted_places : (xs : List ℤ) → IsSorted int_cmp xs → (i j : ℕ) (d : ℤ) → i ≤ j → j < length xs → get_or xs i d ≤ℤ get_or xs j d
sorted_places xs up i j d before within =
    not_less (get_or xs j d) (get_or xs i d) (sorted_far (λ x y. is_lt (int_cmp x y)) (ranks_by int_cmp_total (λ x. x)) xs up i j d before within)

IsDescending-reverse : (xs : List ℤ) → IsSorted int_cmp xs → IsDescending (reverse xs)
IsDescending-reverse xs up i j before within =
    let inside : j < length xs = omega (arith, within, length-reverse xs) in
    let at_i = get_or-reverse xs i (pos 0) (omega (arith, before, inside)) in
    let at_j = get_or-reverse xs j (pos 0) inside in
    rw (at_i, at_j) (sorted_places xs up (length xs - 1 - j) (length xs - 1 - i) (pos 0) (omega (arith, before, inside)) (omega (arith, before, inside)))

moved_cases : (x y : ℤ) (ys : List ℤ) (c : Bool) → IsPermutation (x ∷ ys) (with_descending x ys) → IsPermutation (x ∷ (y ∷ ys)) (cond c (x ∷ (y ∷ ys)) (y ∷ with_descending x ys))
moved_cases x y ys true moved = IsPermutation-refl (x ∷ (y ∷ ys))
moved_cases x y ys false moved =
    IsPermutation-trans _ _ _ (IsPermutation-middle (x ∷ []) y ys) (IsPermutation-cons y (x ∷ ys) (with_descending x ys) moved)

moved_with : (x : ℤ) (ys : List ℤ) → IsPermutation (x ∷ ys) (with_descending x ys)
moved_with x [] = IsPermutation-refl (x ∷ [])
moved_with x (y ∷ ys) = moved_cases x y ys (int_lt y x) (moved_with x ys)

-- `descending` has the elements of the list
pub IsPermutation-descending : (xs : List ℤ) → IsPermutation xs (descending xs)
IsPermutation-descending [] = IsPermutation-refl []
IsPermutation-descending (x ∷ xs) =
    IsPermutation-trans _ _ _ (IsPermutation-cons x xs (descending xs) (IsPermutation-descending xs)) (moved_with x (descending xs))

-- and goes down
pub IsDescending-descending : (xs : List ℤ) → IsDescending (descending xs)
IsDescending-descending xs = IsDescending-from_heads (descending xs) (Descends-descending xs)

-- no other list that has the elements goes down
pub descending_only : (xs ys : List ℤ) → IsPermutation xs ys → IsDescending ys → ys ≡ descending xs
descending_only xs ys moved down =
    unique ys (descending xs) (Descends-from_places ys down) (Descends-descending xs)
    (λ z. sum_by-IsPermutation (λ x. cond (int_eq x z) 1 0) xs ys moved
    ∙ sym (sum_by-IsPermutation (λ x. cond (int_eq x z) 1 0) xs (descending xs) (IsPermutation-descending xs)))

-- a list, sorted and turned round, is the list in non-increasing order
pub reverse-sorted_is : (xs ys zs : List ℤ) → IsPermutation xs ys → IsSorted int_cmp ys → zs ≡ reverse ys → zs ≡ descending xs
reverse-sorted_is xs ys zs moved up turned =
    turned
    ∙ descending_only xs (reverse ys) (IsPermutation-trans xs ys (reverse ys) moved (IsPermutation-reverse ys)) (IsDescending-reverse ys up)
