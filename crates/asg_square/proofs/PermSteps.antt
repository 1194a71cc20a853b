-- Steps of the loops that make an assignment.
use Rattle.asg_square.proofs.Common.{◌≡◌, ℕ, zero, suc, ◌+◌, ◌-◌, ◌<◌, ◌≤◌, Bool, true, false, cond, not, List, [], ◌∷◌, ◌++◌, map, length, get_or, IfSome, Some, None, All, Option, option_map, sym, refl, ap, ◌∙◌, ⊎_elim, append_assoc, arith, cases_lt, get_or-map-range_with_len, get_or_past, length-map-range_with_len, range_with_len, IsPlaceInRange, Problem, square_side, count_below, passing_below, one, IsValid, own_copy, takers_before, completed, is_free, free_columns, first_copy}
use Rattle.asg_square.proofs.ValidPerfect.{own_within}

-- one more number
pub count_more : (p : ℕ → Bool) (n : ℕ) → count_below p (n + 1) ≡ count_below p n + one (p n)
count_more p n = let k : n + 1 ≡ suc n = omega arith in ap (count_below p) k

down_to : (q : ℕ → Bool) (n i c : ℕ) → i < n → c ≡ n - 1 - i → passing_below q (n - i) ≡ cond (q c) (c ∷ passing_below q c) (passing_below q c)
down_to q n i c h e = let k : n - i ≡ suc c = omega arith in ap (passing_below q) k

pub down_yes : (q : ℕ → Bool) (n i c : ℕ) (xs all : List ℕ) → i < n → c ≡ n - 1 - i → xs ++ passing_below q (n - i) ≡ all → q c ≡ true → (xs ++ c ∷ []) ++ passing_below q (n - (i + 1)) ≡ all
down_yes q n i c xs all h e so passes =
    let k : n - (i + 1) ≡ c = omega arith in
    ap (λ m. (xs ++ c ∷ []) ++ passing_below q m) k
    ∙ append_assoc xs (c ∷ []) (passing_below q c)
    ∙ ap (λ ys. xs ++ ys) (sym (down_to q n i c h e ∙ ap (λ b. cond b (c ∷ passing_below q c) (passing_below q c)) passes))
    ∙ so

pub down_no : (q : ℕ → Bool) (n i c : ℕ) (xs all : List ℕ) → i < n → c ≡ n - 1 - i → xs ++ passing_below q (n - i) ≡ all → q c ≡ false → xs ++ passing_below q (n - (i + 1)) ≡ all
down_no q n i c xs all h e so other =
    let k : n - (i + 1) ≡ c = omega arith in
    ap (λ m. xs ++ passing_below q m) k
    ∙ ap (λ ys. xs ++ ys) (sym (down_to q n i c h e ∙ ap (λ b. cond b (c ∷ passing_below q c) (passing_below q c)) other))
    ∙ so

-- tests that agree below n pass the same numbers
pub passing-same : (p q : ℕ → Bool) (n : ℕ) → ((k : ℕ) → k < n → p k ≡ q k) → passing_below p n ≡ passing_below q n
passing-same p q zero same = refl
passing-same p q (suc n) same =
    ap (λ b. cond b (n ∷ passing_below p n) (passing_below p n)) (same n (omega arith))
    ∙ ap (λ xs. cond (q n) (n ∷ xs) xs) (passing-same p q n (λ k h. same k (omega arith)))

pub not-not : (b : Bool) → not (not b) ≡ b
not-not true = refl
not-not false = refl

-- the own copies as a list and as a function
pub own_list_is : (X : Problem) (f : List (Option ℕ)) (side : ℕ) → length f ≤ side → (r : ℕ) → get_or (map (own_copy X f) (range_with_len 0 side)) r None ≡ own_copy X f r
own_list_is X f side within r =
    let size = length-map-range_with_len (own_copy X f) 0 side in
    ⊎_elim
    (λ (below : r < side). get_or-map-range_with_len (own_copy X f) 0 side r r None below (omega arith))
    (λ (past : side ≤ r).
    get_or_past (map (own_copy X f) (range_with_len 0 side)) r None (omega (arith, size))
    ∙ sym (ap (option_map (λ d. first_copy X d + takers_before f d r)) (get_or_past f r None (omega arith))))
    (cases_lt r side)

pub completed_list_is : (X : Problem) (f own : List (Option ℕ)) (side : ℕ) → length f ≤ side → own ≡ map (own_copy X f) (range_with_len 0 side) → map (completed (λ r. get_or own r None) (length own)) (range_with_len 0 (length own)) ≡ map (completed (own_copy X f) side) (range_with_len 0 side)
completed_list_is X f own side within are =
    let size : length own ≡ side = ap length are ∙ length-map-range_with_len (own_copy X f) 0 side in
    let same : (r : ℕ) → get_or own r None ≡ own_copy X f r = λ r. ap (λ xs. get_or xs r None) are ∙ own_list_is X f side within r in
    let path : (λ (r : ℕ). get_or own r None) ≡ own_copy X f = λ i r. same r i in
    ap (λ g. map (completed g (length own)) (range_with_len 0 (length own))) path
    ∙ ap (λ n. map (completed (own_copy X f) n) (range_with_len 0 n)) size

IfSome-from : {A : Type 0} (P : A → Type 0) (o : Option A) → ((x : A) → o ≡ Some x → P x) → IfSome o P
IfSome-from P None each = tt
IfSome-from P (Some x) each = each x refl

pub own_list_within : (X : Problem) (f own : List (Option ℕ)) → IsValid X f → IsPlaceInRange X X.place → own ≡ map (own_copy X f) (range_with_len 0 (square_side X)) → All (λ o. IfSome o (λ c. c < length own)) own
own_list_within X f own valid range are k d h =
    let side = square_side X in
    let size : length own ≡ side = ap length are ∙ length-map-range_with_len (own_copy X f) 0 side in
    let below : k < side = omega (arith, size) in
    let at : get_or own k d ≡ own_copy X f k = ap (λ xs. get_or xs k d) are ∙ get_or-map-range_with_len (own_copy X f) 0 side k k d below (omega arith) in
    IfSome-from (λ c. c < length own) (get_or own k d)
    (λ c e. let within = own_within X f valid range k c below (sym at ∙ e) in omega (arith, size, within))

-- the columns that aren't marked are the free ones
pub free_list_is : (own : List (Option ℕ)) (taken : List Bool) → length taken ≡ length own → ((c : ℕ) → c < length own → get_or taken c false ≡ not (is_free (λ r. get_or own r None) (length own) c)) → passing_below (λ c. not (get_or taken c false)) (length taken) ≡ free_columns (λ r. get_or own r None) (length own)
free_list_is own taken size marks =
    ap (passing_below (λ c. not (get_or taken c false))) size
    ∙ passing-same (λ c. not (get_or taken c false)) (is_free (λ r. get_or own r None) (length own)) (length own)
    (λ c h. ap not (marks c h) ∙ not-not (is_free (λ r. get_or own r None) (length own) c))
