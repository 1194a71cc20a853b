-- Different elements that all stand in a list are no more than it has.
use Rattle.asg_brief.proofs.Common.{◌≡◌, ℕ, suc, ◌+◌, ◌-◌, ◌<◌, ◌≤◌, ◌≢◌, ◌⊎◌, List, [], ◌∷◌, length, get_or, All, Contains, remove, AllPairs, sym, ap, ◌∙◌, ⊎_elim, arith, All-cons, All-nil, cases_lt, get_or-remove_above, get_or-remove_below, get_or_default, length-remove}

-- an element other than the removed one stays
Contains-removed : {A : Type 0} (ys : List A) (i : ℕ) (x y : A) → i < length ys → get_or ys i x ≡ x → x ≢ y → Contains ys y → Contains (remove ys i) y
Contains-removed ys i x y within is differ (k, low, at) =
    let left : length (remove ys i) + 1 ≡ length ys = length-remove ys i within in
    ⊎_elim
    (λ (before : k < i). (k, omega (arith, left, before, within), get_or-remove_below ys i y k before within ∙ at))
    (λ (from : i ≤ k).
    ⊎_elim
    (λ (behind : i < k).
    let place : k - 1 + 1 ≡ k = omega (arith, behind) in
    (k - 1, omega (arith, left, low, behind), get_or-remove_above ys i y (k - 1) (omega (arith, behind)) within ∙ ap (λ j. get_or ys j y) place ∙ at))
    (λ (upto : k ≤ i).
    let same : i ≡ k = omega (arith, from, upto) in
    absurd (differ (sym is ∙ get_or_default ys i x y within ∙ ap (λ j. get_or ys j y) same ∙ at)))
    (cases_lt i k))
    (cases_lt k i)

pub fewer : {A : Type 0} (xs ys : List A) → AllPairs ◌≢◌ xs → All (Contains ys) xs → length xs ≤ length ys
fewer [] ys apart all = omega arith
fewer {A} (x ∷ xs) ys apart all =
    let here : Contains ys x = all 0 x (omega arith) in
    let left : length (remove ys here.0) + 1 ≡ length ys = length-remove ys here.0 here.1 in
    let rest : All (Contains (remove ys here.0)) xs = λ k d within. Contains-removed ys here.0 x (get_or xs k d) here.1 here.2 (apart 0 (suc k) d (omega arith) (omega (arith, within))) (all (suc k) d (omega (arith, within))) in
    let fewer_left : length xs ≤ length (remove ys here.0) = fewer xs (remove ys here.0) (λ i j d less within. apart (suc i) (suc j) d (omega (arith, less)) (omega (arith, within))) rest in
    omega (arith, fewer_left, left)

-- where it can't be that one element fails, it can't be that not all pass
pub all_not_not : {A : Type 0} (P : A → Type 0) (xs : List A) → ((k : ℕ) (d : A) → k < length xs → ¬ ¬ P (get_or xs k d)) → ¬ ¬ All P xs
all_not_not P [] each fails = fails (All-nil P)
all_not_not P (x ∷ xs) each fails =
    each 0 x (omega arith) (λ (passes : P x). all_not_not P xs (λ k d within. each (suc k) d (omega (arith, within))) (λ (rest : All P xs). fails (All-cons P x xs passes rest)))
