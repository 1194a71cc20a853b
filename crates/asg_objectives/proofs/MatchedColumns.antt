-- The columns of a matching that gives each row one.
use Rattle.asg_objectives.proofs.Common.{◌≡◌, ℕ, ◌+◌, ◌<◌, ◌≢◌, List, [], ◌∷◌, ◌++◌, length, get_or, IfOk, Ok, Err, Option, Result, AllPairs, sym, ap, ◌∙◌, subst, ⊎_elim, arith, cases_lt, get_or-append_seam, get_or_append_left, get_or_default, Matches, IsMatching, IsPerfect, IsPresent, Grid, cell_at, IsPerm}

pub IfOk-both : {X Y : Type 0} (r : Result X Y) (P Q R : X → Type 0) → ((x : X) → P x → Q x → R x) → IfOk r P → IfOk r Q → IfOk r R
IfOk-both (Ok x) P Q R both h k = both x h k
IfOk-both (Err y) P Q R both h k = tt

-- the columns with that of one more row
pub columns_more : (m : List (Option ℕ)) (columns : List ℕ) (r c : ℕ) → length columns ≡ r → ((k : ℕ) → k < r → Matches m k (get_or columns k 0)) → Matches m r c → (k : ℕ) → k < r + 1 → Matches m k (get_or (columns ++ c ∷ []) k 0)
columns_more m columns r c count all has k h =
    ⊎_elim
    (λ (before : k < r). subst (Matches m k) (sym (get_or_append_left columns (c ∷ []) 0 k (omega (arith, count, before)))) (all k before))
    (λ from.
    let e : r ≡ k = omega (arith, from, h) in
    subst (λ i. Matches m i (get_or (columns ++ c ∷ []) i 0)) e
    (subst (Matches m r) (sym (ap (λ n. get_or (columns ++ c ∷ []) n 0) (sym count) ∙ get_or-append_seam columns c [] 0)) has))
    (cases_lt k r)

-- different rows have different columns
columns_apart : (m : List (Option ℕ)) (p : List ℕ) → IsMatching m → length p ≡ length m → ((r : ℕ) → r < length m → Matches m r (get_or p r 0)) → AllPairs ◌≢◌ p
columns_apart m p whole count has i j d before within e =
    let hj : j < length m = omega (arith, within, count) in
    let hi : i < length m = omega (arith, before, hj) in
    let same : get_or p i 0 ≡ get_or p j 0 = get_or_default p i 0 d (omega (arith, hi, count)) ∙ e ∙ sym (get_or_default p j 0 d within) in
    absurd (omega (arith, before, whole.apart i j (get_or p i 0) (has i hi) (subst (Matches m j) (sym same) (has j hj))))

-- the columns of a perfect assignment by present cells of a square
pub IsPerm-matched : {V : Type 0} (Q : Grid V) (m : List (Option ℕ)) (p : List ℕ) → IsPerfect (IsPresent (cell_at Q)) Q.side m → length p ≡ length m → ((r : ℕ) → r < length m → Matches m r (get_or p r 0)) → IsPerm Q p
IsPerm-matched Q m p perfect count has = record {
  over = count ∙ perfect.rows;
  apart = columns_apart m p perfect.columns count has;
  present = λ r h. perfect.cells r (get_or p r 0) (has r (omega (arith, h, perfect.rows)));
}
