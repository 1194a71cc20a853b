-- The copies of the columns: how many each column has, and where they stand.
use Rattle.std.proofs.Common.{◌≡◌, ℕ, zero, suc, ◌+◌, ◌*◌, ◌-◌, ◌<◌, ◌≤◌, Bool, true, false, cond, List, [], ◌∷◌, ◌++◌, length, get_or, take, refl, arith, sym, ap, subst, ◌∙◌, eqb, zero-add, add-zero}
use Rattle.std.specs.Prelude.{Option, Some, None, count_by, sum_by, slice_get, replicate}
use Rattle.std.specs.List.{enumerate_from, flat_map}
use Rattle.std.specs.Option.{option_map_or}
use Rattle.std.proofs.lemmas.Bool.{eq-eqb, ne_eqb}
use Rattle.std.proofs.lemmas.List.{length-append, length-replicate, get_or_append_left, get_or-append-add, get_or-replicate, take_all}
use Rattle.std.proofs.lemmas.List.Sums.{sum_by-cons, sum_by-append}
use Rattle.std.proofs.lemmas.List.Folds.{sum_by-replicate}
use Rattle.std.proofs.lemmas.Option.{slice_get-get_or, slice_get_past}
use Rattle.asg_model.specs.declared.parts.Column.{Column}
use Rattle.asg_model.specs.Problem.{Problem}
use Rattle.asg_model.specs.Counts.{capacity_at, total_capacity}
use Rattle.asg_square.specs.Labels.{copies_of, copies, first_copy, column_label}
use Rattle.asg_model.specs.Sums.{sum_below, count_below, one}
use Rattle.asg_model.specs.laws.Counting.{sum_below-same, sum_by-below}
use Rattle.asg_square.specs.laws.Bijections.{sum_below-split}

-- as many copies as capacities in all
length-copies_from : (i : ℕ) (columns : List Column) → length (flat_map copies_of (enumerate_from i columns)) ≡ sum_by (λ column. column.cap) columns
length-copies_from i [] = refl
length-copies_from i (x ∷ xs) =
    let rest = length-copies_from (i + 1) xs in
    let both = length-append (replicate x.cap i) (flat_map copies_of (enumerate_from (i + 1) xs)) in
    let these = length-replicate x.cap i in
    let first = sum_by-cons (λ (column : Column). column.cap) x xs in
    omega (arith, rest, both, these, first)

pub length-copies : (X : Problem) → length (copies X) ≡ total_capacity X
length-copies X = length-copies_from 0 X.columns

times_one : (b : Bool) (n : ℕ) → n * one b ≡ cond b n 0
times_one true n = omega arith
times_one false n = omega arith

-- the copies that pass, counted by columns
pub count-copies : (p : ℕ → Bool) (es : List (ℕ × Column)) → count_by p (flat_map copies_of es) ≡ sum_by (λ e. cond (p e.0) e.1.cap 0) es
count-copies p [] = refl
count-copies p (e ∷ es) =
    let rest = count-copies p es in
    let both = sum_by-append (λ d. one (p d)) (copies_of e) (flat_map copies_of es) in
    let these = sum_by-replicate (λ d. one (p d)) e.1.cap e.0 in
    let times = times_one (p e.0) e.1.cap in
    let first = sum_by-cons (λ (x : ℕ × Column). cond (p x.0) x.1.cap 0) e es in
    omega (arith, rest, both, these, times, first)

abbrev part_of : ℕ → ℕ × Column → ℕ
part_of d e = cond (eqb e.0 d) e.1.cap 0

none_before : (d i : ℕ) (columns : List Column) → d < i → sum_by (part_of d) (enumerate_from i columns) ≡ 0
none_before d i [] h = refl
none_before d i (x ∷ xs) h =
    let rest = none_before d (i + 1) xs (omega arith) in
    let first = sum_by-cons (part_of d) (i, x) (enumerate_from (i + 1) xs) in
    let none : part_of d (i, x) ≡ 0 = ap (λ b. cond b x.cap 0) (ne_eqb i d (λ (e : i ≡ d). omega arith)) in
    omega (arith, rest, first, none)

capacity_from : (i : ℕ) (columns : List Column) (j d : ℕ) → d ≡ i + j → sum_by (part_of d) (enumerate_from i columns) ≡ option_map_or (λ column. column.cap) (slice_get columns j) 0
capacity_from i [] j d at = refl
capacity_from i (x ∷ xs) zero d at =
    let rest = none_before d (i + 1) xs (omega arith) in
    let first = sum_by-cons (part_of d) (i, x) (enumerate_from (i + 1) xs) in
    let here : part_of d (i, x) ≡ x.cap = ap (λ b. cond b x.cap 0) (eq-eqb i d (omega arith)) in
    omega (arith, rest, first, here)
capacity_from i (x ∷ xs) (suc j) d at =
    let rest = capacity_from (i + 1) xs j d (omega arith) in
    let first = sum_by-cons (part_of d) (i, x) (enumerate_from (i + 1) xs) in
    let none : part_of d (i, x) ≡ 0 = ap (λ b. cond b x.cap 0) (ne_eqb i d (λ (e : i ≡ d). omega arith)) in
    omega (arith, rest, first, none)

-- a column has as many copies as its capacity
pub count-copies_at : (X : Problem) (d : ℕ) → count_by (λ c. eqb c d) (copies X) ≡ capacity_at X d
count-copies_at X d = count-copies (λ c. eqb c d) (enumerate_from 0 X.columns) ∙ capacity_from 0 X.columns d d (omega arith)

-- how many of the square columns have a label that passes
pub count-labels : (X : Problem) (q : Option ℕ → Bool) (extra : ℕ) → count_below (λ c. q (column_label X c)) (total_capacity X + extra) ≡ count_by (λ d. q (Some d)) (copies X) + sum_below (λ _. one (q None)) extra
count-labels X q extra =
    let split = sum_below-split (λ c. one (q (column_label X c))) (total_capacity X) extra in
    let size = length-copies X in
    let front = sum_below-same (λ c. one (q (column_label X c))) (λ c. one (q (Some (get_or (copies X) c 0)))) (total_capacity X)
    (λ c h. ap (λ o. one (q o)) (slice_get-get_or (copies X) c 0 (omega arith))) in
    let past = sum_below-same (λ k. one (q (column_label X (total_capacity X + k)))) (λ _. one (q None)) extra
    (λ k h. ap (λ o. one (q o)) (slice_get_past (copies X) (total_capacity X + k) (omega arith))) in
    let list = sum_by-below (λ d. one (q (Some d))) (copies X) 0 in
    let same : sum_below (λ k. one (q (Some (get_or (copies X) k 0)))) (length (copies X)) ≡ sum_below (λ k. one (q (Some (get_or (copies X) k 0)))) (total_capacity X) = ap (sum_below (λ k. one (q (Some (get_or (copies X) k 0))))) size in
    omega (arith, split, front, past, list, same)

abbrev CopyAt : List ℕ → ℕ → ℕ → Type 0
CopyAt xs at d = (at < length xs) × (get_or xs at 0 ≡ d)

copy_from : (i : ℕ) (columns : List Column) (d j : ℕ) → j < option_map_or (λ column. column.cap) (slice_get columns d) 0 → CopyAt (flat_map copies_of (enumerate_from i columns)) (sum_by (λ column. column.cap) (take d columns) + j) (i + d)
copy_from i [] d j h = absurd (omega arith)
copy_from i (x ∷ xs) zero j h =
    let these = replicate x.cap i in
    let rest = flat_map copies_of (enumerate_from (i + 1) xs) in
    let size = length-replicate x.cap i in
    let both = length-append these rest in
    let left : j < length these = omega (arith, size) in
    let is : get_or (these ++ rest) j 0 ≡ i = get_or_append_left these rest 0 j left ∙ get_or-replicate x.cap j i 0 h in
    subst (λ at. CopyAt (these ++ rest) at (i + 0)) (sym (zero-add j)) (omega (arith, size, both), is ∙ sym (add-zero i))
copy_from i (x ∷ xs) (suc d) j h =
    let these = replicate x.cap i in
    let rest = flat_map copies_of (enumerate_from (i + 1) xs) in
    let size = length-replicate x.cap i in
    let both = length-append these rest in
    let later = copy_from (i + 1) xs d j h in
    let before = sum_by (λ (column : Column). column.cap) (take d xs) in
    let first = sum_by-cons (λ (column : Column). column.cap) x (take d xs) in
    let at : length these + (before + j) ≡ sum_by (λ (column : Column). column.cap) (x ∷ take d xs) + j = omega (arith, first, size) in
    let place : (i + 1) + d ≡ i + suc d = omega arith in
    subst (λ k. CopyAt (these ++ rest) k (i + suc d)) at
    (omega (arith, size, both, later.0), get_or-append-add these rest (before + j) 0 ∙ later.1 ∙ place)

-- the copies of a column stand side by side
pub label_at : (X : Problem) (d j : ℕ) → j < capacity_at X d → column_label X (first_copy X d + j) ≡ Some d
label_at X d j h =
    let copy = copy_from 0 X.columns d j h in
    slice_get-get_or (copies X) (first_copy X d + j) 0 copy.0 ∙ ap Some (copy.1 ∙ zero-add d)

pub copy_below : (X : Problem) (d j : ℕ) → j < capacity_at X d → first_copy X d + j < total_capacity X
copy_below X d j h =
    let copy = copy_from 0 X.columns d j h in
    let size = length-copies X in
    let inside = copy.0 in
    omega (arith, size, inside)

pub capacity_is : (X : Problem) (d : ℕ) (x : Column) → d < length X.columns → capacity_at X d ≡ (get_or X.columns d x).cap
capacity_is X d x within = ap (λ o. option_map_or (λ column. column.cap) o 0) (slice_get-get_or X.columns d x within)

-- a square column among the copies of a column
pub label_in : (X : Problem) (d c : ℕ) (x : Column) → d < length X.columns → first_copy X d ≤ c → c < first_copy X d + (get_or X.columns d x).cap → column_label X c ≡ Some d
label_in X d c x within from below =
    let capacity = capacity_is X d x within in
    let at = label_at X d (c - first_copy X d) (omega (arith, capacity)) in
    let place : c ≡ first_copy X d + (c - first_copy X d) = omega arith in
    ap (column_label X) place ∙ at

-- a square column past all copies
pub label_past : (X : Problem) (i c : ℕ) → length X.columns ≤ i → first_copy X i ≤ c → column_label X c ≡ None
label_past X i c all from =
    let size = length-copies X in
    let whole : first_copy X i ≡ total_capacity X = ap (λ xs. sum_by (λ column. column.cap) xs) (take_all i X.columns all) in
    slice_get_past (copies X) c (omega (arith, size, whole))
