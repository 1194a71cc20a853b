-- The copies of a column are the columns of the square from its first one on, so many as its
-- capacity.
use Rattle.std.proofs.Common.{◌≡◌, ℕ, suc, ◌+◌, ◌-◌, ◌<◌, ◌≤◌, List, [], ◌∷◌, ◌++◌, length, get_or, take, refl, arith, sym, ap, subst, ◌∙◌, ⊎_elim, true}
use Rattle.std.specs.Prelude.{Option, Some, None, sum_by, slice_get, replicate}
use Rattle.std.specs.List.{enumerate_from, flat_map}
use Rattle.std.specs.Option.{option_map_or}
use Rattle.std.proofs.lemmas.Bool.{cases_lt, eq-eqb, eqb-true, false≢true}
use Rattle.std.proofs.lemmas.List.{length-append, length-replicate, get_or_append_left, get_or-append-add, get_or-replicate}
use Rattle.std.proofs.lemmas.List.Sums.{sum_by-cons}
use Rattle.std.proofs.lemmas.Option.{none-some, same_Some, slice_get-get_or, slice_get_cases}
use Rattle.asg_model.specs.declared.parts.Column.{Column}
use Rattle.asg_model.specs.Problem.{Problem}
use Rattle.asg_model.specs.Counts.{capacity_at}
use Rattle.asg_model.specs.ValidChoice.{takes}
use Rattle.asg_bit_rows.specs.BitTable.{is_from_to}
use Rattle.asg_square.specs.Labels.{copies_of, copies, first_copy, column_label}
use Rattle.asg_square.specs.laws.Copies.{label_at}
use Rattle.asg_bit_rows.specs.laws.Words.{same_bool, in_run, run_parts}

-- a place among the copies is one of those of its column
copy_back : (i : ℕ) (columns : List Column) (c : ℕ) → c < length (flat_map copies_of (enumerate_from i columns)) → (j : ℕ) × (get_or (flat_map copies_of (enumerate_from i columns)) c 0 ≡ i + j) × (sum_by (λ column. column.cap) (take j columns) ≤ c) × (c < sum_by (λ column. column.cap) (take j columns) + option_map_or (λ column. column.cap) (slice_get columns j) 0)
copy_back i [] c h = absurd (omega (arith, h))
copy_back i (x ∷ xs) c h =
    let these = replicate x.cap i in
    let rest = flat_map copies_of (enumerate_from (i + 1) xs) in
    let size = length-replicate x.cap i in
    let both = length-append these rest in
    ⊎_elim
    (λ (here : c < x.cap).
    let left : c < length these = omega (arith, size, here) in
    let at : get_or (these ++ rest) c 0 ≡ i = get_or_append_left these rest 0 c left ∙ get_or-replicate x.cap c i 0 here in
    (0, omega (arith, at), omega arith, omega (arith, here)))
    (λ (past : x.cap ≤ c).
    let later = copy_back (i + 1) xs (c - x.cap) (omega (arith, h, both, size, past)) in
    let place : length these + (c - x.cap) ≡ c = omega (arith, size, past) in
    let at : get_or (these ++ rest) c 0 ≡ get_or rest (c - x.cap) 0 = ap (λ n. get_or (these ++ rest) n 0) (sym place) ∙ get_or-append-add these rest (c - x.cap) 0 in
    let first = sum_by-cons (λ (column : Column). column.cap) x (take later.0 xs) in
    let is = later.1 in
    let since = later.2 in
    let below = later.3 in
    (suc later.0, omega (arith, at, is), omega (arith, first, since, past), omega (arith, first, below, past)))
    (cases_lt c x.cap)

-- a copy of a column stands among its copies
pub copy_within : (X : Problem) (d c : ℕ) → column_label X c ≡ Some d → (first_copy X d ≤ c) × (c < first_copy X d + capacity_at X d)
copy_within X d c is =
    ⊎_elim
    (λ found.
    let w = copy_back 0 X.columns c found.1 in
    let label : d ≡ get_or (copies X) c 0 = same_Some d (get_or (copies X) c 0) (sym is ∙ slice_get-get_or (copies X) c 0 found.1) in
    let at = w.1 in
    let same : w.0 ≡ d = omega (arith, label, at) in
    subst (λ n. (first_copy X n ≤ c) × (c < first_copy X n + capacity_at X n)) same (w.2, w.3))
    (λ past. absurd (none-some d (sym past.1 ∙ is)))
    (slice_get_cases (copies X) c).1

takes_is : (d : ℕ) (o : Option ℕ) → takes d o ≡ true → o ≡ Some d
takes_is d None e = absurd (false≢true e)
takes_is d (Some e) is = ap Some (eqb-true e d is)

-- which columns of the square are copies of a column
pub copies_run : (X : Problem) (d c : ℕ) → is_from_to (first_copy X d) (first_copy X d + capacity_at X d) c ≡ takes d (column_label X c)
copies_run X d c =
    let from = first_copy X d in
    same_bool (is_from_to from (from + capacity_at X d) c) (takes d (column_label X c))
    (λ e.
    let run = run_parts from (from + capacity_at X d) c e in
    let place : c ≡ from + (c - from) = omega (arith, run.0) in
    let label = ap (column_label X) place ∙ label_at X d (c - from) (omega (arith, run.0, run.1)) in
    ap (takes d) label ∙ eq-eqb d d refl)
    (λ e.
    let within = copy_within X d c (takes_is d (column_label X c) e) in
    in_run from (from + capacity_at X d) c within.0 within.1)
