-- Where the copies of columns stand, column by column.
use Rattle.asg_table_phases.proofs.Common.{◌≡◌, ℕ, ◌+◌, ◌<◌, ◌≤◌, List, length, Some, None, Option, slice_get_past, slice_index, sum_by, sym, refl, ap, ◌∙◌, subst, ⊎_elim, arith, cases_lt, Problem, capacity_at, column_label, first_copy, top_for, EndCopies}
use Rattle.asg_model.proofs.Kit.{get_or-set_other, get_or-set_same, none-some, slice_get_cases, slice_set, take_all}
use Rattle.std.specs.Option.{option_map_or}
use Rattle.asg_model.specs.declared.parts.Column.{Column}
use Rattle.asg_model.specs.Counts.{total_capacity}
use Rattle.asg_square.specs.Labels.{copies}
use Rattle.asg_square.specs.laws.Copies.{label_past, length-copies}
use Rattle.asg_square.specs.laws.CopyRuns.{copy_within}

-- numbers up to those for copies and for other columns
pub within_top : (X : Problem) (numbers : List ℕ) (copies of_copies of_extras : ℕ)
    → EndCopies X copies
    → ((k : ℕ) → 0 ≤ k → k < copies → k < length numbers → slice_index numbers k ≤ of_copies)
    → ((k : ℕ) → copies ≤ k → k < length numbers → k < length numbers → slice_index numbers k ≤ of_extras)
    → (k : ℕ) → k < length numbers → slice_index numbers k ≤ top_for of_copies of_extras (column_label X k)
within_top X numbers end of_copies of_extras ends below past k within =
    ⊎_elim
    (λ (front : k < end). is_copy (column_label X k) (λ none. omega (arith, front, (ends k).0 none)) (below k (omega arith) front within))
    (λ (back : end ≤ k). subst (λ o. slice_index numbers k ≤ top_for of_copies of_extras o) (sym ((ends k).1 back)) (past k back within within))
    (cases_lt k end)
  where
    is_copy : (o : Option ℕ) → (o ≡ None → ⊥) → slice_index numbers k ≤ of_copies → slice_index numbers k ≤ top_for of_copies of_extras o
    is_copy None never le = absurd (never refl)
    is_copy (Some d) never le = le

-- a number of a copy is at most that of its column, once one more column has its number
pub more_tops : (X : Problem) (numbers tops : List ℕ) (column top : ℕ)
    → column < length tops
    → ((k d : ℕ) → d < column → k < length numbers → column_label X k ≡ Some d → slice_index numbers k ≤ slice_index tops d)
    → ((k : ℕ) → first_copy X column ≤ k → k < first_copy X column + capacity_at X column → k < length numbers → slice_index numbers k ≤ top)
    → (k d : ℕ) → d < column + 1 → k < length numbers → column_label X k ≡ Some d → slice_index numbers k ≤ slice_index (slice_set tops column top) d
more_tops X numbers tops column top room before here k d more within label =
    ⊎_elim
    (λ (less : d < column).
    let kept : slice_index (slice_set tops column top) d ≡ slice_index tops d = get_or-set_other tops column d top 0 (λ (e : d ≡ column). omega (arith, less, e)) in
    omega (arith, kept, before k d less within label))
    (λ (from : column ≤ d).
    let same : d ≡ column = omega (arith, from, more) in
    let run = subst (λ n. (first_copy X n ≤ k) × (k < first_copy X n + capacity_at X n)) same (copy_within X d k label) in
    let put : slice_index (slice_set tops column top) d ≡ top = ap (slice_index (slice_set tops column top)) same ∙ get_or-set_same tops column top 0 room in
    omega (arith, put, here k run.0 run.1 within))
    (cases_lt d column)

-- a copy's column is there
pub copied_there : (X : Problem) (k d : ℕ) → column_label X k ≡ Some d → d < length X.columns
copied_there X k d label =
    let run = copy_within X d k label in
    ⊎_elim
    (λ (there : d < length X.columns). there)
    (λ (past : length X.columns ≤ d).
    let none : capacity_at X d ≡ 0 = ap (λ o. option_map_or (λ column. column.cap) o 0) (slice_get_past X.columns d past) in
    absurd (omega (arith, none, run.0, run.1)))
    (cases_lt d (length X.columns))

-- where all copies end
pub all_end : (X : Problem) (i at : ℕ) → length X.columns ≤ i → at ≡ first_copy X i → EndCopies X at
all_end X i at all is k = (
  (λ none. past none),
  (λ le. label_past X i k all (omega (arith, is, le))),
)
  where
    past : column_label X k ≡ None → at ≤ k
    past none =
        ⊎_elim
        (λ found. absurd (none-some found.0 (sym none ∙ found.2)))
        (λ beyond.
        let whole : first_copy X i ≡ total_capacity X = ap (λ xs. sum_by (λ (column : Column). column.cap) xs) (take_all i X.columns all) in
        omega (arith, is, whole, length-copies X, beyond.0))
        (slice_get_cases (copies X) k).1
