-- How many rows lose their column by an edit.
use Rattle.asg_edits.proofs.Common.{◌≡◌, ℕ, zero, suc, ◌+◌, ◌≤◌, cond, ◌≢◌, List, [], ◌∷◌, length, is_none, Some, None, Option, sym, refl, ap, ◌∙◌, arith, sum_by-cons, unmatched, Touches, column_at, edited, refusal_of, Problem, Edit, Objective}
use Rattle.std.proofs.Common.{unwrap_or}
use Rattle.asg_model.specs.HallSet.{row_place_of}
use Rattle.asg_model.specs.declared.edits.Edit.TheVariants.{Cost as SetCost, Forbid, DropRow, DropColumn}

-- 1 for a row without a column
abbrev bare : Option ℕ → ℕ
bare o = cond (is_none o) 1 0

unmatched-cons : (x : Option ℕ) (xs : List (Option ℕ)) → unmatched (x ∷ xs) ≡ bare x + unmatched xs
unmatched-cons x xs = sum_by-cons (λ o. cond (is_none o) 1 0) x xs

bare-le : (o : Option ℕ) → bare o ≤ 1
bare-le None = omega arith
bare-le (Some c) = omega arith

-- rows that all keep their columns
all_kept : (before after : List (Option ℕ)) → length after ≡ length before → ((r : ℕ) → column_at after r ≡ column_at before r) → unmatched after ≡ unmatched before
all_kept [] [] size same = refl
all_kept [] (y ∷ ys) size same = absurd (omega (arith, size))
all_kept (x ∷ xs) [] size same = absurd (omega (arith, size))
all_kept (x ∷ xs) (y ∷ ys) size same =
    unmatched-cons y ys
    ∙ (λ i. bare (same 0 i) + all_kept xs ys (omega (arith, size)) (λ r. same (suc r)) i)
    ∙ sym (unmatched-cons x xs)

-- where all but one row keep their columns, at most one more has none
pub one_lost : (before after : List (Option ℕ)) (p : ℕ) → length after ≡ length before → ((r : ℕ) → r ≢ p → column_at after r ≡ column_at before r) → unmatched after ≤ unmatched before + 1
one_lost [] [] p size same = omega arith
one_lost [] (y ∷ ys) p size same = absurd (omega (arith, size))
one_lost (x ∷ xs) [] p size same = absurd (omega (arith, size))
one_lost (x ∷ xs) (y ∷ ys) zero size same =
    let rest = all_kept xs ys (omega (arith, size)) (λ r. same (suc r) (λ e. absurd (omega (arith, e)))) in
    omega (arith, unmatched-cons x xs, unmatched-cons y ys, bare-le y, rest)
one_lost (x ∷ xs) (y ∷ ys) (suc p) size same =
    let rest = one_lost xs ys p (omega (arith, size)) (λ r apart. same (suc r) (λ e. apart (omega (arith, e)))) in
    let first : bare y ≡ bare x = ap bare (same 0 (λ e. absurd (omega (arith, e)))) in
    omega (arith, unmatched-cons x xs, unmatched-cons y ys, first, rest)

-- an edit that closes no column touches one row
abbrev pub ClosesColumns : Type 0
ClosesColumns = (objective : Objective) (X : Problem) (col : ℕ) → refusal_of objective X (DropColumn col) ≡ None → (edited X (DropColumn col)).columns ≡ X.columns → ⊥

touched : (o : Option ℕ) (r : ℕ) → r ≢ unwrap_or o 0 → o ≡ Some r → ⊥
touched o r apart is = apart (sym (ap (λ p. unwrap_or p 0) is))

pub one_touched : ClosesColumns → (objective : Objective) (X : Problem) (edit : Edit) → refusal_of objective X edit ≡ None → (edited X edit).columns ≡ X.columns
    → (p : ℕ) × ((r : ℕ) → r ≢ p → (k : ℕ) → Touches X edit r k → ⊥)
one_touched closes objective X (SetCost row col cost) passes same = (unwrap_or (row_place_of X row) 0, λ r apart k is. touched (row_place_of X row) r apart is.0)
one_touched closes objective X (Forbid row col) passes same = (unwrap_or (row_place_of X row) 0, λ r apart k is. touched (row_place_of X row) r apart is.0)
one_touched closes objective X (DropRow row) passes same = (unwrap_or (row_place_of X row) 0, λ r apart k is. touched (row_place_of X row) r apart is)
one_touched closes objective X (DropColumn col) passes same = absurd (closes objective X col passes same)
