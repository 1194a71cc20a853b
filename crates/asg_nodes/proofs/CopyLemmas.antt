-- Where the copies of a column stand, and rows of bits that keep or lose them.
use Rattle.asg_nodes.proofs.Common.{◌≡◌, ℕ, ◌+◌, ◌<◌, ◌≤◌, Bool, true, false, cond, not, ◌&&◌, ◌||◌, eqb, length, get_or, take, nat_lt, nat_le, slice_get, Some, None, sum_by, Option, sym, refl, ap, ◌∙◌, subst, ⊎_elim, arith, take_all, take-take, ltb-false, ltb-true, lt-ltb, eq-eqb, eqb-true, le-leb, cases_lt, false≢true, get_or_from_slice_get, lt-leb, option_map_or, or_right, slice_get-get_or, slice_get_past, sum_by-take-le, sum_by_more, BitTable, has_bit, is_from_to, PutsColumns, PutsOnly, in_run, out_of_run, same_bool, capacity_at, total_capacity, Problem, takes, is_before, is_copy_of, IsRunOf, keeps_copies, PutsRow, Run, label_is, Grid, HasLabelsOf, copies, first_copy, column_label}
use Rattle.asg_model.specs.declared.parts.Column.{Column}
use Rattle.asg_square.specs.laws.Copies.{length-copies, capacity_is}
use Rattle.asg_square.specs.laws.CopyRuns.{copy_within, copies_run}

-- where the copies of the next column begin
next_copy : (X : Problem) (d : ℕ) → first_copy X (d + 1) ≡ first_copy X d + capacity_at X d
next_copy X d =
    ⊎_elim
    (λ (within : d < length X.columns).
    let none : Column = record { id = 0; cap = 0; usable = false } in
    let more = sum_by_more (λ (column : Column). column.cap) X.columns d none within in
    let capacity = capacity_is X d none within in
    omega (arith, more, capacity))
    (λ (past : length X.columns ≤ d).
    let here : first_copy X d ≡ total_capacity X = ap (λ xs. sum_by (λ (column : Column). column.cap) xs) (take_all d X.columns past) in
    let there : first_copy X (d + 1) ≡ total_capacity X = ap (λ xs. sum_by (λ (column : Column). column.cap) xs) (take_all (d + 1) X.columns (omega (arith, past))) in
    let none : capacity_at X d ≡ 0 = ap (λ o. option_map_or (λ (column : Column). column.cap) o 0) (slice_get_past X.columns d past) in
    omega (arith, here, there, none))
    (cases_lt d (length X.columns))

-- the copies of a column begin no later than those of a later one
first_upto : (X : Problem) (d e : ℕ) → d ≤ e → first_copy X d ≤ first_copy X e
first_upto X d e upto =
    let part = sum_by-take-le (λ (column : Column). column.cap) (take e X.columns) d in
    let same : sum_by (λ (column : Column). column.cap) (take d (take e X.columns)) ≡ first_copy X d = ap (λ xs. sum_by (λ (column : Column). column.cap) xs) (take-take d e X.columns upto) in
    omega (arith, part, same)

-- and within all copies
pub first_within : (X : Problem) (d : ℕ) → first_copy X d ≤ total_capacity X
first_within X d = sum_by-take-le (λ (column : Column). column.cap) X.columns d

-- where all copies end
pub end_is : (X : Problem) → first_copy X (length X.columns) ≡ total_capacity X
end_is X = ap (λ xs. sum_by (λ (column : Column). column.cap) xs) (take_all (length X.columns) X.columns (omega arith))

label_some : (X : Problem) (k : ℕ) → k < total_capacity X → column_label X k ≡ Some (get_or (copies X) k 0)
label_some X k below = let size = length-copies X in slice_get-get_or (copies X) k 0 (omega (arith, size, below))

label_none : (X : Problem) (k : ℕ) → total_capacity X ≤ k → column_label X k ≡ None
label_none X k past = let size = length-copies X in slice_get_past (copies X) k (omega (arith, size, past))

before_some : (d : ℕ) (label : Option ℕ) → is_before d label ≡ true → (e : ℕ) × (label ≡ Some e) × (e < d)
before_some d None is = absurd (false≢true is)
before_some d (Some e) is = (e, refl, ltb-true e d is)

-- which columns of the square stand before the copies of a column
before_is : (X : Problem) (d k : ℕ) → is_before d (column_label X k) ≡ nat_lt k (first_copy X d)
before_is X d k =
    same_bool (is_before d (column_label X k)) (nat_lt k (first_copy X d))
    (λ is.
    let at = before_some d (column_label X k) is in
    let within = copy_within X at.0 k at.1 in
    let next = next_copy X at.0 in
    let upto = first_upto X (at.0 + 1) d (omega (arith, at.2)) in
    lt-ltb k (first_copy X d) (omega (arith, within.1, next, upto)))
    (λ is.
    let below = ltb-true k (first_copy X d) is in
    let whole = first_within X d in
    let label = label_some X k (omega (arith, below, whole)) in
    let e = get_or (copies X) k 0 in
    let within = copy_within X e k label in
    let less : e < d = ⊎_elim (λ (h : e < d). h) (λ (past : d ≤ e). let upto = first_upto X d e past in absurd (omega (arith, upto, within.0, below))) (cases_lt e d) in
    ap (is_before d) label ∙ lt-ltb e d less)

-- whether a column whose label was read stands before the copies of a column
module _ {V : Type 0} (X : Problem) (Q : Grid V) (labels : HasLabelsOf X Q) (d k : ℕ) (label : Option ℕ) (read : slice_get Q.column_labels k ≡ Some label) (below : k < Q.side) where
  read_is : is_before d label ≡ nat_lt k (first_copy X d)
  read_is =
      ap (is_before d) (sym (get_or_from_slice_get Q.column_labels k label None read) ∙ label_is X Q labels k (subst (λ n. k < n) labels.side below))
      ∙ before_is X d k

  pub stands_before : is_before d label ≡ true → k < first_copy X d
  stands_before is = ltb-true k (first_copy X d) (sym read_is ∙ is)

  pub stands_from : is_before d label ≡ false → first_copy X d ≤ k
  stands_from is = ltb-false k (first_copy X d) (sym read_is ∙ is)

eqb_sym : (a b : ℕ) → eqb a b ≡ eqb b a
eqb_sym a b = same_bool (eqb a b) (eqb b a) (λ e. eq-eqb b a (sym (eqb-true a b e))) (λ e. eq-eqb a b (sym (eqb-true b a e)))

takes_label : (d : ℕ) (label : Option ℕ) → takes d label ≡ is_copy_of (Some d) label
takes_label d None = refl
takes_label d (Some e) = eqb_sym e d

-- no column is a copy of none
pub run_of_none : (X : Problem) → IsRunOf X None (record { from = 0; to = 0 })
run_of_none X = record {
  order = omega arith;
  within = omega arith;
  each = λ k. out_of_run 0 0 k (λ low high. omega (arith, high)) ∙ by (column_label X k);
}
  where
    by : (label : Option ℕ) → false ≡ is_copy_of None label
    by None = refl
    by (Some e) = refl

-- the copies of a column
pub run_of_column : (X : Problem) (d from capacity : ℕ) → from ≡ first_copy X d → capacity ≡ capacity_at X d → IsRunOf X (Some d) (record { from = from; to = from + capacity })
run_of_column X d from capacity begins is = record {
  order = omega arith;
  within = let next = next_copy X d in let upto = first_within X (d + 1) in omega (arith, begins, is, next, upto);
  each = λ k.
      (λ i. is_from_to (begins i) (begins i + is i) k)
      ∙ copies_run X d k ∙ takes_label d (column_label X k);
}

module _ (X : Problem) (chosen : Option ℕ) (run : Run) (is : IsRunOf X chosen run) (k : ℕ) where
  -- a row keeps the copies alone, and what is no copy
  pub alone_keeps : (is_from_to run.from run.to k || nat_le (total_capacity X) k) ≡ keeps_copies chosen true (column_label X k)
  alone_keeps =
      ⊎_elim
      (λ (before : k < total_capacity X).
      let label = label_some X k before in
      ap (λ b. is_from_to run.from run.to k || b) (lt-leb (total_capacity X) k before)
      ∙ or_false (is_from_to run.from run.to k)
      ∙ is.each k ∙ ap (is_copy_of chosen) label ∙ sym (ap (keeps_copies chosen true) label))
      (λ (past : total_capacity X ≤ k).
      or_right (is_from_to run.from run.to k) (nat_le (total_capacity X) k) (le-leb (total_capacity X) k past)
      ∙ sym (ap (keeps_copies chosen true) (label_none X k past)))
      (cases_lt k (total_capacity X))
    where
      or_false : (b : Bool) → (b || false) ≡ b
      or_false true = refl
      or_false false = refl

  -- a row loses them
  pub others_keep : not (is_from_to run.from run.to k) ≡ keeps_copies chosen false (column_label X k)
  others_keep = ap not (is.each k) ∙ by (column_label X k)
    where
      by : (label : Option ℕ) → not (is_copy_of chosen label) ≡ keeps_copies chosen false label
      by None = refl
      by (Some e) = refl

picked : (b m l x old : Bool) → l ≡ true → cond (b && (m && l)) true (cond b x old) ≡ cond b (x || m) old
picked true true l x old e = ap (λ d. cond d true x) e ∙ sym (or_right x true refl)
picked true false l true old e = refl
picked true false l false old e = refl
picked false m l x old e = refl

cleared : (b x z old : Bool) → z ≡ true → cond (b && x) false (cond (b && z) true old) ≡ cond b (not x) old
cleared true true z old e = refl
cleared true false z old e = ap (λ d. cond d true old) e
cleared false x z old e = refl

module _ (before middle after : BitTable) (row : ℕ) (run : Run) (count : ℕ) (whole : count ≡ before.columns) where
  -- the copies alone were set, and all from an end on
  pub puts_alone : (end : ℕ) → PutsOnly before middle row run.from run.to → PutsColumns middle after row end count true → PutsRow before after row (λ k. is_from_to run.from run.to k || nat_le end k)
  puts_alone end only rest = record {
    rows = rest.rows ∙ only.rows;
    columns = rest.columns ∙ only.columns;
    bits = λ s k h.
        rest.bits s k
        ∙ ap (λ b. cond (eqb s row && is_from_to end count k) true b) (only.bits s k)
        ∙ picked (eqb s row) (nat_le end k) (nat_lt k count) (is_from_to run.from run.to k) (has_bit before s k) (lt-ltb k count (omega (arith, h, whole)));
  }

  -- all were set, and then the copies cleared
  pub puts_others : PutsColumns before middle row 0 count true → PutsColumns middle after row run.from run.to false → PutsRow before after row (λ k. not (is_from_to run.from run.to k))
  puts_others all lost = record {
    rows = lost.rows ∙ all.rows;
    columns = lost.columns ∙ all.columns;
    bits = λ s k h.
        lost.bits s k
        ∙ ap (λ b. cond (eqb s row && is_from_to run.from run.to k) false b) (all.bits s k)
        ∙ cleared (eqb s row) (is_from_to run.from run.to k) (is_from_to 0 count k) (has_bit before s k) (in_run 0 count k (omega arith) (omega (arith, h, whole)));
  }

-- the same row by another test
pub puts_same : (before after : BitTable) (row : ℕ) (keep other : ℕ → Bool) → ((k : ℕ) → keep k ≡ other k) → PutsRow before after row keep → PutsRow before after row other
puts_same before after row keep other same puts = record {
  rows = puts.rows;
  columns = puts.columns;
  bits = λ s k h. puts.bits s k h ∙ ap (λ b. cond (eqb s row) b (has_bit before s k)) (same k);
}
