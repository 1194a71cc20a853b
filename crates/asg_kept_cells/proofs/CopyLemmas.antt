-- The columns of a square in the order of their labels.
use Rattle.asg_kept_cells.proofs.Common.{◌≡◌, ℕ, ◌+◌, ◌<◌, ◌≤◌, true, false, List, length, get_or, take, is_some, nat_lt, Some, None, sum_by, Option, sym, refl, ap, ◌∙◌, subst, ⊎_elim, arith, take-take, ltb-false, ltb-true, le-ltb, lt-ltb, eq-eqb, eqb-true, cases_lt, false_from_ne_true, false≢true, get_or-map-range_with_len, get_or_past, length-map-range_with_len, none-some, option_map_or, slice_get-get_or, slice_get_past, sum_by-take-le, sum_by_more, is_from_to, in_run, run_parts, same_bool, AreCopies, StandInOrder, is_before, is_copy, capacity_at, Problem, square_side, Column, Grid, HasLabelsOf, column_label, copies, first_copy}
use Rattle.asg_square.specs.laws.Copies.{capacity_is, length-copies}
use Rattle.asg_square.specs.laws.CopyRuns.{copy_within}

-- ---- where copies begin

first_upto : (X : Problem) (a b : ℕ) → a ≤ b → first_copy X a ≤ first_copy X b
first_upto X a b upto =
    let cap = λ (column : Column). column.cap in
    subst (λ columns. sum_by cap columns ≤ sum_by cap (take b X.columns)) (take-take a b X.columns upto)
    (sum_by-take-le cap (take b X.columns) a)

no_column : Column
no_column = record { id = 0; cap = 0; usable = false }

-- a column that has a copy is there, and its copies end where those of the next one begin
copies_end : (X : Problem) (d k : ℕ) → first_copy X d ≤ k → k < first_copy X d + capacity_at X d → (d < length X.columns) × (k < first_copy X (d + 1))
copies_end X d k from below =
    ⊎_elim
    (λ (there : d < length X.columns).
    let capacity = capacity_is X d no_column there in
    let more = sum_by_more (λ (column : Column). column.cap) X.columns d no_column there in
    (there, omega (arith, capacity, more, below)))
    (λ (past : length X.columns ≤ d).
    let none : capacity_at X d ≡ 0 = ap (λ o. option_map_or (λ (column : Column). column.cap) o 0) (slice_get_past X.columns d past) in
    absurd (omega (arith, none, from, below)))
    (cases_lt d (length X.columns))

-- ---- labels

label_before : (X : Problem) (place k : ℕ) (label : Option ℕ) → column_label X k ≡ label → is_before place label ≡ true → k < first_copy X place
label_before X place k None is before = absurd (false≢true before)
label_before X place k (Some d) is before =
    let within = copy_within X d k is in
    let end = copies_end X d k within.0 within.1 in
    let upto = first_upto X (d + 1) place (omega (arith, ltb-true d place before)) in
    omega (arith, end.1, upto)

before_label : (X : Problem) (place k : ℕ) (label : Option ℕ) → column_label X k ≡ label → k < first_copy X place → is_before place label ≡ true
before_label X place k None is below =
    let all = sum_by-take-le (λ (column : Column). column.cap) X.columns place in
    let size = length-copies X in
    let there = slice_get-get_or (copies X) k 0 (omega (arith, all, size, below)) in
    absurd (none-some (get_or (copies X) k 0) (sym is ∙ there))
before_label X place k (Some d) is below =
    let within = copy_within X d k is in
    ⊎_elim
    (λ (less : d < place). lt-ltb d place less)
    (λ (from : place ≤ d). let upto = first_upto X place d from in absurd (omega (arith, within.0, upto, below)))
    (cases_lt d place)

labels_within : (X : Problem) (k : ℕ) (label : Option ℕ) → column_label X k ≡ label → is_before (length X.columns) label ≡ is_some label
labels_within X k None is = refl
labels_within X k (Some d) is =
    let within = copy_within X d k is in
    let end = copies_end X d k within.0 within.1 in
    lt-ltb d (length X.columns) end.0

module _ {V : Type 0} (X : Problem) (Q : Grid V) (labels : HasLabelsOf X Q) where
  label_is : (k : ℕ) → k < square_side X → get_or Q.column_labels k None ≡ column_label X k
  label_is k below =
      ap (λ xs. get_or xs k None) labels.column_labels
      ∙ get_or-map-range_with_len (column_label X) 0 (square_side X) k k None below (omega arith)

  label_past : (k : ℕ) → square_side X ≤ k → get_or Q.column_labels k None ≡ None
  label_past k past =
      ap (λ xs. get_or xs k None) labels.column_labels
      ∙ get_or_past _ k None (omega (arith, past, length-map-range_with_len (column_label X) 0 (square_side X)))

  -- the columns of the square of an instance stand in order
  pub in_order : StandInOrder Q.column_labels
  in_order place j k upto before =
      ⊎_elim
      (λ (below : k < square_side X).
      let last = label_before X place k (column_label X k) refl (ap (is_before place) (sym (label_is k below)) ∙ before) in
      ap (is_before place) (label_is j (omega (arith, upto, below)))
      ∙ before_label X place j (column_label X j) refl (omega (arith, upto, last)))
      (λ (past : square_side X ≤ k). absurd (false≢true (ap (is_before place) (sym (label_past k past)) ∙ before)))
      (cases_lt k (square_side X))

  -- each label is that of a column of the instance
  pub labels_before_all : (k : ℕ) → is_before (length X.columns) (get_or Q.column_labels k None) ≡ is_some (get_or Q.column_labels k None)
  labels_before_all k =
      ⊎_elim
      (λ (below : k < square_side X).
      ap (is_before (length X.columns)) (label_is k below)
      ∙ labels_within X k (column_label X k) refl
      ∙ ap is_some (sym (label_is k below)))
      (λ (past : square_side X ≤ k).
      ap (is_before (length X.columns)) (label_past k past) ∙ ap is_some (sym (label_past k past)))
      (cases_lt k (square_side X))

-- ---- halving

module _ (labels : List (Option ℕ)) (order : StandInOrder labels) (place : ℕ) where
  pub all_before : (middle : ℕ) → is_before place (get_or labels middle None) ≡ true → (k : ℕ) → k < middle + 1 → is_before place (get_or labels k None) ≡ true
  all_before middle is k below = order place k middle (omega (arith, below)) is

  pub none_after : (middle : ℕ) → is_before place (get_or labels middle None) ≡ false → (k : ℕ) → middle ≤ k → is_before place (get_or labels k None) ≡ false
  none_after middle is k from = false_from_ne_true (is_before place (get_or labels k None)) (λ e. false≢true (sym is ∙ order place middle k from e))

-- ---- copies

one_column : (d : ℕ) (label : Option ℕ) → is_before (d + 1) label ≡ true → is_before d label ≡ false → is_copy (Some d) label ≡ true
one_column d None upto from = absurd (false≢true upto)
one_column d (Some e) upto from = eq-eqb d e (omega (arith, ltb-true e (d + 1) upto, ltb-false e d from))

own_column : (d : ℕ) (label : Option ℕ) → is_copy (Some d) label ≡ true → (is_before (d + 1) label ≡ true) × (is_before d label ≡ false)
own_column d None is = absurd (false≢true is)
own_column d (Some e) is =
    let same = eqb-true d e is in
    (lt-ltb e (d + 1) (omega (arith, same)), le-ltb e d (omega (arith, same)))

-- the columns between those before a place and those before the next one are the copies of the
-- column there
pub copies_between : (labels : List (Option ℕ)) (side d from to : ℕ) → to ≤ side → ((k : ℕ) → is_before d (get_or labels k None) ≡ nat_lt k from) → ((k : ℕ) → is_before (d + 1) (get_or labels k None) ≡ nat_lt k to)
    → AreCopies labels side (Some d) (record { from = from; to = to })
copies_between labels side d from to within low high = record {
  within = within;
  each = λ k.
      same_bool (is_from_to from to k) (is_copy (Some d) (get_or labels k None))
      (λ e.
      let parts = run_parts from to k e in
      one_column d (get_or labels k None) (high k ∙ lt-ltb k to parts.1) (low k ∙ le-ltb k from parts.0))
      (λ e.
      let own = own_column d (get_or labels k None) e in
      in_run from to k (ltb-false k from (sym (low k) ∙ own.1)) (ltb-true k to (sym (high k) ∙ own.0)));
}

-- nothing is a copy of no column
pub copies_none : (labels : List (Option ℕ)) (side : ℕ) → AreCopies labels side None (record { from = 0; to = 0 })
copies_none labels side = record {
  within = omega arith;
  each = λ k.
      same_bool (is_from_to 0 0 k) (is_copy None (get_or labels k None))
      (λ e. let parts = run_parts 0 0 k e in absurd (omega (arith, parts.1)))
      (λ e. absurd (false≢true (sym (by (get_or labels k None)) ∙ e)));
}
  where
    by : (label : Option ℕ) → is_copy None label ≡ false
    by None = refl
    by (Some d) = refl
