-- The bits of a branch, and of the next one.
use Rattle.std.proofs.Common.{◌≡◌, ◌≢◌, ℕ, suc, ◌+◌, ◌<◌, ◌≤◌, ◌/◌, ◌%◌, ◌*◌, Bool, true, false, cond, ◌&&◌, eqb, not, List, length, Option, Some, None, refl, sym, ◌∙◌, ap, subst, arith, ⊎_elim}
use Rattle.std.specs.Prelude.{nat_lt, slice_index_or}
use Rattle.std.proofs.lemmas.Bool.{cases_lt, cases_eq, eq-eqb, ne_eqb, lt-ltb, le-ltb, cond-true, cond-false}
use Rattle.std.proofs.lemmas.List.FromFn.{get_or-map-range_with_len}
use Rattle.std.proofs.lemmas.Option.{same_Some}
use Rattle.asg_model.specs.declared.parts.Place.TheVariants.{All as PlaceAll}
use Rattle.asg_model.specs.Counts.{is_counted, is_counted_by}
use Rattle.asg_model.specs.Live.{is_active}
use Rattle.asg_model.specs.Problem.{Problem}
use Rattle.asg_model.specs.Shapes.{square_side}
use Rattle.asg_model.specs.Sums.{count_below}
use Rattle.asg_rankings.specs.Children.{row_number, is_chosen, is_kept_at}
use Rattle.asg_rankings.specs.Masks.{keeps_labelled, keeps_cell}
use Rattle.asg_bit_rows.specs.BitTable.{BitTable, has_bit, word_count, is_bit_set}
use Rattle.asg_square.specs.Grid.{Grid, HasLabelsOf}
use Rattle.asg_square.specs.Labels.{row_label, column_label}
use Rattle.asg_square.specs.Masked.{keeps}
use Rattle.asg_square.specs.laws.Bijections.{same-rank}
use Rattle.asg_nodes.specs.Cuts.{keeps_copies, label_in, is_fixed_at, fixes_labelled, fixes_cell, AreBitsFor, PutsRow}

-- the label of a column of a square of the instance
pub label_is : {V : Type 0} (X : Problem) (Q : Grid V) → HasLabelsOf X Q → (k : ℕ) → k < square_side X → label_in Q k ≡ column_label X k
label_is X Q labels k h =
    ap (λ xs. slice_index_or xs k None) labels.column_labels
    ∙ get_or-map-range_with_len (column_label X) 0 (square_side X) k k None h (omega arith)

-- bits over a side as words over it
pub keeps_by : (side : ℕ) (B : BitTable) → B.columns ≡ side → (r k : ℕ) → keeps side B.words r k ≡ has_bit B r k
keeps_by side B columns r k = ap (λ n. nat_lt (k / 64) (word_count n) && is_bit_set (slice_index_or B.words (r * word_count n + k / 64) 0) (k % 64)) (sym columns)

-- how many rows are active up to one
pub count_more : (p : ℕ → Bool) (n : ℕ) → count_below p (n + 1) ≡ count_below p n + cond (p n) 1 0
count_more p n = let k : n + 1 ≡ suc n = omega arith in ap (count_below p) k

module _ (X : Problem) (all : X.place ≡ PlaceAll) (f : List (Option ℕ)) where
  -- a row that stands for one is active, and stands for itself
  pub labelled_active : (r q : ℕ) → row_label X r ≡ Some q → (q ≡ r) × (is_active X r ≡ true)
  labelled_active r q e = by (is_counted X r) refl e
    where
      counted : is_counted X r ≡ is_active X r
      counted = ap (λ place. is_counted_by place (is_active X r) (nat_lt r (length X.rows))) all

      by : (b : Bool) → is_counted X r ≡ b → cond b (Some r) None ≡ Some q → (q ≡ r) × (is_active X r ≡ true)
      by true c e = (sym (same_Some r q e), sym counted ∙ c)
      by false c e = absurd (cc e)

  -- an active row stands for itself
  pub active_labelled : (r : ℕ) → is_active X r ≡ true → row_label X r ≡ Some r
  active_labelled r active = ap (λ b. cond b (Some r) None) (ap (λ place. is_counted_by place (is_active X r) (nat_lt r (length X.rows))) all ∙ active)

  kept_other : (branch number : ℕ) (chosen : Bool) → number ≢ branch → is_kept_at branch number chosen ≡ is_fixed_at branch number chosen
  kept_other branch number chosen other = ap (λ b. cond (nat_lt number branch) chosen (cond b (not chosen) true)) (ne_eqb number branch other)

  fixed_next : (branch number : ℕ) (chosen : Bool) → number ≢ branch → is_fixed_at branch number chosen ≡ is_fixed_at (branch + 1) number chosen
  fixed_next branch number chosen other =
      ⊎_elim
      (λ (less : number < branch). ap (λ b. cond b chosen true) (lt-ltb number branch less ∙ sym (lt-ltb number (branch + 1) (omega (arith, less)))))
      (λ (from : branch ≤ number). ap (λ b. cond b chosen true) (le-ltb number branch from ∙ sym (le-ltb number (branch + 1) (omega (arith, from, other)))))
      (cases_lt number branch)

  -- no row is before the first branch
  pub fixes_first : (r k : ℕ) → fixes_cell X f 1 r k ≡ true
  fixes_first r k = by (row_label X r) (column_label X k)
    where
      by : (row column : Option ℕ) → fixes_labelled X f 1 row column ≡ true
      by (Some q) (Some d) = ap (λ b. cond b (is_chosen f (q, d)) true) (le-ltb (row_number X q) 1 (omega arith))
      by (Some q) None = refl
      by None column = refl

  module _ (row : ℕ) (active : is_active X row ≡ true) where
    abbrev branch : ℕ
    branch = row_number X row

    pub other_number : (q : ℕ) → is_active X q ≡ true → q ≢ row → row_number X q ≢ branch
    other_number q there other e = other (same-rank (is_active X) q row there active (omega (arith, e)))

    kept_rest : (r k : ℕ) → r ≢ row → fixes_cell X f branch r k ≡ keeps_cell X f branch r k
    kept_rest r k other = by (row_label X r) (column_label X k) refl
      where
        by : (label column : Option ℕ) → row_label X r ≡ label → fixes_labelled X f branch label column ≡ keeps_labelled X f branch label column
        by (Some q) (Some d) e =
            let at = labelled_active r q e in
            let there : is_active X q ≡ true = ap (is_active X) at.0 ∙ at.1 in
            sym (ap (λ b. cond b (is_kept_at branch (row_number X q) (is_chosen f (q, d))) true) there ∙ kept_other branch (row_number X q) (is_chosen f (q, d)) (other_number q there (λ s. other (sym at.0 ∙ s))))
        by (Some q) None e = refl
        by None column e = refl

    fixed_rest : (r k : ℕ) → r ≢ row → keeps_cell X f branch r k ≡ fixes_cell X f (branch + 1) r k
    fixed_rest r k other = sym (kept_rest r k other) ∙ by (row_label X r) (column_label X k) refl
      where
        by : (label column : Option ℕ) → row_label X r ≡ label → fixes_labelled X f branch label column ≡ fixes_labelled X f (branch + 1) label column
        by (Some q) (Some d) e =
            let at = labelled_active r q e in
            let there : is_active X q ≡ true = ap (is_active X) at.0 ∙ at.1 in
            fixed_next branch (row_number X q) (is_chosen f (q, d)) (other_number q there (λ s. other (sym at.0 ∙ s)))
        by (Some q) None e = refl
        by None column e = refl

    kept_here : (k : ℕ) → keeps_cell X f branch row k ≡ keeps_copies (slice_index_or f row None) false (column_label X k)
    kept_here k = ap (λ label. keeps_labelled X f branch label (column_label X k)) (active_labelled row active) ∙ by (column_label X k)
      where
        by : (column : Option ℕ) → keeps_labelled X f branch (Some row) column ≡ keeps_copies (slice_index_or f row None) false column
        by (Some d) =
            ap (λ b. cond b (is_kept_at branch branch (is_chosen f (row, d))) true) active
            ∙ ap (λ b. cond b (is_chosen f (row, d)) (cond (eqb branch branch) (not (is_chosen f (row, d))) true)) (le-ltb branch branch (omega arith))
            ∙ ap (λ b. cond b (not (is_chosen f (row, d))) true) (eq-eqb branch branch refl)
        by None = refl

    fixed_here : (k : ℕ) → fixes_cell X f (branch + 1) row k ≡ keeps_copies (slice_index_or f row None) true (column_label X k)
    fixed_here k = ap (λ label. fixes_labelled X f (branch + 1) label (column_label X k)) (active_labelled row active) ∙ by (column_label X k)
      where
        by : (column : Option ℕ) → fixes_labelled X f (branch + 1) (Some row) column ≡ keeps_copies (slice_index_or f row None) true column
        by (Some d) = ap (λ b. cond b (is_chosen f (row, d)) true) (lt-ltb branch (branch + 1) (omega arith))
        by None = refl

    module _ (before after : BitTable) (chosen : Option ℕ) (is : slice_index_or f row None ≡ chosen) where
      put_is : (keep other : ℕ → ℕ → Bool) (alone : Bool) → AreBitsFor (square_side X) keep before → PutsRow before after row (λ k. keeps_copies chosen alone (column_label X k)) → ((r k : ℕ) → r ≢ row → keep r k ≡ other r k) → ((k : ℕ) → other row k ≡ keeps_copies (slice_index_or f row None) alone (column_label X k)) → AreBitsFor (square_side X) other after
      put_is keep other alone bits puts rest here = record {
        rows = puts.rows ∙ bits.rows;
        columns = puts.columns ∙ bits.columns;
        each = λ r k hr hk.
            puts.bits r k (subst (λ n. k < n) (sym bits.columns) hk)
            ∙ ⊎_elim
            (λ (same : r ≡ row).
            cond-true (eqb r row) (keeps_copies chosen alone (column_label X k)) (has_bit before r k) (eq-eqb r row same)
            ∙ ap (λ o. keeps_copies o alone (column_label X k)) (sym is)
            ∙ sym (here k)
            ∙ ap (λ q. other q k) (sym same))
            (λ (apart : r ≡ row → ⊥).
            cond-false (eqb r row) (keeps_copies chosen alone (column_label X k)) (has_bit before r k) (ne_eqb r row apart)
            ∙ bits.each r k hr hk ∙ rest r k apart)
            (cases_eq r row);
      }

      -- the row loses its column
      pub bits_lost : AreBitsFor (square_side X) (fixes_cell X f branch) before → PutsRow before after row (λ k. keeps_copies chosen false (column_label X k)) → AreBitsFor (square_side X) (keeps_cell X f branch) after
      bits_lost bits puts = put_is (fixes_cell X f branch) (keeps_cell X f branch) false bits puts kept_rest kept_here

      -- and then it keeps that alone
      pub bits_fixed : AreBitsFor (square_side X) (keeps_cell X f branch) before → PutsRow before after row (λ k. keeps_copies chosen true (column_label X k)) → AreBitsFor (square_side X) (fixes_cell X f (branch + 1)) after
      bits_fixed bits puts = put_is (keeps_cell X f branch) (fixes_cell X f (branch + 1)) true bits puts fixed_rest fixed_here
