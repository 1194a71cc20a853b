-- Rows of bits that keep all cells, the copies of a column alone, or all but these.
use Rattle.asg_kept_cells.proofs.Common.{◌≡◌, ℕ, ◌<◌, ◌≤◌, Bool, true, false, cond, not, ◌&&◌, eqb, ◌≢◌, List, get_or, is_some, nat_lt, Some, None, Option, sym, refl, ap, ◌∙◌, arith, ltb-false, ltb-true, le-ltb, lt-ltb, eq-eqb, ne_eqb, cond-false, cond-true, BitTable, PutsColumns, PutsOnly, has_bit, is_from_to, in_run, out_of_run, AreCopies, is_copy, keeps_alone, keeps_others, HasSize, MarksRow, keeps_label, takes}
use Rattle.asg_kept_cells.specs.declared.copies.Run.{Run}

same_row : (row : ℕ) → eqb row row ≡ true
same_row row = eq-eqb row row refl

module _ (before after : BitTable) (row from to : ℕ) (is_set : Bool) (puts : PutsColumns before after row from to is_set) where
  put_here : (k : ℕ) → has_bit after row k ≡ cond (is_from_to from to k) is_set (has_bit before row k)
  put_here k = puts.bits row k ∙ ap (λ b. cond (b && is_from_to from to k) is_set (has_bit before row k)) (same_row row)

  put_others : (r k : ℕ) → r ≢ row → has_bit after r k ≡ has_bit before r k
  put_others r k apart = puts.bits r k ∙ ap (λ b. cond (b && is_from_to from to k) is_set (has_bit before r k)) (ne_eqb r row apart)

  put_size : (side : ℕ) → HasSize side before → HasSize side after
  put_size side size = record { rows = puts.rows ∙ size.rows; columns = puts.columns ∙ size.columns }

module _ (labels : List (Option ℕ)) (side row : ℕ) (before : BitTable) (size : HasSize side before) where
  -- a row keeps all cells
  pub all_kept : (after : BitTable) → PutsColumns before after row 0 side true → MarksRow labels side (λ _. true) row before after
  all_kept after puts = record {
    size = put_size before after row 0 side true puts side size;
    here = λ k below.
        put_here before after row 0 side true puts k
        ∙ cond-true (is_from_to 0 side k) true (has_bit before row k) (in_run 0 side k (omega arith) below);
    others = put_others before after row 0 side true puts;
  }

  module _ (middle after : BitTable) (chosen : Option ℕ) (run : Run) (copies : AreCopies labels side chosen run) where
    -- all but the copies of a column
    pub others_kept : PutsColumns before middle row 0 side true → PutsColumns middle after row run.from run.to false → MarksRow labels side (keeps_others chosen) row before after
    others_kept all lost =
        let whole = all_kept middle all in
        record {
          size = put_size middle after row run.from run.to false lost side whole.size;
          here = λ k below.
              put_here middle after row run.from run.to false lost k
              ∙ ap (λ b. cond (is_from_to run.from run.to k) false b) (whole.here k below)
              ∙ turned (is_from_to run.from run.to k)
              ∙ ap not (copies.each k);
          others = λ r k apart. put_others middle after row run.from run.to false lost r k apart ∙ whole.others r k apart;
        }
      where
        turned : (b : Bool) → cond b false true ≡ not b
        turned true = refl
        turned false = refl

    alone_bit : (count k : ℕ) (label : Option ℕ) → k < side → is_some label ≡ nat_lt k count → is_from_to run.from run.to k ≡ is_copy chosen label → cond (is_from_to count side k) true (is_from_to run.from run.to k) ≡ keeps_alone chosen label
    alone_bit count k None below there is =
        cond-true (is_from_to count side k) true (is_from_to run.from run.to k) (in_run count side k (ltb-false k count (sym there)) below)
    alone_bit count k (Some d) below there is =
        cond-false (is_from_to count side k) true (is_from_to run.from run.to k) (out_of_run count side k (λ from less. omega (arith, from, ltb-true k count (sym there))))
        ∙ is

    -- the copies of a column alone
    pub alone_kept : (count : ℕ) → ((k : ℕ) → is_some (get_or labels k None) ≡ nat_lt k count) → PutsOnly before middle row run.from run.to → PutsColumns middle after row count side true → MarksRow labels side (keeps_alone chosen) row before after
    alone_kept count there only free = record {
      size = put_size middle after row count side true free side (record { rows = only.rows ∙ size.rows; columns = only.columns ∙ size.columns });
      here = λ k below.
          put_here middle after row count side true free k
          ∙ ap (λ b. cond (is_from_to count side k) true b)
          (only.bits row k ∙ ap (λ b. cond b (is_from_to run.from run.to k) (has_bit before row k)) (same_row row))
          ∙ alone_bit count k (get_or labels k None) below (there k) (copies.each k);
      others = λ r k apart.
          put_others middle after row count side true free r k apart
          ∙ only.bits r k ∙ ap (λ b. cond b (is_from_to run.from run.to k) (has_bit before r k)) (ne_eqb r row apart);
    }

-- ---- by the number of a row

module _ (branch number : ℕ) (chosen : Option ℕ) where
  pub label_after : branch < number → (label : Option ℕ) → true ≡ keeps_label branch number chosen label
  label_after more None = refl
  label_after more (Some d) =
      sym (cond-false (nat_lt number branch) (takes d chosen) _ (le-ltb number branch (omega (arith, more)))
      ∙ cond-false (eqb number branch) (not (takes d chosen)) true (ne_eqb number branch (λ e. omega (arith, e, more))))

  pub label_alone : number < branch → (label : Option ℕ) → keeps_alone chosen label ≡ keeps_label branch number chosen label
  label_alone less None = refl
  label_alone less (Some d) = sym (cond-true (nat_lt number branch) (takes d chosen) _ (lt-ltb number branch less))

  pub label_lost : number ≤ branch → branch ≤ number → (label : Option ℕ) → keeps_others chosen label ≡ keeps_label branch number chosen label
  label_lost upto from None = refl
  label_lost upto from (Some d) =
      sym (cond-false (nat_lt number branch) (takes d chosen) _ (le-ltb number branch from)
      ∙ cond-true (eqb number branch) (not (takes d chosen)) true (eq-eqb number branch (omega (arith, upto, from))))

-- a row whose bits are set by one test is so by another that says the same
pub marks_alike : (labels : List (Option ℕ)) (side row : ℕ) (keeps other : Option ℕ → Bool) (before after : BitTable) → ((label : Option ℕ) → keeps label ≡ other label) → MarksRow labels side keeps row before after → MarksRow labels side other row before after
marks_alike labels side row keeps other before after same marks = record {
  size = marks.size;
  here = λ k below. marks.here k below ∙ same (get_or labels k None);
  others = marks.others;
}
