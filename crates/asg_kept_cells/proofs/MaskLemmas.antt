-- Rows of bits of a branch, row by row.
use Rattle.asg_kept_cells.proofs.Common.{◌≡◌, ℕ, zero, suc, ◌+◌, ◌-◌, ◌<◌, ◌≤◌, min, max, Bool, true, false, cond, not, eqb, ◌≢◌, ◌⊎◌, List, length, get_or, nat_lt, Some, None, Option, sym, refl, ap, ◌∙◌, subst, inl, inr, ⊎_elim, arith, le-ltb, lt-ltb, ne_eqb, cases_Bool, cases_eq, cases_lt, cond-false, cond-true, false≢true, get_or-map-range_with_len, get_or_default, BitTable, has_bit, HasSize, IsFront, IsMaskOf, IsNumbered, KeepsOtherRows, MarksNumbered, MarksRow, MarksRows, keeps_label, is_counted_by, is_active, Problem, square_side, count_below, takes, HasLabelsOf, Grid, column_label, row_label}
use Rattle.asg_model.specs.declared.parts.Row.{Row}
use Rattle.asg_model.specs.laws.Rows.{active_below, no_row, row-from_active}
use Rattle.asg_square.specs.laws.Bijections.{sum_below-split}
use Rattle.asg_rankings.specs.Children.{is_chosen, is_kept_at, row_number}
use Rattle.asg_rankings.specs.Masks.{keeps_cell, keeps_labelled}
use Rattle.asg_kept_cells.specs.declared.masks.Front.{Front}
use Rattle.asg_model.specs.declared.parts.Place.TheVariants.{All as PlaceAll}

-- ---- rows by their numbers

count_upto : (p : ℕ → Bool) (a b : ℕ) → a ≤ b → count_below p a ≤ count_below p b
count_upto p a b upto =
    let place : a + (b - a) ≡ b = omega (arith, upto) in
    let split = sum_below-split (λ k. cond (p k) 1 0) a (b - a) in
    omega (arith, split, ap (count_below p) place)

module _ (X : Problem) (f labels : List (Option ℕ)) (side branch from to : ℕ) where
  -- a row that isn't numbered so stays
  pub unmarked : (row : ℕ) (bits : BitTable) → HasSize side bits → (IsNumbered X from to row → ⊥) → MarksNumbered X f labels side branch from to row bits bits
  unmarked row bits size none = record {
    size = size;
    marked = λ k below numbered. absurd (none numbered);
    others = λ r k apart. refl;
  }

  -- a row whose bits are set is
  pub marked_row : (row number : ℕ) (chosen : Option ℕ) (before after : BitTable) → number ≡ row_number X row → chosen ≡ get_or f row None → IsNumbered X from to row
      → MarksRow labels side (keeps_label branch number chosen) row before after → MarksNumbered X f labels side branch from to row before after
  marked_row row number chosen before after is given numbered m = record {
    size = m.size;
    marked = λ k below n.
        m.here k below
        ∙ ap (λ i. keeps_label branch i chosen (get_or labels k None)) is
        ∙ ap (λ o. keeps_label branch (row_number X row) o (get_or labels k None)) given;
    others = λ r k apart. ⊎_elim (λ (other : r ≢ row). m.others r k other) (λ (none : IsNumbered X from to row → ⊥). absurd (none numbered)) apart;
  }

  -- rows that aren't numbered so stay
  pub rows_apart : (row : ℕ) (bits : BitTable) → HasSize side bits → ((r : ℕ) → r < row → IsNumbered X from to r → ⊥) → MarksRows X f labels side branch from to row bits bits
  rows_apart row bits size apart = record { size = size; marked = λ r k below hk numbered. absurd (apart r below numbered); others = λ r k past. refl }

  pub rows_more : (row : ℕ) (before so_far after : BitTable) → MarksRows X f labels side branch from to row before so_far → MarksNumbered X f labels side branch from to row so_far after → MarksRows X f labels side branch from to (row + 1) before after
  rows_more row before so_far after m one = record {
    size = one.size;
    marked = λ r k below hk numbered.
        ⊎_elim
        (λ (same : r ≡ row).
        subst (λ i. has_bit after i k ≡ keeps_label branch (row_number X i) (get_or f i None) (get_or labels k None)) (sym same)
        (one.marked k hk (subst (IsNumbered X from to) same numbered)))
        (λ (other : r ≢ row). one.others r k (inl other) ∙ m.marked r k (omega (arith, below, other)) hk numbered)
        (cases_eq r row);
    others = λ r k apart.
        ⊎_elim
        (λ (past : row + 1 ≤ r). one.others r k (inl (λ e. omega (arith, e, past))) ∙ m.others r k (inl (omega (arith, past))))
        (λ (none : IsNumbered X from to r → ⊥).
        ⊎_elim
        (λ (same : r ≡ row). one.others r k (inr (subst (λ i. IsNumbered X from to i → ⊥) same none)) ∙ m.others r k (inr none))
        (λ (other : r ≢ row). one.others r k (inl other) ∙ m.others r k (inr none))
        (cases_eq r row))
        apart;
  }

  -- where the rows before one have all the numbers, no row from it on is numbered so
  pub rows_done : (row : ℕ) (before after : BitTable) → row ≤ length X.rows → to ≤ count_below (is_active X) row → MarksRows X f labels side branch from to row before after → MarksRows X f labels side branch from to (length X.rows) before after
  rows_done row before after within all m = record {
    size = m.size;
    marked = λ r k below hk numbered.
        ⊎_elim
        (λ (old : r < row). m.marked r k old hk numbered)
        (λ (new : row ≤ r). let up = count_upto (is_active X) row r new in absurd (omega (arith, numbered.most, all, up)))
        (cases_lt r row);
    others = λ r k apart.
        ⊎_elim
        (λ (past : length X.rows ≤ r). m.others r k (inl (omega (arith, past, within))))
        (λ (none : IsNumbered X from to r → ⊥). m.others r k (inr none))
        apart;
  }

-- ---- whole masks

count_one : (b : Bool) (s n : ℕ) → s ≤ n → s + cond b 1 0 ≤ suc n
count_one true s n less = omega (arith, less)
count_one false s n less = omega (arith, less)

pub count_few : (p : ℕ → Bool) (n : ℕ) → count_below p n ≤ n
count_few p zero = omega arith
count_few p (suc n) = count_one (p n) (count_below p n) n (count_few p n)

same_side : (branch other number : ℕ) (chosen : Bool) → (number < min branch other) ⊎ (max branch other < number) → is_kept_at branch number chosen ≡ is_kept_at other number chosen
same_side branch other number chosen (inl less) =
    cond-true (nat_lt number branch) chosen _ (lt-ltb number branch (omega (arith, less)))
    ∙ sym (cond-true (nat_lt number other) chosen _ (lt-ltb number other (omega (arith, less))))
same_side branch other number chosen (inr more) =
    cond-false (nat_lt number branch) chosen _ (le-ltb number branch (omega (arith, more)))
    ∙ cond-false (eqb number branch) (not chosen) true (ne_eqb number branch (λ e. omega (arith, e, more)))
    ∙ sym
    (cond-false (nat_lt number other) chosen _ (le-ltb number other (omega (arith, more)))
    ∙ cond-false (eqb number other) (not chosen) true (ne_eqb number other (λ e. omega (arith, e, more))))

module _ {V : Type 0} (X : Problem) (f : List (Option ℕ)) (all : X.place ≡ PlaceAll) (Q : Grid V) (labels : HasLabelsOf X Q) where
  column_is : (k : ℕ) → k < square_side X → get_or Q.column_labels k None ≡ column_label X k
  column_is k below =
      ap (λ xs. get_or xs k None) labels.column_labels
      ∙ get_or-map-range_with_len (column_label X) 0 (square_side X) k k None below (omega arith)

  row_is : (r : ℕ) (b : Bool) → is_active X r ≡ b → row_label X r ≡ cond b (Some r) None
  row_is r b e =
      ap (λ place. cond (is_counted_by place (is_active X r) (nat_lt r (length X.rows))) (Some r) None) all
      ∙ ap (λ c. cond c (Some r) None) e

  -- the cells of other rows are kept
  other_kept : (branch r k : ℕ) → is_active X r ≢ true → keeps_cell X f branch r k ≡ true
  other_kept branch r k off =
      ap (λ o. keeps_labelled X f branch o (column_label X k))
      (⊎_elim (λ (on : is_active X r ≡ true). absurd (off on)) (λ (none : is_active X r ≡ false). row_is r false none) (cases_Bool (is_active X r)))

  kept_label : (branch r : ℕ) (o : Option ℕ) → is_active X r ≡ true → keeps_labelled X f branch (Some r) o ≡ keeps_label branch (row_number X r) (get_or f r None) o
  kept_label branch r None active = refl
  kept_label branch r (Some d) active = cond-true (is_active X r) (is_kept_at branch (row_number X r) (is_chosen f (r, d))) true active

  -- those of an active row by its number
  active_kept : (branch r k : ℕ) → k < square_side X → is_active X r ≡ true → keeps_cell X f branch r k ≡ keeps_label branch (row_number X r) (get_or f r None) (get_or Q.column_labels k None)
  active_kept branch r k below active =
      ap (λ o. keeps_labelled X f branch o (column_label X k)) (row_is r true active)
      ∙ kept_label branch r (column_label X k) active
      ∙ ap (keeps_label branch (row_number X r) (get_or f r None)) (sym (column_is k below))

  same_label : (branch other r : ℕ) (o : Option ℕ) → (row_number X r < min branch other) ⊎ (max branch other < row_number X r) → keeps_label branch (row_number X r) (get_or f r None) o ≡ keeps_label other (row_number X r) (get_or f r None) o
  same_label branch other r None past = refl
  same_label branch other r (Some d) past = same_side branch other (row_number X r) (takes d (get_or f r None)) past

  module _ (branch : ℕ) (before after : BitTable) where
    -- all numbers are marked
    made : (most : ℕ) → length X.rows ≤ most → KeepsOtherRows X before → MarksRows X f Q.column_labels (square_side X) branch 0 most (length X.rows) before after → IsMaskOf X f branch after
    made most few kept m = record {
      size = m.size;
      each = λ r k hr hk.
          ⊎_elim
          (λ (active : is_active X r ≡ true).
          let there = row-from_active X r active in
          m.marked r k there hk (record { active = active; least = omega arith; most = omega (arith, count_few (is_active X) r, there, few) })
          ∙ sym (active_kept branch r k hk active))
          (λ (none : is_active X r ≡ false).
          let off : is_active X r ≢ true = λ on. false≢true (sym none ∙ on) in
          m.others r k (inr (λ numbered. off numbered.active)) ∙ kept.each r k hr hk off ∙ sym (other_kept branch r k off))
          (cases_Bool (is_active X r));
    }

    -- those between two branches are marked
    moved : (old : ℕ) → IsMaskOf X f old before → MarksRows X f Q.column_labels (square_side X) branch (min old branch) (max old branch) (length X.rows) before after → IsMaskOf X f branch after
    moved old mask m = record { size = m.size; each = each }
      where
        far : (r k : ℕ) → r < square_side X → k < square_side X → is_active X r ≡ true → (row_number X r < min old branch) ⊎ (max old branch < row_number X r) → has_bit after r k ≡ keeps_cell X f branch r k
        far r k hr hk active past =
            m.others r k (inr (λ numbered. ⊎_elim (λ (less : row_number X r < min old branch). omega (arith, less, numbered.least)) (λ (more : max old branch < row_number X r). omega (arith, more, numbered.most)) past))
            ∙ mask.each r k hr hk
            ∙ active_kept old r k hk active
            ∙ same_label old branch r (get_or Q.column_labels k None) past
            ∙ sym (active_kept branch r k hk active)

        each : (r k : ℕ) → r < square_side X → k < square_side X → has_bit after r k ≡ keeps_cell X f branch r k
        each r k hr hk =
            ⊎_elim
            (λ (active : is_active X r ≡ true).
            ⊎_elim
            (λ (less : row_number X r < min old branch). far r k hr hk active (inl less))
            (λ (from : min old branch ≤ row_number X r).
            ⊎_elim
            (λ (more : max old branch < row_number X r). far r k hr hk active (inr more))
            (λ (upto : row_number X r ≤ max old branch).
            m.marked r k (row-from_active X r active) hk (record { active = active; least = from; most = upto })
            ∙ sym (active_kept branch r k hk active))
            (cases_lt (max old branch) (row_number X r)))
            (cases_lt (row_number X r) (min old branch)))
            (λ (none : is_active X r ≡ false).
            let off : is_active X r ≢ true = λ on. false≢true (sym none ∙ on) in
            m.others r k (inr (λ numbered. off numbered.active)) ∙ mask.each r k hr hk ∙ other_kept old r k off ∙ sym (other_kept branch r k off))
            (cases_Bool (is_active X r))

    -- the same, where the side, the numbers and the branches are told by equations
    pub mask_made : (most side : ℕ) → side ≡ square_side X → MarksRows X f Q.column_labels side branch 0 most (length X.rows) before after → length X.rows ≤ most → KeepsOtherRows X before → IsMaskOf X f branch after
    mask_made most side same m few kept = made most few kept (subst (λ n. MarksRows X f Q.column_labels n branch 0 most (length X.rows) before after) same m)

    pub mask_moved : (old side from to : ℕ) → side ≡ square_side X → from ≡ min old branch → to ≡ max old branch → MarksRows X f Q.column_labels side branch from to (length X.rows) before after → IsMaskOf X f old before → IsMaskOf X f branch after
    mask_moved old side from to same least most m mask =
        moved old mask
        (subst (λ n. MarksRows X f Q.column_labels n branch (min old branch) (max old branch) (length X.rows) before after) same
        (subst (λ n. MarksRows X f Q.column_labels side branch n (max old branch) (length X.rows) before after) least
        (subst (λ n. MarksRows X f Q.column_labels side branch from n (length X.rows) before after) most m)))

-- ---- numbers of active rows

pub active_read : (X : Problem) (row : ℕ) (rows : List Row) (d : Row) → rows ≡ X.rows → row < length X.rows → (get_or rows row d).active ≡ true → is_active X row ≡ true
active_read X row rows d same within e =
    active_below X row within
    ∙ ap (λ (r : Row). r.active) (get_or_default X.rows row no_row d within)
    ∙ ap (λ (rs : List Row). (get_or rs row d).active) (sym same)
    ∙ e

pub count_up : (p : ℕ → Bool) (row before : ℕ) → before ≡ count_below p row → p row ≡ true → before + 1 ≡ count_below p (row + 1)
count_up p row before is passes =
    let more : row + 1 ≡ suc row = omega arith in
    let step : count_below p (suc row) ≡ count_below p row + 1 = ap (λ b. count_below p row + cond b 1 0) passes in
    omega (arith, is, step, ap (count_below p) more)

-- ---- where to start

-- before a row before which there are fewer active ones none has such a number
pub front_apart : (X : Problem) (front : Front) (from to : ℕ) → IsFront X front → front.number < from → (r : ℕ) → r < front.row → IsNumbered X from to r → ⊥
front_apart X front from to is less r before numbered =
    let up = count_upto (is_active X) (r + 1) front.row (omega (arith, before)) in
    let here = count_up (is_active X) r (count_below (is_active X) r) refl numbered.active in
    omega (arith, up, here, is.number, less, numbered.least)
