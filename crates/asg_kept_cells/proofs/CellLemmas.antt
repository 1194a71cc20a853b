-- Cells taken out of a square, one after another.
use Rattle.asg_kept_cells.proofs.Common.{◌≡◌, ℕ, ◌+◌, ◌-◌, ◌*◌, ◌<◌, ◌≤◌, Bool, true, false, cond, not, ◌&&◌, ◌≢◌, ◌⊎◌, is_some, Some, None, Option, sym, refl, ap, ◌∙◌, subst, inl, inr, ⊎_elim, arith, and_parts, bit_at, cases_Bool, cases_eq, cases_lt, false≢true, not-true, same_labels, chained_labels, BitTable, has_bit, is_bit_set, HasBit, bit_of, of_bit, HasSize, TakesOutBits, TakesOutRow, TakesOutRows, keeps-bit, none_kept, outside, HasSide, HasSide-cell_at, Grid, IsGrid, cell_at, keeps, masked_grid, cell_at-masked}

-- ---- a row

module _ {V : Type 0} (bits : BitTable) (row : ℕ) (before : Grid V) where
  pub row_none : TakesOutRow bits row 0 before before
  row_none = record { labels = same_labels before; taken = λ k below. absurd (omega (arith, below)); others = λ r k apart. refl }

  -- so many columns that all are among them
  pub row_whole : (columns side : ℕ) (after : Grid V) → HasSide side (cell_at before) → side ≤ columns → TakesOutRow bits row columns before after → TakesOutRow bits row side before after
  row_whole columns side after has upto t = record {
    labels = t.labels;
    taken = λ k below. t.taken k (omega (arith, below, upto));
    others = λ r k apart.
        ⊎_elim
        (λ (other : r ≢ row). t.others r k (inl other))
        (λ (past : side ≤ k).
        ⊎_elim
        (λ (same : r ≡ row).
        ⊎_elim
        (λ (within : k < columns).
        subst (λ i. cell_at after i k ≡ cell_at before i k) (sym same)
        (t.taken k within ∙ none_kept (has_bit bits row k) true (cell_at before row k) (outside side (cell_at before) has row k (inr past))))
        (λ (beyond : columns ≤ k). t.others r k (inr beyond))
        (cases_lt k columns))
        (λ (other : r ≢ row). t.others r k (inl other))
        (cases_eq r row))
        apart;
  }

  module _ (n word : ℕ) (so_far : Grid V) (t : TakesOutRow bits row (64 * n) before so_far) (is : (k : ℕ) → k < 64 → is_bit_set word k ≡ (is_some (cell_at so_far row (64 * n + k)) && not (has_bit bits row (64 * n + k)))) where
    -- the columns of the bits of a word are there
    pub inside : (side : ℕ) → HasSide side (cell_at before) → (k : ℕ) → k < 64 → HasBit word k → 64 * n + k < side
    inside side has k below set =
        let column = 64 * n + k in
        let parts = and_parts (is_some (cell_at so_far row column)) (not (has_bit bits row column)) (sym (is k below) ∙ of_bit (bit_at word k) set) in
        let there = has row column (sym (ap is_some (t.others row column (inr (omega arith)))) ∙ parts.0) in
        there.1

    -- a cell that is kept, or that isn't there, is as before
    stays : (b : Bool) (o : Option V) → (is_some o && not b) ≡ false → o ≡ cond b o None
    stays true o e = refl
    stays false None e = refl
    stays false (Some x) e = absurd (false≢true (sym e))

    module _ (after : Grid V) (w : TakesOutBits row (64 * n) word so_far after) where
      -- the cells of one more word
      word_taken : (k : ℕ) → k < 64 → cell_at after row (64 * n + k) ≡ cond (has_bit bits row (64 * n + k)) (cell_at before row (64 * n + k)) None
      word_taken k below =
          let column = 64 * n + k in
          let old = t.others row column (inr (omega arith)) in
          ⊎_elim
          (λ (goes : is_bit_set word k ≡ true).
          let parts = and_parts (is_some (cell_at so_far row column)) (not (has_bit bits row column)) (sym (is k below) ∙ goes) in
          w.taken k below (bit_of (bit_at word k) goes)
          ∙ sym (ap (λ b. cond b (cell_at before row column) None) (not-true (has_bit bits row column) parts.1)))
          (λ (remains : is_bit_set word k ≡ false).
          w.others row column
          (inr (λ j low set e.
          let same : k ≡ j = omega (arith, e) in
          false≢true (sym remains ∙ ap (is_bit_set word) same ∙ of_bit (bit_at word j) set)))
          ∙ old
          ∙ stays (has_bit bits row column) (cell_at before row column) (ap (λ o. is_some o && not (has_bit bits row column)) (sym old) ∙ sym (is k below) ∙ remains))
          (cases_Bool (is_bit_set word k))

      pub row_more : TakesOutRow bits row (64 * (n + 1)) before after
      row_more = record {
        labels = chained_labels before so_far after t.labels w.labels;
        taken = λ k below.
            ⊎_elim
            (λ (old : k < 64 * n). w.others row k (inr (λ j low set e. omega (arith, e, old))) ∙ t.taken k old)
            (λ (new : 64 * n ≤ k).
            let place : 64 * n + (k - 64 * n) ≡ k = omega (arith, new) in
            subst (λ i. cell_at after row i ≡ cond (has_bit bits row i) (cell_at before row i) None) place (word_taken (k - 64 * n) (omega (arith, new, below))))
            (cases_lt k (64 * n));
        others = λ r k apart.
            ⊎_elim
            (λ (other : r ≢ row). w.others r k (inl other) ∙ t.others r k (inl other))
            (λ (past : 64 * (n + 1) ≤ k).
            w.others r k (inr (λ j low set e. omega (arith, e, past, low)))
            ∙ t.others r k (inr (omega (arith, past))))
            apart;
      }

-- ---- all rows

module _ {V : Type 0} (bits : BitTable) (before : Grid V) where
  pub rows_none : TakesOutRows bits 0 before before
  rows_none = record { labels = same_labels before; taken = λ r k below. absurd (omega (arith, below)); others = λ r k apart. refl }

  pub rows_more : (row : ℕ) (so_far after : Grid V) → TakesOutRows bits row before so_far → TakesOutRow bits row before.side so_far after → TakesOutRows bits (row + 1) before after
  rows_more row so_far after t one = record {
    labels = chained_labels before so_far after t.labels one.labels;
    taken = λ r k below hk.
        ⊎_elim
        (λ (same : r ≡ row).
        subst (λ i. cell_at after i k ≡ cond (has_bit bits i k) (cell_at before i k) None) (sym same)
        (one.taken k hk ∙ ap (λ o. cond (has_bit bits row k) o None) (t.others row k (inl (omega arith)))))
        (λ (other : r ≢ row). one.others r k (inl other) ∙ t.taken r k (omega (arith, below, other)) hk)
        (cases_eq r row);
    others = λ r k apart.
        ⊎_elim
        (λ (past : row + 1 ≤ r). one.others r k (inl (λ e. omega (arith, e, past))) ∙ t.others r k (inl (omega (arith, past))))
        (λ (past : before.side ≤ k). one.others r k (inr past) ∙ t.others r k (inr past))
        apart;
  }

  -- then the cells are those that the bits keep
  pub taken_out : (after : Grid V) → IsGrid before → HasSize before.side bits → TakesOutRows bits before.side before after → (r k : ℕ) → cell_at after r k ≡ cell_at (masked_grid before bits.words) r k
  taken_out after grid size t r k =
      ⊎_elim
      (λ (row : r < before.side).
      ⊎_elim
      (λ (column : k < before.side).
      t.taken r k row column
      ∙ ap (λ b. cond b (cell_at before r k) None) (sym (keeps-bit bits before.side size.columns r k))
      ∙ sym (cell_at-masked before bits.words r k))
      (λ (past : before.side ≤ k). away (inr past) (t.others r k (inr past)))
      (cases_lt k before.side))
      (λ (past : before.side ≤ r). away (inl past) (t.others r k (inl past)))
      (cases_lt r before.side)
    where
      away : (before.side ≤ r) ⊎ (before.side ≤ k) → cell_at after r k ≡ cell_at before r k → cell_at after r k ≡ cell_at (masked_grid before bits.words) r k
      away past same =
          let none = outside before.side (cell_at before) (HasSide-cell_at before grid) r k past in
          same ∙ none_kept true (keeps before.side bits.words r k) (cell_at before r k) none
          ∙ sym (cell_at-masked before bits.words r k)
