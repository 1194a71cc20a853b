-- Values of a row that change.
use Rattle.asg_cell_tables.proofs.Common.{◌≡◌, ℕ, ◌+◌, ◌-◌, ◌*◌, ◌/◌, ◌%◌, ◌<◌, ◌≤◌, Bool, true, false, cond, ◌&&◌, eqb, ◌≢◌, ◌⊎◌, List, length, get_or, is_some, IsSome, slice_get, slice_index, None, Option, sym, refl, ap, ◌∙◌, subst, inl, inr, ⊎_elim, arith, lt-ltb, Decides-eqb, bit_at_ones, cases_lt, cases_order, false≢true, get_or_past, mul-add-lt, BitTable, has_bit, is_bit_set, word_count, PutsBit, AreWordsOf, CellTable, entry_at, stored_cells, IsStored, Becomes, MapsTableRow, MayMapRow, MayChange, ChangesValues}
use Rattle.asg_cell_tables.proofs.TableLemmas.{is_table, entry_is, entry_there, past_side}

-- ---- values

-- none changed yet
pub changes_none : {V : Type 0} (values : List V) (start from : ℕ) (has : ℕ → Bool) (changes : ℕ → V → V → Type 0) → ChangesValues values values start from from has changes
changes_none values start from has changes = record {
  count = refl;
  changed = λ k low high is. absurd (omega (arith, low, high));
  others = λ i out. refl;
}

-- some values more
pub changes_more : {V : Type 0} (before now after : List V) (start from mid to : ℕ) (has : ℕ → Bool) (changes : ℕ → V → V → Type 0) → from ≤ mid → mid ≤ to → ChangesValues before now start from mid has changes → ChangesValues now after start mid to has changes → ChangesValues before after start from to has changes
changes_more before now after start from mid to has changes order next first second = record {
  count = second.count ∙ first.count;
  changed = λ k low high is.
      ⊎_elim
      (λ (below : k < mid).
      subst (Becomes (changes k) (slice_get before (start + k))) (sym (second.others (start + k) (inl (omega (arith, below)))))
      (first.changed k low below is))
      (λ (above : mid ≤ k).
      subst (λ o. Becomes (changes k) o (slice_get after (start + k))) (first.others (start + k) (inr (omega (arith, above))))
      (second.changed k above high is))
      (cases_lt k mid);
  others = λ i out.
      ⊎_elim
      (λ (low : i < start + from). second.others i (inl (omega (arith, low, order))) ∙ first.others i (inl low))
      (λ (high : start + to ≤ i). second.others i (inr high) ∙ first.others i (inr (omega (arith, high, next))))
      out;
}

-- the same, by a test that agrees
pub changes_by : {V : Type 0} (before after : List V) (start from to : ℕ) (has test : ℕ → Bool) (changes : ℕ → V → V → Type 0) → ((k : ℕ) → from ≤ k → k < to → test k ≡ has k) → ChangesValues before after start from to test changes → ChangesValues before after start from to has changes
changes_by before after start from to has test changes same c = record {
  count = c.count;
  changed = λ k low high is. c.changed k low high (same k low high ∙ is);
  others = c.others;
}

-- values that may be changed, of which some are changed by now
pub may_more : {V : Type 0} (before now : List V) (start from mid to end : ℕ) (has test : ℕ → Bool) (changes : ℕ → V → V → Type 0) (may : ℕ → V → Type 0) → from ≤ mid → to ≤ end → ((k : ℕ) → mid ≤ k → k < to → test k ≡ has k) → ChangesValues before now start from mid has changes → MayChange before start from end has may → MayChange now start mid to test may
may_more before now start from mid to end has test changes may order within same so_far given k x low high is read =
    given k x (omega (arith, low, order)) (omega (arith, high, within)) (sym (same k low high) ∙ is)
    (sym (so_far.others (start + k) (inr (omega (arith, low)))) ∙ read)

-- a word of ones has each bit
pub ones_have : (k from to : ℕ) → from ≤ k → k < to → to ≤ from + 64 → true ≡ is_bit_set 18446744073709551615 (k - from)
ones_have k from to low high few = sym (ap (λ n. eqb n 1) (bit_at_ones 64 (k - from) (omega (arith, low, high, few))))

-- a bit of a row's words is one of a word
pub word_has : (words : List ℕ) (number to k : ℕ) → to ≤ 64 * number + 64 → 64 * number ≤ k → k < to → is_bit_set (slice_index words number) (k - 64 * number) ≡ is_bit_set (slice_index words (k / 64)) (k % 64)
word_has words number to k few low high =
    let place : number ≡ k / 64 = omega (arith, few, low, high) in
    let bit : k - 64 * number ≡ k % 64 = omega (arith, few, low, high) in
    ap (λ n. is_bit_set (slice_index words n) (k - 64 * number)) place ∙ ap (is_bit_set (slice_index words (k / 64))) bit

-- ---- a row of a table

rows_past : {V : Type 0} (side : ℕ) (cells : List (Option V)) (s k : ℕ) → length cells ≡ side * side → side ≤ s → k < side → entry_at side cells s k ≡ None
rows_past side cells s k size past h =
    ap (λ b. cond b (get_or cells (s * side + k) None) None) (lt-ltb k side h)
    ∙ get_or_past cells (s * side + k) None (grind (arith, size, past))

module _ {V : Type 0} (side : ℕ) (values : List V) (present : BitTable) (s : IsStored side values present) (r : ℕ) (row_below : r < side) (words : List ℕ) (are : AreWordsOf (has_bit present r) present.columns words) where
  abbrev has : ℕ → Bool
  has k = is_bit_set (slice_index words (k / 64)) (k % 64)

  has_is : (k : ℕ) → k < side → has k ≡ has_bit present r k
  has_is k h = are.each k (omega (arith, h, are.count, s.columns))

  pub words_count : length words ≡ word_count side
  words_count = are.count ∙ ap word_count s.columns

  -- what the row asks of its values
  pub may_change : (may : ℕ → V → Type 0) → MayMapRow (entry_at side (stored_cells side values present) r) may → MayChange values (r * side) 0 side (λ k. is_bit_set (slice_index words (k / 64)) (k % 64)) may
  may_change may given k x low high is read =
      given k x (sym (entry_there side values present s r k x row_below high (sym (has_is k high) ∙ is) read))

  module _ (new : List V) (changes : ℕ → V → V → Type 0) (c : ChangesValues values new (r * side) 0 side (λ k. is_bit_set (slice_index words (k / 64)) (k % 64)) changes) where
    pub mapped_stored : IsStored side new present
    mapped_stored = record {
      few = s.few;
      count = c.count ∙ s.count;
      rows = s.rows;
      columns = s.columns;
    }

    abbrev old_entry : ℕ → ℕ → Option V
    old_entry t k = entry_at side (stored_cells side values present) t k

    abbrev new_entry : ℕ → ℕ → Option V
    new_entry t k = entry_at side (stored_cells side new present) t k

    by_bit : (b : Bool) (k : ℕ) → k < side → has_bit present r k ≡ b → Becomes (changes k) (cond b (slice_get values (r * side + k)) None) (cond b (slice_get new (r * side + k)) None)
    by_bit true k h is = c.changed k (omega arith) h (has_is k h ∙ is)
    by_bit false k h is = tt

    becomes_both : (k : ℕ) (o a p q : Option V) → o ≡ a → p ≡ q → Becomes (changes k) a q → Becomes (changes k) o p
    becomes_both k o a p q e f h = subst (λ x. Becomes (changes k) x p) (sym e) (subst (Becomes (changes k) a) (sym f) h)

    row_cells : (k : ℕ) → Becomes (changes k) (old_entry r k) (new_entry r k)
    row_cells k =
        ⊎_elim
        (λ (h : k < side).
        becomes_both k (old_entry r k) (cond (has_bit present r k) (slice_get values (r * side + k)) None) (new_entry r k) (cond (has_bit present r k) (slice_get new (r * side + k)) None)
        (entry_is side values present s r k row_below h) (entry_is side new present mapped_stored r k row_below h)
        (by_bit (has_bit present r k) k h refl))
        (λ (past : side ≤ k).
        becomes_both k (old_entry r k) None (new_entry r k) None (past_side side values present s r k past) (past_side side new present mapped_stored r k past) tt)
        (cases_lt k side)

    apart_out : (t k : ℕ) → t ≢ r → k < side → (t * side + k < r * side + 0) ⊎ (r * side + side ≤ t * side + k)
    apart_out t k apart h =
        ⊎_elim
        (λ (same : t ≡ r). absurd (apart same))
        (⊎_elim
        (λ (before : t < r). let least = mul-add-lt t side k r before h in inl (omega (arith, least)))
        (λ (after : r < t). let last = mul-add-lt r side (side - 1) t after (omega (arith, h)) in inr (omega (arith, last, h))))
        (cases_order t r)

    pub other_cells : (t k : ℕ) → t ≢ r → new_entry t k ≡ old_entry t k
    other_cells t k apart =
        ⊎_elim
        (λ (h : k < side).
        ⊎_elim
        (λ (below : t < side).
        entry_is side new present mapped_stored t k below h
        ∙ ap (λ o. cond (has_bit present t k) o None) (c.others (t * side + k) (apart_out t k apart h))
        ∙ sym (entry_is side values present s t k below h))
        (λ (past : side ≤ t).
        rows_past side (stored_cells side new present) t k (is_table side new present mapped_stored).count past h
        ∙ sym (rows_past side (stored_cells side values present) t k (is_table side values present s).count past h))
        (cases_lt t side))
        (λ (past : side ≤ k). past_side side new present mapped_stored t k past ∙ sym (past_side side values present s t k past))
        (cases_lt k side)

    abbrev with_cells : List (Option V) → CellTable V
    with_cells xs = record { side = side; cells = xs }

    pub maps_row : MapsTableRow (with_cells (stored_cells side values present)) (with_cells (stored_cells side new present)) r changes
    maps_row = record { side = refl; cells = row_cells; others = other_cells }

-- ---- one value

-- a bit that is set stays so
pub put_same : {V : Type 0} (side : ℕ) (values : List V) (present : BitTable) → IsStored side values present → (r c : ℕ) → r < side → c < side → IsSome (entry_at side (stored_cells side values present) r c) → PutsBit present present r c true
put_same side values present s r c h k some = record {
  rows = refl;
  columns = refl;
  bits = λ t d. same t d (eqb t r) (eqb d c) refl refl;
}
  where
    by_bit : (b : Bool) → has_bit present r c ≡ b → is_some (cond b (slice_get values (r * side + c)) None) ≡ true → has_bit present r c ≡ true
    by_bit true is some = is
    by_bit false is some = absurd (false≢true some)

    there : has_bit present r c ≡ true
    there = by_bit (has_bit present r c) refl (sym (ap is_some (entry_is side values present s r c h k)) ∙ some)

    same : (t d : ℕ) (x y : Bool) → eqb t r ≡ x → eqb d c ≡ y → has_bit present t d ≡ cond (x && y) true (has_bit present t d)
    same t d true true e f =
        ap (λ n. has_bit present n d) ((Decides-eqb t r).0 e) ∙ ap (has_bit present r) ((Decides-eqb d c).0 f) ∙ there
    same t d true false e f = refl
    same t d false y e f = refl
