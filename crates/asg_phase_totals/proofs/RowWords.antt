-- The present cells of a row of sums, by the words that say which they are.
use Rattle.asg_phase_totals.proofs.Common.{◌≡◌, ℕ, ◌+◌, ◌*◌, ◌/◌, ◌%◌, ◌<◌, true, eqb, List, length, get_or, is_some, IsSome, Some, None, Option, sym, refl, ap, ◌∙◌, arith, eqb-true, bit_at, false≢true, get_or_from_slice_get, slice_get_within, HasBit, AreValuesOf}
use Rattle.asg_bit_rows.specs.BitTable.{is_bit_set, AreWordsOf}

some_of : {V : Type 0} (o : Option V) → IsSome o → (x : V) × (o ≡ Some x)
some_of None h = absurd (false≢true h)
some_of (Some x) h = (x, refl)

module _ (row : ℕ → Option ℕ) (side : ℕ) (values words : List ℕ) (are_values : AreValuesOf row side values) (are_words : AreWordsOf (λ k. is_some (row k)) side words) where
  -- the cell that a bit says is present, and the value that stands for it
  pub record IsCellAt (k : ℕ) : Type 0 where
    pub within : k < side
    pub value : ℕ
    pub cell : row k ≡ Some value
    pub read : get_or values k 0 ≡ value

  cell_there : (k : ℕ) → IsSome (row k) → IsCellAt k
  cell_there k some =
      let x = some_of (row k) some in
      let at = are_values.each k some ∙ x.1 in
      let h = slice_get_within values k x.0 at in
      record {
        within = omega (arith, h, are_values.count);
        value = x.0;
        cell = x.1;
        read = get_or_from_slice_get values k x.0 0 at;
      }

  -- a bit of a word stands for a present cell
  pub bit_cell : (n k : ℕ) → n < length words → k < 64 → HasBit (get_or words n 0) k → IsCellAt (64 * n + k)
  bit_cell n k h low has =
      let number : (64 * n + k) / 64 ≡ n = omega (arith, low) in
      let place : (64 * n + k) % 64 ≡ k = omega (arith, low) in
      let there = are_words.each (64 * n + k) (omega (arith, low, h)) in
      let set : is_bit_set (get_or words ((64 * n + k) / 64) 0) ((64 * n + k) % 64) ≡ true =
      (λ i. is_bit_set (get_or words (number i) 0) (place i)) ∙ ap (λ b. eqb b 1) has in
      cell_there (64 * n + k) (sym there ∙ set)

  -- the value that stands for a present cell
  pub value_at : (k x : ℕ) → row k ≡ Some x → get_or values k 0 ≡ x
  value_at k x cell = get_or_from_slice_get values k x 0 (are_values.each k (ap is_some cell) ∙ cell)

  -- the bit of a present cell
  pub cell_bit : (k x : ℕ) → k < side → row k ≡ Some x → (k / 64 < length words) × HasBit (get_or words (k / 64) 0) (k % 64)
  cell_bit k x h cell =
      let within : k / 64 < length words = omega (arith, h, are_words.count) in
      (within, eqb-true (bit_at (get_or words (k / 64) 0) (k % 64)) 1 (are_words.each k (omega (arith, within)) ∙ ap is_some cell))
