-- Words of the cells whose grades are under a limit.
use Rattle.asg_live_cells.proofs.Common.{◌≡◌, ℕ, ◌+◌, ◌*◌, ◌%◌, ◌/◌, ◌^◌, ◌<◌, ◌≤◌, Bool, true, false, cond, ◌&&◌, ltb, ◌↔◌, List, map, length, get_or, take, is_some, nat_lt, ◌==◌, bit_and, bit_or, Some, None, Option, sym, refl, ap, ◌∙◌, subst, ⊎_elim, zero-mul, arith, length-take, get_or-take, w64, ltb-true, le-ltb, lt-ltb, bit_at, bit_at_set_other, bit_at_set_same, bit_mask_l, bool_byte, cases_eq, cases_lt, false≢true, get_or-map, get_or_from_slice_get, mask_l, none-some, or_zero_r, AreWordsOf, is_bit_set, word_count, HasBit, bit_of, of_bit, same_bool, is_and, bit_in_row, is_under, AreBitsUnder, Grid, cell_at, div-div-eq-div-mul, pow-add}
use Rattle.asg_cell_tables.specs.CellTable.{AreValuesOf}

bit_if : (n : ℕ) (b : Bool) → n ≡ cond {A = ℕ} b 1 0 → (n == 1) ≡ b
bit_if n true e = ap (λ m. m == 1) e
bit_if n false e = ap (λ m. m == 1) e

-- the mask of the lanes that are under a limit
pub under_mask : (grades : List ℕ) (limit : ℕ) → length grades ≡ 64 → AreBitsUnder grades 64 limit (mask_l (map (λ y. ltb y limit) (take 64 grades)))
under_mask grades limit long k h =
    let marks = map (λ y. ltb y limit) (take 64 grades) in
    bit_if (bit_at (mask_l marks) k) (ltb (get_or grades k 0) limit)
    (bit_mask_l marks k
    ∙ ap (λ b. cond {A = ℕ} b 1 0)
    (get_or-map (λ y. ltb y limit) (take 64 grades) k 0 false (omega (arith, length-take 64 grades)) ∙ ap (λ y. ltb y limit) (get_or-take 64 grades k 0 h)))

-- the bits of a word are those of the first so many grades under the limit, and no others
abbrev pub IsUnderMask : List ℕ → ℕ → ℕ → ℕ → Type 0
IsUnderMask grades limit count word = (k : ℕ) → HasBit word k ↔ ((k < count) × (get_or grades k 0 < limit))

mask_set : (grades : List ℕ) (limit place word : ℕ) → place < 64 → get_or grades place 0 < limit → IsUnderMask grades limit place word → IsUnderMask grades limit (place + 1) (bit_or word (1 * 2 ^ place % 2 ^ 64))
mask_set grades limit place word h under bits k = (
  λ has.
      ⊎_elim
      (λ same. (omega arith, subst (λ i. get_or grades i 0 < limit) (sym same) under))
      (λ other. let before = (bits k).0 (sym (bit_at_set_other w64 word place h k other) ∙ has) in (omega (arith, before.0), before.1))
      (cases_eq k place),
  λ both.
      ⊎_elim
      (λ same. ap (bit_at (bit_or word (1 * 2 ^ place % 2 ^ 64))) same ∙ bit_at_set_same w64 word place h)
      (λ other. bit_at_set_other w64 word place h k other ∙ (bits k).1 (omega (arith, both.0, other), both.1))
      (cases_eq k place),
)

mask_clear : (grades : List ℕ) (limit place word : ℕ) → (get_or grades place 0 < limit → ⊥) → IsUnderMask grades limit place word → IsUnderMask grades limit (place + 1) word
mask_clear grades limit place word none bits k = (
  λ has. let before = (bits k).0 has in (omega (arith, before.0), before.1),
  λ both.
      ⊎_elim
      (λ same. absurd (none (subst (λ i. get_or grades i 0 < limit) same both.1)))
      (λ other. (bits k).1 (omega (arith, both.0, other), both.1))
      (cases_eq k place),
)

-- one more grade
pub mask_more : (grades : List ℕ) (limit place word b : ℕ) (t : Bool) → place < 64 → ltb (get_or grades place 0) limit ≡ t → b ≡ bool_byte t → IsUnderMask grades limit place word → IsUnderMask grades limit (place + 1) (bit_or word (b * 2 ^ place % 2 ^ 64))
mask_more grades limit place word b true h e is bits =
    subst (λ n. IsUnderMask grades limit (place + 1) (bit_or word (n * 2 ^ place % 2 ^ 64))) (sym is)
    (mask_set grades limit place word h (ltb-true (get_or grades place 0) limit e) bits)
mask_more grades limit place word b false h e is bits =
    let nothing : 0 * 2 ^ place % 2 ^ 64 ≡ 0 = ap (λ n. n % 2 ^ 64) (zero-mul (2 ^ place)) in
    subst (λ n. IsUnderMask grades limit (place + 1) (bit_or word (n * 2 ^ place % 2 ^ 64))) (sym is)
    (subst (λ n. IsUnderMask grades limit (place + 1) (bit_or word n)) (sym nothing)
    (subst (IsUnderMask grades limit (place + 1)) (sym (or_zero_r word)) (mask_clear grades limit place word (λ under. false≢true (sym e ∙ lt-ltb (get_or grades place 0) limit under)) bits)))

pub mask_bits : (grades : List ℕ) (limit count word : ℕ) → IsUnderMask grades limit count word → AreBitsUnder grades count limit word
mask_bits grades limit count word mask k h =
    same_bool _ _
    (λ e. lt-ltb (get_or grades k 0) limit ((mask k).0 (bit_of (bit_at word k) e)).1)
    (λ e. of_bit (bit_at word k) ((mask k).1 (h, ltb-true (get_or grades k 0) limit e)))

-- a cell past the last column isn't there
pub past_none : (Q : Grid ℕ) (r c : ℕ) → Q.side ≤ c → cell_at Q r c ≡ None
past_none Q r c h = ap (λ b. cond b (get_or Q.cells (r * Q.side + c) None) None) (le-ltb c Q.side h)

-- the bits of a word without its lowest ones
pub shifted_bits : (word s k : ℕ) → is_bit_set (word / 2 ^ s) k ≡ is_bit_set word (s + k)
shifted_bits word s k = ap (λ m. m % 2 == 1) (div-div-eq-div-mul word (2 ^ s) (2 ^ k) ∙ ap (λ p. word / p) (sym (pow-add 2 s k)))

-- the bits of a word of a row under a limit, by its values and its present cells
pub under_bits : (row : ℕ → Option ℕ) (side limit number bits k : ℕ) (words values : List ℕ) → AreWordsOf (λ c. is_some (row c)) side words → AreValuesOf row side values → number < word_count side
    → ((c : ℕ) → side ≤ c → row c ≡ None) → ((j : ℕ) → j < 64 → 64 * number + j < side → is_bit_set bits j ≡ nat_lt (get_or values (64 * number + j) 0) limit)
    → k < 64
    → is_bit_set (bit_and (get_or words number 0) bits) k ≡ is_under limit (row (64 * number + k))
under_bits row side limit number bits k words values are_words are_values below outside each h =
    is_and (get_or words number 0) bits k
    ∙ ap (λ b. b && is_bit_set bits k) (bit_in_row (λ c. is_some (row c)) side words number k are_words below h)
    ∙ by_cell (row (64 * number + k)) refl
  where
    by_cell : (o : Option ℕ) → row (64 * number + k) ≡ o → (is_some (row (64 * number + k)) && is_bit_set bits k) ≡ is_under limit (row (64 * number + k))
    by_cell None at = ap (λ o. is_some o && is_bit_set bits k) at ∙ sym (ap (is_under limit) at)
    by_cell (Some v) at =
        let inside : 64 * number + k < side =
        ⊎_elim (λ (less : 64 * number + k < side). less) (λ (more : side ≤ 64 * number + k). absurd (none-some v (sym (outside (64 * number + k) more) ∙ at))) (cases_lt (64 * number + k) side) in
        let value = get_or_from_slice_get values (64 * number + k) v 0 (are_values.each (64 * number + k) (ap is_some at) ∙ at) in
        ap (λ o. is_some o && is_bit_set bits k) at
        ∙ each k h inside
        ∙ ap (λ x. nat_lt x limit) value
        ∙ sym (ap (is_under limit) at)
