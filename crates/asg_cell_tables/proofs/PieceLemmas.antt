-- Cells that stand side by side as values and the bits of a word.
use Rattle.asg_cell_tables.proofs.Common.{◌≡◌, ℕ, ◌+◌, ◌-◌, ◌*◌, ◌%◌, ◌^◌, ◌<◌, Bool, true, false, cond, ◌||◌, eqb, ◌≢◌, List, length, get_or, set, is_some, slice_get, bit_or, Some, None, Option, sym, refl, ap, ◌∙◌, subst, ⊎_elim, zero-mul, arith, bit_at_set_other, bit_at_set_same, bool_byte, cases_Bool, cases_eq, or_zero_r, slice_get_cases, is_bit_set, piece_cell, ArePieceOf, AreBitsOf, labelled_cell, has_corner, is_labelled_within, Problem, Whole, Cost, Place, w64}
use Rattle.asg_cell_tables.proofs.TableLemmas.{get_set_same, get_set_other}
use Rattle.asg_model.specs.declared.parts.Place.TheVariants.{All as PlaceAll, Exactly}

-- ---- one bit more of a word

set_bit_passes : (word count : ℕ) (passes : ℕ → Bool) → count < 64 → true ≡ passes count → AreBitsOf count passes word → AreBitsOf (count + 1) passes (bit_or word (1 * 2 ^ count % 2 ^ 64))
set_bit_passes word count passes few is so_far =
    let other_bit = λ (k : ℕ) (apart : k ≢ count). ap (λ n. eqb n 1) (bit_at_set_other w64 word count few k apart) in
    record {
      each = λ k h.
          ⊎_elim
          (λ (here : k ≡ count).
          ap (is_bit_set (bit_or word (1 * 2 ^ count % 2 ^ 64))) here ∙ ap (λ n. eqb n 1) (bit_at_set_same w64 word count few) ∙ is ∙ ap passes (sym here))
          (λ (apart : k ≢ count). other_bit k apart ∙ so_far.each k (omega (arith, h, apart)))
          (cases_eq k count);
      inside = λ k has.
          ⊎_elim
          (λ (here : k ≡ count). omega (arith, here))
          (λ (apart : k ≢ count). let before = so_far.inside k (sym (other_bit k apart) ∙ has) in omega (arith, before))
          (cases_eq k count);
    }

clear_bit_passes : (word count : ℕ) (passes : ℕ → Bool) → false ≡ passes count → AreBitsOf count passes word → AreBitsOf (count + 1) passes word
clear_bit_passes word count passes is so_far = record {
  each = λ k h.
      ⊎_elim
      (λ (here : k ≡ count).
      ⊎_elim
      (λ (has : is_bit_set word count ≡ true). let less = so_far.inside count has in absurd (omega (arith, less)))
      (λ (lacks : is_bit_set word count ≡ false). ap (is_bit_set word) here ∙ lacks ∙ is ∙ ap passes (sym here))
      (cases_Bool (is_bit_set word count)))
      (λ (apart : k ≢ count). so_far.each k (omega (arith, h, apart)))
      (cases_eq k count);
  inside = λ k has. let before = so_far.inside k has in omega (arith, before);
}

pub bits_more : (word count : ℕ) (passes : ℕ → Bool) (t : Bool) (b : ℕ) → count < 64 → t ≡ passes count → b ≡ bool_byte t → AreBitsOf count passes word → AreBitsOf (count + 1) passes (bit_or word (b * 2 ^ count % 2 ^ 64))
bits_more word count passes false b few is bit so_far =
    let nothing : b * 2 ^ count % 2 ^ 64 ≡ 0 = ap (λ n. n * 2 ^ count % 2 ^ 64) bit ∙ ap (λ n. n % 2 ^ 64) (zero-mul (2 ^ count)) in
    subst (AreBitsOf (count + 1) passes) (sym (ap (bit_or word) nothing ∙ or_zero_r word)) (clear_bit_passes word count passes is so_far)
bits_more word count passes true b few is bit so_far =
    subst (λ n. AreBitsOf (count + 1) passes (bit_or word (n * 2 ^ count % 2 ^ 64))) (sym bit) (set_bit_passes word count passes few is so_far)

-- a test that is the same below the count
pub bits_same : (count word : ℕ) (passes other : ℕ → Bool) → AreBitsOf count passes word → ((k : ℕ) → k < count → passes k ≡ other k) → AreBitsOf count other word
bits_same count word passes other bits same = record {
  each = λ k h. bits.each k h ∙ same k h;
  inside = bits.inside;
}

-- ---- which cells are present

-- of two cells one or the other
pub some_cond : {V : Type 0} (b : Bool) (x y : Option V) → is_some (cond b x y) ≡ cond b (is_some x) (is_some y)
some_cond true x y = refl
some_cond false x y = refl

-- a cell of a piece is present where its bit is set
pub some_piece : {V : Type 0} (values : List V) (word k : ℕ) → k < length values → is_some (piece_cell values word k) ≡ is_bit_set word k
some_piece values word k h = some_if (is_bit_set word k)
  where
    read : is_some (slice_get values k) ≡ true
    read = ⊎_elim (λ found. ap is_some found.2) (λ past. absurd (omega (arith, h, past.0))) (slice_get_cases values k).1

    some_if : (b : Bool) → is_some (cond b (slice_get values k) None) ≡ b
    some_if true = read
    some_if false = refl

-- the cells of a row that isn't counted
pub free_label : (X : Problem) (o : Option ℕ) → (has_corner X.place || is_some o) ≡ is_labelled_within X Whole None o
free_label X None = without (has_corner X.place)
  where
    without : (b : Bool) → (b || false) ≡ b
    without true = refl
    without false = refl
free_label X (Some d) = with_one (has_corner X.place)
  where
    with_one : (b : Bool) → (b || true) ≡ true
    with_one true = refl
    with_one false = refl

-- ---- values of a piece

-- one value more
pub values_more : {V : Type 0} (values : List V) (count : ℕ) (cell : ℕ → Option V) (v : V) → count < length values → Some v ≡ cell count → ((k : ℕ) → k < count → slice_get values k ≡ cell k) → (k : ℕ) → k < count + 1 → slice_get (set values count v) k ≡ cell k
values_more values count cell v within is so_far k h =
    ⊎_elim
    (λ (here : k ≡ count). ap (slice_get (set values count v)) here ∙ get_set_same values count v within ∙ is ∙ ap cell (sym here))
    (λ (apart : k ≢ count). get_set_other values count k v apart ∙ so_far k (omega (arith, h, apart)))
    (cases_eq k count)

-- ---- pieces of a row that isn't counted

-- equal values, present where the bits say so
pub piece_free : {V : Type 0} (X : Problem) (free : V) (enter : Cost → V) (columns : List (Option ℕ)) (values : List V) (word count : ℕ) → ((k : ℕ) → k < count → slice_get values k ≡ Some free) → AreBitsOf count (λ k. is_labelled_within X Whole None (get_or columns k None)) word → ArePieceOf count values word (λ k. labelled_cell X free enter None (get_or columns k None))
piece_free X free enter columns values word count same bits = record {
  each = λ k h.
      ap (λ o. cond (is_bit_set word k) o None) (same k h)
      ∙ ap (λ b. cond b (Some free) None) (bits.each k h)
      ∙ by_label X.place (get_or columns k None);
  inside = bits.inside;
}
  where
    by_label : (place : Place) (o : Option ℕ) → cond (is_labelled_within (record X { place = place }) Whole None o) (Some free) None ≡ labelled_cell (record X { place = place }) free enter None o
    by_label PlaceAll None = refl
    by_label place (Some d) = refl
    by_label (Exactly k) None = refl
