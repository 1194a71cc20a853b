-- Words of the bits of a square, up to a limit.
use Rattle.asg_thresh.proofs.Common.{◌≡◌, ℕ, ◌+◌, ◌-◌, ◌*◌, ◌/◌, ◌%◌, ◌^◌, ◌<◌, ◌≤◌, min, Bool, true, false, leb, ◌↔◌, List, length, get_or, bit_or, sym, ap, ◌∙◌, subst, ⊎_elim, mul_comm, zero-mul, arith, w64, leb-false, leb-true, bit_at, bit_at_set_other, bit_at_set_same, bool_byte, cases_eq, div-mul-add, mod-mul-add, mul-add-lt, or_zero_r, HasBit, word_count, grade_at, IsMarked, AreBitsUpTo, IsWordUpTo, MarksUpTo}

-- one more grade, whose bit is set exactly where it is at most the limit
pub bits_more_set : (grades : List ℕ) (place limit word : ℕ) → place < 64 → get_or grades place 0 ≤ limit → AreBitsUpTo grades place limit word → AreBitsUpTo grades (place + 1) limit (bit_or word (1 * 2 ^ place % 2 ^ 64))
bits_more_set grades place limit word h upto bits k = (
  λ has.
      ⊎_elim
      (λ same. (omega arith, subst (λ i. get_or grades i 0 ≤ limit) (sym same) upto))
      (λ other. let before = (bits k).0 (sym (bit_at_set_other w64 word place h k other) ∙ has) in (omega (arith, before.0), before.1))
      (cases_eq k place),
  λ both.
      ⊎_elim
      (λ same. ap (bit_at (bit_or word (1 * 2 ^ place % 2 ^ 64))) same ∙ bit_at_set_same w64 word place h)
      (λ other. bit_at_set_other w64 word place h k other ∙ (bits k).1 (omega (arith, both.0), both.1))
      (cases_eq k place),
)

pub bits_more_clear : (grades : List ℕ) (place limit word : ℕ) → limit < get_or grades place 0 → AreBitsUpTo grades place limit word → AreBitsUpTo grades (place + 1) limit word
bits_more_clear grades place limit word above bits k = (
  λ has. let before = (bits k).0 has in (omega (arith, before.0), before.1),
  λ both.
      ⊎_elim
      (λ same. let upto = subst (λ i. get_or grades i 0 ≤ limit) same both.1 in absurd (omega (arith, above, upto)))
      (λ other. (bits k).1 (omega (arith, both.0), both.1))
      (cases_eq k place),
)

pub bits_more : (grades : List ℕ) (place limit word b : ℕ) (t : Bool) → place < 64 → leb (get_or grades place 0) limit ≡ t → b ≡ bool_byte t → AreBitsUpTo grades place limit word → AreBitsUpTo grades (place + 1) limit (bit_or word (b * 2 ^ place % 2 ^ 64))
bits_more grades place limit word b true h e is bits =
    subst (λ n. AreBitsUpTo grades (place + 1) limit (bit_or word (n * 2 ^ place % 2 ^ 64))) (sym is)
    (bits_more_set grades place limit word h (leb-true (get_or grades place 0) limit e) bits)
bits_more grades place limit word b false h e is bits =
    let nothing : 0 * 2 ^ place % 2 ^ 64 ≡ 0 = ap (λ n. n % 2 ^ 64) (zero-mul (2 ^ place)) in
    subst (λ n. AreBitsUpTo grades (place + 1) limit (bit_or word (n * 2 ^ place % 2 ^ 64))) (sym is)
    (subst (λ n. AreBitsUpTo grades (place + 1) limit (bit_or word n)) (sym nothing)
    (subst (AreBitsUpTo grades (place + 1) limit) (sym (or_zero_r word)) (bits_more_clear grades place limit word (leb-false (get_or grades place 0) limit e) bits)))

-- the bits of the grades of a piece of a row are those of its word
pub IsWordUpTo-piece : (grades piece : List ℕ) (side limit place width word : ℕ) → width ≡ word_count side → length piece ≡ min 64 (side - 64 * (place % width)) → ((k : ℕ) → k < length piece → get_or piece k 0 ≡ grade_at grades side (place / width) (64 * (place % width) + k)) → AreBitsUpTo piece (length piece) limit word → IsWordUpTo grades side limit place word
IsWordUpTo-piece grades piece side limit place width word same count cells bits =
    let long : length piece ≡ min 64 (side - 64 * (place % word_count side)) = count ∙ ap (λ w. min 64 (side - 64 * (place % w))) same in
    let cell : (k : ℕ) → k < length piece → get_or piece k 0 ≡ grade_at grades side (place / word_count side) (64 * (place % word_count side) + k) =
    λ k h. cells k h ∙ ap (λ w. grade_at grades side (place / w) (64 * (place % w) + k)) same in
    record {
      bits = λ k. (
        λ has. let both = (bits k).0 has in (subst (λ n. k < n) long both.0, subst (λ x. x ≤ limit) (cell k both.0) both.1),
        λ both. let within = subst (λ n. k < n) (sym long) both.0 in (bits k).1 (within, subst (λ x. x ≤ limit) (sym (cell k within)) both.1),
      );
    }

-- words that all mark cells up to the limit
pub MarksUpTo-words : (grades : List ℕ) (side limit : ℕ) (words : List ℕ) → ((i : ℕ) → i < side * word_count side → IsWordUpTo grades side limit i (get_or words i 0)) → MarksUpTo grades side limit words
MarksUpTo-words grades side limit words done r c =
    let width = word_count side in (
      λ marked.
          let within : c / 64 < width = let below = marked.column in omega arith in
          let word = div-mul-add r width (c / 64) within in
          let number = mod-mul-add r width (c / 64) within in
          let place : r * width + c / 64 < side * width = omega (arith, mul-add-lt r width (c / 64) side marked.row within, mul_comm side width) in
          let both = ((done (r * width + c / 64) place).bits (c % 64)).0 marked.bit in
          let column : 64 * ((r * width + c / 64) % width) + c % 64 ≡ c = omega (arith, number) in
          record {
            row = marked.row;
            column = marked.column;
            grade = subst (λ d. grade_at grades side r d ≤ limit) column (subst (λ q. grade_at grades side q (64 * ((r * width + c / 64) % width) + c % 64) ≤ limit) word both.1);
          },
      λ upto.
          let within : c / 64 < width = let below = upto.column in omega arith in
          let word = div-mul-add r width (c / 64) within in
          let number = mod-mul-add r width (c / 64) within in
          let place : r * width + c / 64 < side * width = omega (arith, mul-add-lt r width (c / 64) side upto.row within, mul_comm side width) in
          let column : 64 * ((r * width + c / 64) % width) + c % 64 ≡ c = omega (arith, number) in
          let below = upto.column in
          let left : c % 64 < min 64 (side - 64 * ((r * width + c / 64) % width)) = omega (arith, number, below) in
          record {
            row = upto.row;
            column = upto.column;
            bit = ((done (r * width + c / 64) place).bits (c % 64)).1 (left, subst (λ q. grade_at grades side q (64 * ((r * width + c / 64) % width) + c % 64) ≤ limit) (sym word) (subst (λ d. grade_at grades side r d ≤ limit) (sym column) upto.grade));
          },
    )

-- a bit of a word of a row
pub IsMarked-bit : (words : List ℕ) (side r n k x : ℕ) → k < 64 → x ≡ get_or words (r * word_count side + n) 0 → r < side → 64 * n + k < side → HasBit x k ↔ IsMarked words side r (64 * n + k)
IsMarked-bit words side r n k x h read row column =
    let word : (64 * n + k) / 64 ≡ n = omega arith in
    let bit : (64 * n + k) % 64 ≡ k = omega arith in (
      λ has. record {
        row = row;
        column = column;
        bit = ap (λ j. bit_at (get_or words (r * word_count side + j) 0) ((64 * n + k) % 64)) word ∙ (ap (bit_at (get_or words (r * word_count side + n) 0)) bit ∙ (ap (λ y. bit_at y k) (sym read) ∙ has));
      },
      λ marked. ap (λ y. bit_at y k) read ∙ (sym (ap (bit_at (get_or words (r * word_count side + n) 0)) bit) ∙ (sym (ap (λ j. bit_at (get_or words (r * word_count side + j) 0) ((64 * n + k) % 64)) word) ∙ marked.bit)),
    )
