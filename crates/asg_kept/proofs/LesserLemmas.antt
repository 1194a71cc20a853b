-- Bits of the columns at which sums are less than keys.
use Rattle.asg_kept.proofs.Common.{◌≡◌, ℕ, ◌+◌, ◌-◌, ◌*◌, ◌%◌, ◌^◌, ◌<◌, ◌≤◌, Bool, true, false, cond, ltb, List, map, length, get_or, replicate, bit_or, sym, ap, ◌∙◌, subst, ⊎_elim, mod-eq_of_lt, mul-lt-mul_of_pos_right, arith, pow_pos, pow-add, w64, ltb-true, lt-ltb, bit_at, bit_at-lt, bit_at-zero, bit_at_cat_high, bit_at_cat_low, bit_at_or, bit_mask_l, cases_Bool, cases_eq, cases_lt, chunk, get_or-chunk, get_or-zip2, get_or_past, length-chunk, length-zip2, mask_l, mask_l-lt, mask_l-mod, top, tops_compared, zip2, AreLesserBits, dual_bits}
use Rattle.std.proofs.Math.Pow.{pow_mono}
use Rattle.std.proofs.lemmas.Simd.{length-replicate, get_or-replicate}

-- a sum in 64 bits may be taken in either order
pub sum_turned : (sum row column x : ℕ) → dual_bits (2 ^ 64) ((sum + row) % 2 ^ 64) column x ≡ (sum + dual_bits (2 ^ 64) row column x) % 2 ^ 64
sum_turned sum row column x = omega arith

module _ (base : ℕ) (values columns keys : List ℕ) where
  abbrev at : ℕ → ℕ
  at i = dual_bits (2 ^ 64) base (get_or columns i 0) (get_or values i 0)

  -- ---- 16 columns, as lanes
  module _ (first : ℕ) (long_values : first + 16 ≤ length values) (long_columns : first + 16 ≤ length columns) (long_keys : first + 16 ≤ length keys) where
    abbrev more : List ℕ
    more = zip2 (λ a b. (a + b) % 2 ^ 64) (chunk first 16 values) (replicate 16 base)

    abbrev reached : List ℕ
    reached = zip2 (λ a b. (a + (2 ^ 64 - b)) % 2 ^ 64) more (chunk first 16 columns)

    abbrev marks : List Bool
    marks = zip2 ltb reached (chunk first 16 keys)

    count_values : length (chunk first 16 values) ≡ 16
    count_values = length-chunk first 16 values long_values

    count_columns : length (chunk first 16 columns) ≡ 16
    count_columns = length-chunk first 16 columns long_columns

    count_keys : length (chunk first 16 keys) ≡ 16
    count_keys = length-chunk first 16 keys long_keys

    count_base : length (replicate 16 base) ≡ 16
    count_base = length-replicate {A = ℕ} 16 base

    count_more : length more ≡ 16
    count_more = length-zip2 (λ a b. (a + b) % 2 ^ 64) (chunk first 16 values) (replicate 16 base) (count_values ∙ sym count_base) ∙ count_values

    count_reached : length reached ≡ 16
    count_reached = length-zip2 (λ a b. (a + (2 ^ 64 - b)) % 2 ^ 64) more (chunk first 16 columns) (count_more ∙ sym count_columns) ∙ count_more

    count_marks : length marks ≡ 16
    count_marks = length-zip2 ltb reached (chunk first 16 keys) (count_reached ∙ sym count_keys) ∙ count_reached

    -- the word of the lanes
    pub word_is : mask_l (map (top 63) (zip2 (λ a b. cond (ltb a b) (2 ^ 64 - 1) 0) reached (chunk first 16 keys))) % 2 ^ 64 ≡ mask_l marks
    word_is = ap (λ ms. mask_l ms % 2 ^ 64) (tops_compared w64 ltb reached (chunk first 16 keys)) ∙ mask_l-mod marks 64 (omega (arith, count_marks))

    reached_at : (k : ℕ) → k < 16 → get_or reached k 0 ≡ at (first + k)
    reached_at k h =
        get_or-zip2 (λ a b. (a + (2 ^ 64 - b)) % 2 ^ 64) more (chunk first 16 columns) k 0 0 0 (omega (arith, h, count_more)) (omega (arith, h, count_columns))
        ∙ ap (λ a. (a + (2 ^ 64 - get_or (chunk first 16 columns) k 0)) % 2 ^ 64)
        (get_or-zip2 (λ a b. (a + b) % 2 ^ 64) (chunk first 16 values) (replicate 16 base) k 0 0 0 (omega (arith, h, count_values)) (omega (arith, h, count_base)))
        ∙ ap (λ b. ((get_or (chunk first 16 values) k 0 + b) % 2 ^ 64 + (2 ^ 64 - get_or (chunk first 16 columns) k 0)) % 2 ^ 64) (get_or-replicate 16 k base 0 h)
        ∙ ap (λ a. ((a + base) % 2 ^ 64 + (2 ^ 64 - get_or (chunk first 16 columns) k 0)) % 2 ^ 64) (get_or-chunk first 16 values k 0 h)
        ∙ ap (λ b. ((get_or values (first + k) 0 + base) % 2 ^ 64 + (2 ^ 64 - b)) % 2 ^ 64) (get_or-chunk first 16 columns k 0 h)

    mark_at : (k : ℕ) → k < 16 → bit_at (mask_l marks) k ≡ cond (ltb (at (first + k)) (get_or keys (first + k) 0)) 1 0
    mark_at k h =
        bit_mask_l marks k
        ∙ ap (λ b. cond b 1 0) (
        get_or-zip2 ltb reached (chunk first 16 keys) k 0 0 false (omega (arith, h, count_reached)) (omega (arith, h, count_keys))
        ∙ ap (λ a. ltb a (get_or (chunk first 16 keys) k 0)) (reached_at k h)
        ∙ ap (ltb (at (first + k))) (get_or-chunk first 16 keys k 0 h))

    mark_past : (k : ℕ) → 16 ≤ k → bit_at (mask_l marks) k ≡ 0
    mark_past k h = bit_mask_l marks k ∙ ap (λ b. cond b 1 0) (get_or_past marks k false (omega (arith, h, count_marks)))

    -- its bits
    pub lanes_bits : AreLesserBits base values columns keys first 16 (mask_l marks)
    lanes_bits k = (
      λ has.
          ⊎_elim
          (λ (h : k < 16).
          ⊎_elim
          (λ (yes : ltb (at (first + k)) (get_or keys (first + k) 0) ≡ true). (h, ltb-true (at (first + k)) (get_or keys (first + k) 0) yes))
          (λ (other : ltb (at (first + k)) (get_or keys (first + k) 0) ≡ false).
          let none = mark_at k h ∙ ap (λ b. cond b 1 0) other in
          absurd (omega (arith, none, has)))
          (cases_Bool (ltb (at (first + k)) (get_or keys (first + k) 0))))
          (λ (past : 16 ≤ k). let none = mark_past k past in absurd (omega (arith, none, has)))
          (cases_lt k 16),
      λ both. mark_at k both.0 ∙ ap (λ b. cond b 1 0) (lt-ltb (at (first + k)) (get_or keys (first + k) 0) both.1),
    )

    pub lanes_few : mask_l marks < 2 ^ 16
    lanes_few = subst (λ n. mask_l marks < 2 ^ n) count_marks (mask_l-lt marks)

  -- ---- 16 columns more
  abbrev IsLess : ℕ → Type 0
  IsLess i = at i < get_or keys i 0

  module _ (place word part : ℕ) (room : place + 16 ≤ 64) (few : part < 2 ^ 16) (so : AreLesserBits base values columns keys 0 place word) (then : AreLesserBits base values columns keys place 16 part) where
    shifted : part * 2 ^ place % 2 ^ 64 ≡ part * 2 ^ place + 0
    shifted =
        let below = mul-lt-mul_of_pos_right {m = part} {n = 2 ^ 16} {k = 2 ^ place} few (pow_pos place) in
        let whole = pow-add 2 16 place in
        let least = pow_mono {i = 16 + place} {j = 64} (omega (arith, room)) in
        mod-eq_of_lt (omega (arith, below, whole, least)) ∙ omega arith

    no_more : (k : ℕ) → place ≤ k → bit_at word k ≡ 0
    no_more k h =
        let one = bit_at-lt word k in
        ⊎_elim (λ (has : bit_at word k ≡ 1). let below = ((so k).0 has).0 in absurd (omega (arith, below, h))) (λ none. omega (arith, one, none)) (cases_eq (bit_at word k) 1)

    pub joined : AreLesserBits base values columns keys 0 (place + 16) (bit_or word (part * 2 ^ place % 2 ^ 64))
    joined k =
        let both = bit_at_or word (part * 2 ^ place % 2 ^ 64) k in
        let one = bit_at-lt word k in
        ⊎_elim
        (λ (h : k < place).
        let none = ap (λ n. bit_at n k) shifted ∙ bit_at_cat_low part place 0 k h ∙ bit_at-zero k in (
          λ has. let before = (so k).0 (omega (arith, both, none, has)) in (omega (arith, before.0), before.1),
          λ less. let set = (so k).1 (h, less.1) in omega (arith, both, none, set),
        ))
        (λ (h : place ≤ k).
        let none = no_more k h in
        let moved = ap (λ n. bit_at n k) shifted ∙ bit_at_cat_high part place 0 k (pow_pos place) h in
        let back : place + (k - place) ≡ 0 + k = omega (arith, h) in (
          λ has. let now = (then (k - place)).0 (omega (arith, both, none, moved, has)) in (omega (arith, now.0, h), subst IsLess back now.1),
          λ less. let set = (then (k - place)).1 (omega (arith, less.0, h), subst IsLess (sym back) less.1) in omega (arith, both, none, moved, set),
        ))
        (cases_lt k place)
