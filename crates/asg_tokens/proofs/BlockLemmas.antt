-- Plain numbers in a block of bytes, by the bits of the bytes that are no digits.
use Rattle.asg_tokens.proofs.Common.{◌≡◌, ℕ, suc, ◌+◌, ◌-◌, ◌*◌, ◌%◌, ◌^◌, ◌<◌, ◌≤◌, Bool, true, false, cond, ltb, List, [], ◌∷◌, ◌++◌, map, length, get_or, take, drop, replicate, pos, bit_and, sym, refl, ap, ◌∙◌, subst, ⊎_elim, pow-suc, add-one, arith, lit<, length-take, get_or-drop, get_or-take, take-take, pow_pos, w8, w64, Fits, to_z, ltb-true, le-leb, Fits-lt-pow, and_from, bit_at, bit_at-lt, bit_at-trailing_zeros, bit_at_and, bit_at_clear_other, bit_at_clear_same, bit_at_mask_below, bit_at_mask_inside, bit_at_not, bit_mask_l, bit_not, cases_Bool, cases_eq, cases_lt, chunk-drop, digits_value, false≢true, get_or-map, is_ascii_digit, length-map, length-zip2, list_all, list_all_at, map-map, mask_l, mask_l-lt, pow-le-pow_right, to_z_pos, trailing_zeros, zip2, zip2_splat, length-drop, AreDigitsFrom, IsShortAmount, IsDigitStep, digit_step, short_value, length-replicate}
use Rattle.asg_model.specs.Limits.{most_cost}

-- a byte less the digit zero, around the end of a byte
abbrev pub less : ℕ → ℕ → ℕ
less a b = (a + (256 - b)) % 256

shifted_digit : (x : ℕ) → x < 256 → ltb (less x 48) 10 ≡ true → is_ascii_digit x ≡ true
shifted_digit x fits low =
    let is_low : (x + 208) % 256 < 10 = ltb-true (less x 48) 10 low in
    let least : 48 ≤ x = omega arith in
    let most : x ≤ 57 = omega arith in
    and_from _ _ (le-leb 48 x least) (le-leb x 57 most)

marked : (b : Bool) → cond {A = ℕ} b 1 0 ≡ 1 → b ≡ true
marked true e = refl
marked false e = absurd (omega arith)

-- the mask of the bytes that are digits, in the first 64 of a text
abbrev pub digit_mask : List ℕ → ℕ
digit_mask text = mask_l (map (λ x. ltb x 10) (zip2 less (take 64 text) (replicate 64 48)))

module _ (text : List ℕ) (long : 64 ≤ length text) (fits : (k : ℕ) → Fits w8 (get_or text k 0)) where
  digit_mark : (k : ℕ) → k < 64 → bit_at (digit_mask text) k ≡ 1 → is_ascii_digit (get_or text k 0) ≡ true
  digit_mark k below set =
      let front = take 64 text in
      let marks = map (λ x. ltb x 10) (zip2 less front (replicate 64 48)) in
      let count : length front ≡ 64 = omega (arith, length-take 64 text) in
      let low : get_or marks k false ≡ true = marked (get_or marks k false) (sym (bit_mask_l marks k) ∙ set) in
      let here : get_or marks k false ≡ ltb (less (get_or text k 0) 48) 10 =
      ap (λ xs. get_or (map (λ x. ltb x 10) xs) k false) (zip2_splat less front 64 48 count)
      ∙ ap (λ ms. get_or ms k false) (map-map (λ x. ltb x 10) (λ x. less x 48) front)
      ∙ get_or-map (λ x. ltb (less x 48) 10) front k 0 false (omega (arith, count, below))
      ∙ ap (λ x. ltb (less x 48) 10) (get_or-take 64 text k 0 below) in
      shifted_digit (get_or text k 0) (Fits-lt-pow (fits k)) (sym here ∙ low)

  mask_fits : digit_mask text < 2 ^ 64
  mask_fits =
      let front = take 64 text in
      let lanes = zip2 less front (replicate 64 48) in
      let marks = map (λ x. ltb x 10) lanes in
      let front_len : length front ≡ 64 = omega (arith, length-take 64 text) in
      let count : length marks ≡ 64 = length-map lanes (λ x. ltb x 10) ∙ length-zip2 less front (replicate 64 48) (front_len ∙ sym (length-replicate {A = ℕ} 64 48)) ∙ front_len in
      subst (λ n. digit_mask text < 2 ^ n) count (mask_l-lt marks)

  -- the other bits tell which bytes are no digits
  pub other_bits : (word : ℕ) → word ≡ digit_mask text → AreDigitsFrom 0 text (bit_not w64 word)
  other_bits word is k from below unset =
      let turned = bit_at_not w64 (digit_mask text) k mask_fits below in
      let there : bit_at (bit_not w64 (digit_mask text)) k ≡ 0 = ap (λ w. bit_at (bit_not w64 w) k) (sym is) ∙ unset in
      let set : bit_at (digit_mask text) k ≡ 1 = omega (arith, turned, there, bit_at-lt (digit_mask text) k) in
      digit_mark k below set

-- the lowest bit is the end of the number that begins at a place
module _ (text : List ℕ) (start ends : ℕ) (some : 0 < ends) (fits : ends < 2 ^ 64) (none : (k : ℕ) → k < start → bit_at ends k ≡ 0) (digits : AreDigitsFrom start text ends) where
  abbrev pub next_end : ℕ
  next_end = trailing_zeros w64 ends

  abbrev pub next_ends : ℕ
  next_ends = bit_and ends (bit_not w64 (1 * 2 ^ next_end % 2 ^ 64))

  pub end_low : next_end < 64
  end_low = (bit_at-trailing_zeros w64 ends some fits).0

  pub end_past : start ≤ next_end
  end_past =
      let set = (bit_at-trailing_zeros w64 ends some fits).1 in
      ⊎_elim (λ (before : next_end < start). absurd (omega (arith, set, none next_end before))) (λ past. past) (cases_lt next_end start)

  pub digits_before : (k : ℕ) → start ≤ k → k < next_end → is_ascii_digit (get_or text k 0) ≡ true
  digits_before k from before =
      digits k from (omega (arith, end_low)) ((bit_at-trailing_zeros w64 ends some fits).2 k before)

  pub none_before : (k : ℕ) → k < next_end + 1 → bit_at next_ends k ≡ 0
  none_before k before =
      ⊎_elim
      (λ same. ap (bit_at next_ends) same ∙ bit_at_clear_same w64 ends next_end end_low)
      (λ other.
      let earlier : k < next_end = omega arith in
      bit_at_clear_other w64 ends next_end end_low k (omega (arith, end_low)) other ∙ (bit_at-trailing_zeros w64 ends some fits).2 k earlier)
      (cases_eq k next_end)

  pub digits_behind : AreDigitsFrom (next_end + 1) text next_ends
  digits_behind k from below unset =
      digits k (omega (arith, end_past)) below (sym (bit_at_clear_other w64 ends next_end end_low k below (omega arith)) ∙ unset)

-- the bits past a place
past_mask : (place : ℕ) → place < 64 → 18446744073709551614 * 2 ^ place % 2 ^ 64 ≡ 2 ^ 64 - 2 ^ (place + 1)
past_mask place below =
    let upto : place ≤ 63 = omega arith in
    let most : 2 ^ place ≤ 2 ^ 63 = pow-le-pow_right (lit< tt) upto in
    let some : 0 < 2 ^ place = pow_pos place in
    let twice : 2 ^ (place + 1) ≡ 2 ^ place * 2 = ap (λ n. 2 ^ n) (add-one place) ∙ pow-suc 2 place in
    omega arith

module _ (word place : ℕ) (below : place < 64) where
  abbrev past : ℕ
  past = bit_and word (18446744073709551614 * 2 ^ place % 2 ^ 64)

  pub none_up_to : (k : ℕ) → k ≤ place → bit_at past k ≡ 0
  none_up_to k upto =
      let mask : bit_at (18446744073709551614 * 2 ^ place % 2 ^ 64) k ≡ 0 = ap (λ m. bit_at m k) (past_mask place below) ∙ bit_at_mask_below (place + 1) 64 k (omega arith) in
      omega (arith, mask, bit_at_and word (18446744073709551614 * 2 ^ place % 2 ^ 64) k)

  pub same_past : (k : ℕ) → place < k → k < 64 → bit_at past k ≡ bit_at word k
  same_past k behind in_word =
      let mask : bit_at (18446744073709551614 * 2 ^ place % 2 ^ 64) k ≡ 1 = ap (λ m. bit_at m k) (past_mask place below) ∙ bit_at_mask_inside (place + 1) 64 k (omega arith) in_word in
      omega (arith, mask, bit_at_and word (18446744073709551614 * 2 ^ place % 2 ^ 64) k, bit_at-lt word k)

all_pass : (p : ℕ → Bool) (bytes : List ℕ) → ((k : ℕ) → k < length bytes → p (get_or bytes k 0) ≡ true) → list_all p bytes ≡ true
all_pass p [] each = refl
all_pass p (b ∷ bytes) each = and_from _ _ (each 0 (omega arith)) (all_pass p bytes (λ k h. each (suc k) (omega arith)))

-- the bytes between two places are digits
pub digits_between : (text : List ℕ) (start end : ℕ) → ((k : ℕ) → start ≤ k → k < end → is_ascii_digit (get_or text k 0) ≡ true) → list_all is_ascii_digit (take (end - start) (drop start text)) ≡ true
digits_between text start end each =
    all_pass is_ascii_digit (take (end - start) (drop start text))
    (λ k h.
    let before : k < end - start = omega (arith, length-take (end - start) (drop start text)) in
    ap is_ascii_digit (get_or-take (end - start) (drop start text) k 0 before ∙ get_or-drop start text k 0) ∙ each (start + k) (omega arith) (omega arith))

-- also where bytes are read from the first of them on
pub word_digits_between : (text : List ℕ) (start end n : ℕ) → end - start ≤ n → ((k : ℕ) → start ≤ k → k < end → is_ascii_digit (get_or text k 0) ≡ true) → list_all is_ascii_digit (take (end - start) (take n (drop start text))) ≡ true
word_digits_between text start end n few each =
    ap (list_all is_ascii_digit) (take-take (end - start) n (drop start text) few) ∙ digits_between text start end each

-- and where they are a number in range, the text from the first of them on begins with it
pub amount_between : (text : List ℕ) (start end number : ℕ) → start < end → end ≤ length text → ((k : ℕ) → start ≤ k → k < end → is_ascii_digit (get_or text k 0) ≡ true) → number ≡ digits_value 10 (take (end - start) (drop start text)) → number ≤ most_cost → IsShortAmount (drop start text) (to_z w64 number) (drop end text)
amount_between text start end number order within each value in_range =
    let sum : start + (end - start) ≡ end = omega arith in
    let small : number < 9223372036854775808 = omega arith in
    record {
      digits = take (end - start) (drop start text);
      cut = chunk-drop start (end - start) text ∙ ap (λ n. take (end - start) (drop start text) ++ drop n text) sum;
      some = omega (arith, length-take (end - start) (drop start text), length-drop start text);
      are_digits = digits_between text start end each;
      is_amount = to_z_pos w64 small ∙ ap pos value;
      in_range = omega (arith, value);
    }

pub word_amount : (text : List ℕ) (start end n number : ℕ) → start < end → end ≤ length text → end - start ≤ n → ((k : ℕ) → start ≤ k → k < end → is_ascii_digit (get_or text k 0) ≡ true) → number ≡ digits_value 10 (take (end - start) (take n (drop start text))) → number < 1000000000 → IsShortAmount (drop start text) (to_z w64 number) (drop end text)
word_amount text start end n number order within few each value small =
    amount_between text start end number order within each (value ∙ ap (digits_value 10) (take-take (end - start) n (drop start text) few)) (omega arith)

-- each of some digits is one
each_digit : (digits : List ℕ) → list_all is_ascii_digit digits ≡ true → (k : ℕ) → k < length digits → is_ascii_digit (get_or digits k 0) ≡ true
each_digit digits are k h =
    ⊎_elim
    (λ yes. yes)
    (λ no. absurd (false≢true (sym (list_all_at is_ascii_digit digits k 0 h no) ∙ are)))
    (cases_Bool (is_ascii_digit (get_or digits k 0)))

-- and so are those in front
pub front_digits : (digits : List ℕ) (n : ℕ) → list_all is_ascii_digit digits ≡ true → list_all is_ascii_digit (take n digits) ≡ true
front_digits digits n are =
    all_pass is_ascii_digit (take n digits)
    (λ k h.
    let before : k < n = omega (arith, length-take n digits) in
    ap is_ascii_digit (get_or-take n digits k 0 before) ∙ each_digit digits are k (omega (arith, length-take n digits)))

-- one more of at most ten digits
pub number_step : (digits : List ℕ) (i number : ℕ) → i < length digits → length digits ≤ 10 → list_all is_ascii_digit digits ≡ true → number ≡ digits_value 10 (take i digits) → IsDigitStep digits 10 i number
number_step digits i number within few are value =
    digit_step digits i number 10 (omega (arith, length-take 10 digits)) (omega arith) (ap is_ascii_digit (get_or-take 10 digits i 0 (omega arith)) ∙ each_digit digits are i within) (front_digits digits i are) value

-- at most eight digits write a small number
pub few_digits_small : (bytes : List ℕ) (len number : ℕ) → len ≤ 8 → list_all is_ascii_digit (take len bytes) ≡ true → number ≡ digits_value 10 (take len bytes) → number < 1000000000
few_digits_small bytes len number few are value =
    omega (arith, value, short_value (take len bytes) are (omega (arith, length-take len bytes)))
