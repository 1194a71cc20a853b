-- Words of marks, one after the other.
use Rattle.asg_levels.proofs.Common.{◌≡◌, ℕ, ◌+◌, ◌-◌, ◌*◌, ◌/◌, ◌%◌, ◌<◌, ◌≤◌, List, [], ◌∷◌, ◌++◌, length, get_or, ◌==◌, ap, ◌∙◌, ⊎_elim, arith, cases_lt, div-mul-add, get_or_append_left, get_or_push, length_push, mod-mul-add, mul-add-lt, is_bit_set, word_count, words_each, AreMarkWords}

-- a square with a row has words of marks
pub some_words : (side length_is : ℕ) → 0 < side → length_is ≡ 64 * word_count side → 0 < length_is / 64
some_words side length_is some is = omega (arith, some, is)

-- no words yet
pub words_none : (outs : List ℕ) → AreMarkWords outs []
words_none outs i k h below = absurd (omega (arith, h))

-- one more word
pub words_push : (outs words : List ℕ) (place word : ℕ) → length words ≡ place → AreMarkWords outs words
    → ((k : ℕ) → k < 64 → is_bit_set word k ≡ (get_or outs (64 * (place % words_each outs) + k) 0 + 1 == place / words_each outs))
    → AreMarkWords outs (words ++ word ∷ [])
words_push outs words place word end so bits i k h below =
    ⊎_elim
    (λ (before : i < length words). ap (λ w. is_bit_set w k) (get_or_append_left words (word ∷ []) 0 i before) ∙ so i k before below)
    (λ (past : length words ≤ i).
    let last : place ≡ i = omega (arith, end, past, h, length_push words word) in
    ap (λ w. is_bit_set w k) (get_or_push words word 0 i (end ∙ last))
    ∙ bits k below
    ∙ ap (λ n. get_or outs (64 * (n % words_each outs) + k) 0 + 1 == n / words_each outs) last)
    (cases_lt i (length words))

-- a word by its mark and its number
pub word_by : (outs words : List ℕ) (mark number k : ℕ) → AreMarkWords outs words → mark * words_each outs + words_each outs ≤ length words → number < words_each outs → k < 64
    → is_bit_set (get_or words (mark * words_each outs + number) 0) k ≡ (get_or outs (64 * number + k) 0 + 1 == mark)
word_by outs words mark number k are reach inside below =
    are (mark * words_each outs + number) k (omega (arith, reach, inside)) below
    ∙ ap (λ n. get_or outs (64 * n + k) 0 + 1 == (mark * words_each outs + number) / words_each outs) (mod-mul-add mark (words_each outs) number inside)
    ∙ ap (λ n. get_or outs (64 * number + k) 0 + 1 == n) (div-mul-add mark (words_each outs) number inside)

-- the words of a mark below so many lie within theirs
pub words_reach : (mark marks width count : ℕ) → mark < marks → 0 < width → count ≡ marks * width → mark * width + width ≤ count
words_reach mark marks width count below some is =
    let last = mul-add-lt mark width (width - 1) marks below (omega (arith, some)) in
    omega (arith, last, some, is)
