-- Numbers as short words, two of each.
use Rattle.asg_proof.proofs.Common.{◌≡◌, ℕ, zero, suc, ◌+◌, ◌*◌, ◌/◌, ◌%◌, ◌<◌, List, [], ◌∷◌, ◌++◌, length, slice_index, slice_index_or, sym, refl, ap, ◌∙◌, arith, length-append, All-push, get_or-map, length-map, map_push, Word, short_words, told_word, as_words, IsTold, AreTold, AreStepNumbers, ShortWord}

-- there are half as many
pub short_words_count : (numbers : List ℕ) → length (short_words numbers) ≡ length numbers / 2
short_words_count [] = refl
short_words_count (_ ∷ []) = refl
short_words_count (_ ∷ _ ∷ rest) = omega (arith, short_words_count rest)

-- two more numbers are one more
pub short_words_more : (numbers : List ℕ) (grade amount : ℕ) → length numbers % 2 ≡ 0
    → short_words (numbers ++ grade ∷ amount ∷ []) ≡ short_words numbers ++ record { grade = grade; amount = amount } ∷ []
short_words_more [] grade amount even = refl
short_words_more (_ ∷ []) grade amount even = absurd (omega arith)
short_words_more (g ∷ a ∷ rest) grade amount even =
    ap (λ (l : List ShortWord). record { grade = g; amount = a } ∷ l) (short_words_more rest grade amount (omega arith))

-- behind two numbers the others stand two places on
at_two : (g a : ℕ) (rest : List ℕ) (i j : ℕ) → i ≡ j + 2 → slice_index rest j ≡ slice_index (g ∷ a ∷ rest) i
at_two g a rest i j two =
    let on : suc (suc j) ≡ i = omega arith in
    ap (λ (n : ℕ). slice_index (g ∷ a ∷ rest) n) on

-- the one at a place has the two numbers there
pub short_words_get : (numbers : List ℕ) (place : ℕ) (d : ShortWord) → place < length numbers / 2
    → slice_index_or (short_words numbers) place d ≡ record { grade = slice_index numbers (2 * place); amount = slice_index numbers (2 * place + 1) }
short_words_get [] place d within = absurd (omega arith)
short_words_get (_ ∷ []) place d within = absurd (omega arith)
short_words_get (_ ∷ _ ∷ _) zero d within = refl
short_words_get (g ∷ a ∷ rest) (suc place) d within =
    let grade : slice_index rest (2 * place) ≡ slice_index (g ∷ a ∷ rest) (2 * suc place) =
    at_two g a rest (2 * suc place) (2 * place) (omega arith) in
    let amount : slice_index rest (2 * place + 1) ≡ slice_index (g ∷ a ∷ rest) (2 * suc place + 1) =
    at_two g a rest (2 * suc place + 1) (2 * place + 1) (omega arith) in
    short_words_get rest place d (omega arith) ∙ (λ i. record { grade = grade i; amount = amount i })

-- there are half as many words as numbers
pub words_count : (numbers : List ℕ) (long : List Word) → length numbers / 2 ≡ length (as_words (short_words numbers) long)
words_count numbers long = sym (short_words_count numbers) ∙ sym (length-map (short_words numbers) (told_word long))

-- the word at a place is the one for which the short word there stands
pub word_at : (numbers : List ℕ) (long : List Word) (place : ℕ) (short : ShortWord) (d : Word) → place < length (as_words (short_words numbers) long)
    → ((e : ShortWord) → short ≡ slice_index_or (short_words numbers) place e) → told_word long short ≡ slice_index_or (as_words (short_words numbers) long) place d
word_at numbers long place short d within is =
    ap (told_word long) (is short) ∙ sym (get_or-map (told_word long) (short_words numbers) place short d (omega (arith, length-map (short_words numbers) (told_word long))))

-- with the numbers of one more that is told, they are such numbers again
pub numbers_more : (numbers new : List ℕ) (long : List Word) (short : ShortWord) → length numbers % 2 ≡ 0 → AreTold (short_words numbers) long → IsTold (length long) short
    → new ≡ numbers ++ short.grade ∷ short.amount ∷ [] → AreStepNumbers new long
numbers_more numbers new long short even told place is = rw is record {
  even = simp length-append (omega arith);
  told = rw (short_words_more numbers short.grade short.amount even) (All-push (IsTold (length long)) (short_words numbers) short told place);
}

-- and one more word
pub words_more : (numbers new : List ℕ) (long : List Word) (short : ShortWord) → length numbers % 2 ≡ 0 → new ≡ numbers ++ short.grade ∷ short.amount ∷ []
    → as_words (short_words new) long ≡ as_words (short_words numbers) long ++ told_word long short ∷ []
words_more numbers new long short even is =
    rw (is, short_words_more numbers short.grade short.amount even) (map_push (told_word long) (short_words numbers) short)
