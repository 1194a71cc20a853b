-- Short words stand for the same words where a long word is appended.
use Rattle.asg_proof.proofs.Common.{◌≡◌, Bool, true, false, List, [], ◌∷◌, ◌++◌, length, IfOk, if◌then◌else◌, OnErr, ◌==◌, slice_index_or, Ok, Err, Result, refl, ap, ◌∙◌, eqb-true, All-head, All-tail, get_or_append_left, Word, far_grade, whole_word, told_word, as_words, IsTold, AreTold, ShortWord}

chosen : (b : Bool) (x y z : Word) → (b ≡ true → x ≡ y) → (if b then x else z) ≡ (if b then y else z)
chosen true x y z same = same refl
chosen false x y z same = refl

same_word : (s : ShortWord) (long more : List Word) → IsTold (length long) s → told_word (long ++ more) s ≡ told_word long s
same_word s long more told =
    chosen (s.grade == far_grade) (slice_index_or (long ++ more) s.amount (whole_word s)) (slice_index_or long s.amount (whole_word s)) (whole_word s)
    (λ far. get_or_append_left long more (whole_word s) s.amount (told (eqb-true s.grade far_grade far)))

same_words : (short : List ShortWord) (long more : List Word) → AreTold short long → as_words short (long ++ more) ≡ as_words short long
same_words [] long more told = refl
same_words (s ∷ rest) long more told =
    let first = same_word s long more (All-head (IsTold (length long)) s rest told) in
    let others = same_words rest long more (All-tail (IsTold (length long)) s rest told) in
    λ i. first i ∷ others i

-- by the two outcomes of appending
pub same_after : {T E : Type 0} (result : Result T E) (short : List ShortWord) (old new : List Word) (word : Word) → IfOk result (λ _. new ≡ old ++ word ∷ []) → OnErr result (new ≡ old)
    → AreTold short old → as_words short new ≡ as_words short old
same_after (Ok _) short old new word more kept told = ap (λ (l : List Word). as_words short l) more ∙ same_words short old (word ∷ []) told
same_after (Err _) short old new word more kept told = ap (λ (l : List Word). as_words short l) kept
