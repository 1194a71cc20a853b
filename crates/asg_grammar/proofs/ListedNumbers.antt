-- What a pair and a list of numbers spell, by their cuts at spaces.
use Rattle.asg_grammar.proofs.Common.{◌≡◌, ℕ, ◌^◌, ◌<◌, List, [], ◌∷◌, ◌++◌, length, sym, refl, ap, ◌∙◌, append_assoc, arith, Lacks, IsCutAt, AreNumbers, IsNumberList, IsPair, ListsFirst, pair_text, spaced, cut_unique, wide, Lacks-decimal, IsCutAt-spaced, spaced_rest, append-nil, All-head, All-push, decimal}
use Rattle.std.proofs.lemmas.List.Concat.{flat_map-append}

-- a pair is cut behind its first number
pub pair_cut : (text word rest : List ℕ) (pair : ℕ × ℕ) → text ≡ word ++ rest → Lacks 32 word → IsCutAt 32 rest → IsPair pair → text ≡ pair_text pair
    → (word ≡ decimal pair.0) × (rest ≡ 32 ∷ decimal pair.1)
pair_cut text word rest pair whole lacks cut fits is =
    cut_unique 32 word (decimal pair.0) rest (32 ∷ decimal pair.1) lacks (Lacks-decimal 32 pair.0 (omega arith) (wide pair.0 fits.0)) cut refl (sym whole ∙ is)

-- what its first number is followed by
pub second_of : (rest second : List ℕ) (pair : ℕ × ℕ) → rest ≡ 32 ∷ second → rest ≡ 32 ∷ decimal pair.1 → second ≡ decimal pair.1
second_of rest second pair space is = let e : 32 ∷ second ≡ 32 ∷ decimal pair.1 = sym space ∙ is in cc (e)

-- numbers that are listed are cut behind the first
pub first_cut : (text tail word rest : List ℕ) (number : ℕ) (others : List ℕ) → text ≡ 32 ∷ tail → tail ≡ word ++ rest → Lacks 32 word → IsCutAt 32 rest
    → ListsFirst text number others → word ≡ decimal number
first_cut text tail word rest number others space whole lacks cut lists =
    let same : word ++ rest ≡ decimal number ++ others = let e : 32 ∷ tail ≡ 32 ∷ (decimal number ++ others) = sym space ∙ lists.whole in let tails : tail ≡ decimal number ++ others = cc (e) in sym whole ∙ tails in
    (cut_unique 32 word (decimal number) rest others lacks (Lacks-decimal 32 number (omega arith) (wide number lists.fits)) cut lists.cut same).0

-- one number more
pub spaced-more : (numbers rest after : List ℕ) (number : ℕ) → rest ≡ 32 ∷ (decimal number ++ after) → spaced numbers ++ rest ≡ spaced (numbers ++ number ∷ []) ++ after
spaced-more numbers rest after number first =
    ap (λ bs. spaced numbers ++ bs) (first ∙ ap (λ bs. bs ++ after) (sym (append-nil (32 ∷ decimal number))))
    ∙ sym (append_assoc (spaced numbers) ((32 ∷ decimal number) ++ []) after)
    ∙ ap (λ bs. bs ++ after) (sym (flat_map-append (λ n. 32 ∷ decimal n) numbers (number ∷ [])))

-- a front and the text of numbers come first
pub record BeginsWith (front bytes numbers rest : List ℕ) : Type 0 where
  pub whole : bytes ≡ front ++ (spaced numbers ++ rest)
  pub fits : AreNumbers numbers

pub BeginsWith-more : (front bytes numbers rest after : List ℕ) (number : ℕ) → BeginsWith front bytes numbers rest → number < 2 ^ 32 → rest ≡ 32 ∷ (decimal number ++ after)
    → BeginsWith front bytes (numbers ++ number ∷ []) after
BeginsWith-more front bytes numbers rest after number begins fits first = record {
  whole = begins.whole ∙ ap (λ bs. front ++ bs) (spaced-more numbers rest after number first);
  fits = All-push (λ n. n < 2 ^ 32) numbers number begins.fits fits;
}

-- numbers were read from the front of a text, and what is left begins with a space or is nothing
pub record AreRead (text numbers rest : List ℕ) : Type 0 where
  pub whole : text ≡ spaced numbers ++ rest
  pub fits : AreNumbers numbers
  pub cut : 0 < length numbers → IsCutAt 32 rest

pub AreRead-more : (text numbers rest after : List ℕ) (number : ℕ) → AreRead text numbers rest → ListsFirst rest number after → AreRead text (numbers ++ number ∷ []) after
AreRead-more text numbers rest after number read first = record {
  whole = read.whole ∙ spaced-more numbers rest after number first.whole;
  fits = All-push (λ n. n < 2 ^ 32) numbers number read.fits first.fits;
  cut = λ some. first.cut;
}

no_others : (rest others : List ℕ) → AreNumbers others → rest ≡ spaced others → ((number : ℕ) (after : List ℕ) → ListsFirst rest number after → ⊥) → others ≡ []
no_others rest [] fits is none = refl
no_others rest (number ∷ others) fits is none = absurd (none number (spaced others) (record {
  fits = All-head (λ n. n < 2 ^ 32) number others fits;
  whole = is;
  cut = IsCutAt-spaced others;
}))

-- where nothing is listed any more, a list that spells the text was read whole
pub AreRead-all : (text numbers rest all : List ℕ) → AreRead text numbers rest → ((number : ℕ) (after : List ℕ) → ListsFirst rest number after → ⊥) → IsNumberList all → text ≡ spaced all
    → (0 < length numbers) × (rest ≡ [])
AreRead-all text numbers rest all read none list is =
    let found = spaced_rest numbers all rest read.fits list.ids read.cut (sym is ∙ read.whole) in
    let empty : found.0 ≡ [] = no_others rest found.0 found.2 found.3 none in
    let same : all ≡ numbers = found.1 ∙ ap (λ os. numbers ++ os) empty ∙ append-nil numbers in
    (omega (arith, list.some, ap length same), found.3 ∙ ap spaced empty)
