-- Values that are listed, each after a space, are read in one way.
use Rattle.std.proofs.Common.{◌≡◌, ℕ, ◌<◌, List, [], ◌∷◌, ◌++◌, length, refl, sym, ap, ◌∙◌, append_assoc, arith}
use Rattle.std.specs.Prelude.{◌≢◌, All}
use Rattle.std.proofs.lemmas.List.{append-nil}
use Rattle.std.proofs.lemmas.List.Concat.{flat_map-append}
use Rattle.std.proofs.lemmas.List.Elements.{All-nil, All-cons, All-head, All-tail, All-append, All-push}
use Rattle.asg_grammar.specs.Lines.{Lacks, IsCutAt}
use Rattle.asg_grammar.specs.Spellings.{Spelling, listed, IsListOf, ListsNext}
use Rattle.asg_grammar.specs.laws.LineCuts.{cut_unique, tails_same}
use Rattle.asg_grammar.specs.laws.SpellingLaws.{IsLegible}

-- a spelling without a space
pub record IsWord {A : Type 0} (spelling : Spelling A) : Type 0 where
  pub legible : IsLegible spelling
  pub no_space : (a : A) → spelling.Has a → Lacks 32 (spelling.bytes a)

-- values were read from the front of a text, and what is left begins with a space or is nothing
pub record AreListed {A : Type 0} (spelling : Spelling A) (text : List ℕ) (values : List A) (rest : List ℕ) : Type 0 where
  pub whole : text ≡ (listed spelling).bytes values ++ rest
  pub each : All spelling.Has values
  pub cut : 0 < length values → IsCutAt 32 rest

module _ {A : Type 0} {spelling : Spelling A} (word : IsWord spelling) where
  abbrev text_of : List A → List ℕ
  text_of = (listed spelling).bytes

  IsCutAt-listed : (xs : List A) → IsCutAt 32 (text_of xs)
  IsCutAt-listed [] = tt
  IsCutAt-listed (x ∷ xs) = refl

  IsCutAt-then : (xs : List A) (rest : List ℕ) → IsCutAt 32 rest → IsCutAt 32 (text_of xs ++ rest)
  IsCutAt-then [] rest cut = cut
  IsCutAt-then (x ∷ xs) rest cut = refl

  -- a list whose text begins with the text of `xs` is `xs` and others
  listed_rest : (xs ys : List A) (rest : List ℕ) → All spelling.Has xs → All spelling.Has ys → (0 < length xs → IsCutAt 32 rest) → text_of ys ≡ text_of xs ++ rest
      → (zs : List A) × (ys ≡ xs ++ zs) × All spelling.Has zs × (rest ≡ text_of zs)
  listed_rest [] ys rest hx hy cut e = (ys, refl, hy, sym e)
  listed_rest (x ∷ xs) [] rest hx hy cut e = absurd cc
  listed_rest (x ∷ xs) (y ∷ ys) rest hx hy cut e =
      let fx = All-head spelling.Has x xs hx in
      let fy = All-head spelling.Has y ys hy in
      let tails : spelling.bytes y ++ text_of ys ≡ (spelling.bytes x ++ text_of xs) ++ rest = cc in
      let parts = cut_unique 32 (spelling.bytes y) (spelling.bytes x) (text_of ys) (text_of xs ++ rest)
      (word.no_space y fy) (word.no_space x fx)
      (IsCutAt-listed ys) (IsCutAt-then xs rest (cut (omega arith)))
      (tails ∙ append_assoc (spelling.bytes x) (text_of xs) rest) in
      let others = listed_rest xs ys rest (All-tail spelling.Has x xs hx) (All-tail spelling.Has y ys hy) (λ some. cut (omega arith)) parts.1 in
      let heads : y ≡ x = word.legible.same y x fy fx parts.0 in
      (others.0, ap (λ h. h ∷ ys) heads ∙ ap (λ t. x ∷ t) others.1, others.2, others.3)

  listed_none : (xs : List A) → [] ≡ text_of xs → xs ≡ []
  listed_none [] e = refl
  listed_none (x ∷ xs) e = absurd cc

  listed_same : (xs ys : List A) → All spelling.Has xs → All spelling.Has ys → text_of xs ≡ text_of ys → xs ≡ ys
  listed_same xs ys hx hy e =
      let found = listed_rest xs ys [] hx hy (λ some. tt) (sym e ∙ sym (append-nil (text_of xs))) in
      sym (found.1 ∙ ap (λ zs. xs ++ zs) (listed_none found.0 found.3) ∙ append-nil xs)

  Lacks-listed : (xs : List A) → All spelling.Has xs → Lacks 10 (text_of xs)
  Lacks-listed [] hx = All-nil (λ b. b ≢ 10)
  Lacks-listed (x ∷ xs) hx =
      All-append (λ b. b ≢ 10) (32 ∷ spelling.bytes x) (text_of xs)
      (All-cons (λ b. b ≢ 10) 32 (spelling.bytes x) (λ is. absurd (omega arith)) (word.legible.plain x (All-head spelling.Has x xs hx)))
      (Lacks-listed xs (All-tail spelling.Has x xs hx))

  pub IsLegible-listed : IsLegible (listed spelling)
  IsLegible-listed = record {
    some = word.legible.some ∷ [];
    has = record { some = omega arith; each = All-cons spelling.Has word.legible.some [] word.legible.has (All-nil spelling.Has) };
    same = λ xs ys hx hy e. listed_same xs ys hx.each hy.each e;
    plain = λ xs hx. Lacks-listed xs hx.each;
  }

  -- what is listed is cut behind the first value
  pub next_cut : (text tail front rest : List ℕ) (value : A) (others : List ℕ) → text ≡ 32 ∷ tail → tail ≡ front ++ rest → Lacks 32 front → IsCutAt 32 rest
      → ListsNext spelling text value others → front ≡ spelling.bytes value
  next_cut text tail front rest value others space whole lacks cut lists =
      let tails : tail ≡ spelling.bytes value ++ others = tails_same 32 32 tail (spelling.bytes value ++ others) (sym space ∙ lists.whole) in
      (cut_unique 32 front (spelling.bytes value) rest others lacks (word.no_space value lists.has) cut lists.cut (sym whole ∙ tails)).0

  pub AreListed-none : (text : List ℕ) → AreListed spelling text [] text
  AreListed-none text = record { whole = refl; each = All-nil spelling.Has; cut = λ some. absurd (omega arith) }

  -- one more is read
  pub AreListed-more : (text : List ℕ) (values : List A) (rest after : List ℕ) (value : A) → AreListed spelling text values rest → ListsNext spelling rest value after
      → AreListed spelling text (values ++ value ∷ []) after
  AreListed-more text values rest after value read next = record {
    whole = read.whole ∙ ap (λ bs. text_of values ++ bs) (next.whole ∙ ap (λ bs. bs ++ after) (sym (append-nil (32 ∷ spelling.bytes value))))
        ∙ sym (append_assoc (text_of values) ((32 ∷ spelling.bytes value) ++ []) after)
        ∙ ap (λ bs. bs ++ after) (sym (flat_map-append (λ a. 32 ∷ spelling.bytes a) values (value ∷ [])));
    each = All-push spelling.Has values value read.each next.has;
    cut = λ some. next.cut;
  }

  no_others : (rest : List ℕ) (others : List A) → All spelling.Has others → rest ≡ text_of others → ((value : A) (after : List ℕ) → ListsNext spelling rest value after → ⊥) → others ≡ []
  no_others rest [] has is none = refl
  no_others rest (value ∷ others) has is none = absurd (none value (text_of others) (record {
    has = All-head spelling.Has value others has;
    whole = is;
    cut = IsCutAt-listed others;
  }))

  -- where nothing is listed any more, a list that spells the text was read whole
  pub AreListed-all : (text : List ℕ) (values : List A) (rest : List ℕ) (all : List A) → AreListed spelling text values rest → ((value : A) (after : List ℕ) → ListsNext spelling rest value after → ⊥)
      → IsListOf spelling.Has all → text ≡ text_of all → (0 < length values) × (rest ≡ [])
  AreListed-all text values rest all read none list is =
      let found = listed_rest values all rest read.each list.each read.cut (sym is ∙ read.whole) in
      let empty : found.0 ≡ [] = no_others rest found.0 found.2 found.3 none in
      let same : all ≡ values = found.1 ∙ ap (λ os. values ++ os) empty ∙ append-nil values in
      (omega (arith, list.some, ap length same), found.3 ∙ ap text_of empty)
