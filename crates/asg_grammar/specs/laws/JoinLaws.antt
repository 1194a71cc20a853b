-- Two values with a byte between them are read in one way, by a cut at the first such byte.
use Rattle.std.proofs.Common.{◌≡◌, ◌≢◌, ℕ, List, ◌∷◌, ◌++◌, refl, sym, ap, ◌∙◌, arith}
use Rattle.std.specs.Prelude.{ℤ}
use Rattle.std.proofs.lemmas.List.Elements.{All-cons, All-append}
use Rattle.asg_grammar.specs.Lines.{Lacks, IsCutAt}
use Rattle.asg_grammar.specs.Spellings.{Spelling, joined, long_spelling, wide_spelling, signed_spelling, signed_pair_spelling, graded_spelling, long_pair_spelling}
use Rattle.asg_grammar.specs.laws.LineCuts.{cut_unique, tails_same}
use Rattle.asg_grammar.specs.laws.SpellingLaws.{IsLegible, IsLegible-long, IsLegible-wide, IsLegible-signed, Lacks-decimal_above, Lacks-signed_above}

module _ {A B : Type 0} (front : Spelling A) (back : Spelling B) (at : ℕ) (no_at : (a : A) → front.Has a → Lacks at (front.bytes a)) where
  -- a text of two values is cut behind the first
  pub joined_cut : (text word rest : List ℕ) (both : A × B) → text ≡ word ++ rest → Lacks at word → IsCutAt at rest → front.Has both.0
      → text ≡ (joined at front back).bytes both → (word ≡ front.bytes both.0) × (rest ≡ at ∷ back.bytes both.1)
  joined_cut text word rest both whole lacks cut has is =
      cut_unique at word (front.bytes both.0) rest (at ∷ back.bytes both.1) lacks (no_at both.0 has) cut refl (sym whole ∙ is)

  pub IsLegible-joined : at ≢ 10 → IsLegible front → IsLegible back → IsLegible (joined at front back)
  IsLegible-joined other first second = record {
    some = (first.some, second.some);
    has = (first.has, second.has);
    same = λ x y hx hy e.
        let parts = joined_cut (front.bytes x.0 ++ at ∷ back.bytes x.1) (front.bytes x.0) (at ∷ back.bytes x.1) y refl (no_at x.0 hx.0) refl hy.0 e in
        let heads : x.0 ≡ y.0 = first.same x.0 y.0 hx.0 hy.0 parts.0 in
        let tails : x.1 ≡ y.1 = second.same x.1 y.1 hx.1 hy.1 (tails_same at at (back.bytes x.1) (back.bytes y.1) parts.1) in
        ap (λ a. (a, x.1)) heads ∙ ap (λ b. (y.0, b)) tails;
    plain = λ both has. All-append (λ b. b ≢ 10) (front.bytes both.0) (at ∷ back.bytes both.1)
        (first.plain both.0 has.0) (All-cons (λ b. b ≢ 10) at (back.bytes both.1) other (second.plain both.1 has.1));
  }

no_colon-signed : (z : ℤ) → signed_spelling.Has z → Lacks 58 (signed_spelling.bytes z)
no_colon-signed z fits = Lacks-signed_above 58 z (omega arith) fits

no_colon-long : (n : ℕ) → long_spelling.Has n → Lacks 58 (long_spelling.bytes n)
no_colon-long n fits = Lacks-decimal_above 58 n (omega arith) (omega arith)

pub signed_pair_cut : (text word rest : List ℕ) (both : ℤ × ℤ) → text ≡ word ++ rest → Lacks 58 word → IsCutAt 58 rest → signed_spelling.Has both.0
    → text ≡ signed_pair_spelling.bytes both → (word ≡ signed_spelling.bytes both.0) × (rest ≡ 58 ∷ signed_spelling.bytes both.1)
signed_pair_cut = joined_cut signed_spelling signed_spelling 58 no_colon-signed

pub graded_cut : (text word rest : List ℕ) (both : ℕ × ℕ) → text ≡ word ++ rest → Lacks 58 word → IsCutAt 58 rest → long_spelling.Has both.0
    → text ≡ graded_spelling.bytes both → (word ≡ long_spelling.bytes both.0) × (rest ≡ 58 ∷ wide_spelling.bytes both.1)
graded_cut = joined_cut long_spelling wide_spelling 58 no_colon-long

pub long_pair_cut : (text word rest : List ℕ) (both : ℕ × ℕ) → text ≡ word ++ rest → Lacks 58 word → IsCutAt 58 rest → long_spelling.Has both.0
    → text ≡ long_pair_spelling.bytes both → (word ≡ long_spelling.bytes both.0) × (rest ≡ 58 ∷ long_spelling.bytes both.1)
long_pair_cut = joined_cut long_spelling long_spelling 58 no_colon-long

pub IsLegible-signed_pair : IsLegible signed_pair_spelling
IsLegible-signed_pair = IsLegible-joined signed_spelling signed_spelling 58 no_colon-signed (λ is. absurd (omega arith)) IsLegible-signed IsLegible-signed

pub IsLegible-graded : IsLegible graded_spelling
IsLegible-graded = IsLegible-joined long_spelling wide_spelling 58 no_colon-long (λ is. absurd (omega arith)) IsLegible-long IsLegible-wide

pub IsLegible-long_pair : IsLegible long_pair_spelling
IsLegible-long_pair = IsLegible-joined long_spelling long_spelling 58 no_colon-long (λ is. absurd (omega arith)) IsLegible-long IsLegible-long

-- what follows the byte between
pub after_cut : (at : ℕ) (rest second back : List ℕ) → rest ≡ at ∷ second → rest ≡ at ∷ back → second ≡ back
after_cut at rest second back is e = tails_same at at second back (sym is ∙ e)
