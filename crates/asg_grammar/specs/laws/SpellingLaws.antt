-- A value is spelled in one way, and without LF.
use Rattle.std.proofs.Common.{◌≡◌, ℕ, suc, ◌^◌, ◌<◌, ◌≤◌, Bool, true, eqb, List, [], ◌∷◌, ◌++◌, length, get_or, Option, Some, refl, sym, ap, ◌∙◌, subst, append_assoc, arith, inl, inr}
use Rattle.std.specs.Prelude.{◌≢◌, ℤ, pos, negsuc, FitsSigned, not}
use Rattle.std.specs.Int.{w128}
use Rattle.std.specs.List.{list_all}
use Rattle.std.specs.Fmt.{decimal, signed_decimal}
use Rattle.std.specs.Str.Parse.{digits_value}
use Rattle.std.proofs.lemmas.Bool.{false≢true}
use Rattle.std.proofs.lemmas.Bool.Decides.{eqb_tells}
use Rattle.std.proofs.lemmas.Fmt.{decimal_is_IsNumeral_wide}
use Rattle.std.proofs.lemmas.List.{append-nil, append_cancel_left, get_or_default}
use Rattle.std.proofs.lemmas.List.Elements.{All-nil, All-cons, All-head, All-tail, All-append}
use Rattle.std.proofs.lemmas.Str.Parse.{digit_at}
use Rattle.asg_grammar.specs.Lines.{Lacks, IsCutAt}
use Rattle.asg_grammar.specs.NumberLists.{AreNumbers}
use Rattle.asg_grammar.specs.Spellings.{Spelling, behind, number_spelling, positive_spelling, long_spelling, wide_spelling, signed_spelling, pair_spelling, list_spelling, IsPair, pair_text, spaced}
use Rattle.asg_grammar.specs.laws.LineCuts.{cut_unique}

-- a spelling that can be read in one way: some value is spelled, no two alike, and none with LF
pub record IsLegible {A : Type 0} (spelling : Spelling A) : Type 0 where
  pub some : A
  pub has : spelling.Has some
  pub same : (a b : A) → spelling.Has a → spelling.Has b → spelling.bytes a ≡ spelling.bytes b → a ≡ b
  pub plain : (a : A) → spelling.Has a → Lacks 10 (spelling.bytes a)

-- ---- literals

-- whether there is no LF
abbrev pub is_plain : List ℕ → Bool
is_plain bytes = list_all (λ b. not (eqb b 10)) bytes

pub Lacks-literal : (bytes : List ℕ) → is_plain bytes ≡ true → Lacks 10 bytes
Lacks-literal [] test = All-nil (λ b. b ≢ 10)
Lacks-literal (b ∷ bytes) test =
    elim (eqb_tells b 10) [
      | inl is ↦ absurd (false≢true (rw is.0 at test))
      | inr other ↦ let rest : list_all (λ c. not (eqb c 10)) bytes ≡ true = rw other.0 at test in
          All-cons (λ c. c ≢ 10) b bytes other.1 (Lacks-literal bytes rest)
    ]

-- behind other bytes
pub IsLegible-behind : {A : Type 0} {spelling : Spelling A} (front : List ℕ) → is_plain front ≡ true → IsLegible spelling → IsLegible (behind front spelling)
IsLegible-behind {spelling = spelling} front test law = record {
  some = law.some;
  has = law.has;
  same = λ a b ha hb e. law.same a b ha hb (append_cancel_left front (spelling.bytes a) (spelling.bytes b) e);
  plain = λ a ha. All-append (λ b. b ≢ 10) front (spelling.bytes a) (Lacks-literal front test) (law.plain a ha);
}

-- words that a decoder gives back
pub IsLegible-decoded : {A : Type 0} {spelling : Spelling A} (decode : List ℕ → Option A) (some : A) → spelling.Has some
    → ((a : A) → spelling.Has a → decode (spelling.bytes a) ≡ Some a) → ((a : A) → spelling.Has a → is_plain (spelling.bytes a) ≡ true) → IsLegible spelling
IsLegible-decoded {spelling = spelling} decode some has inverse plain = record {
  some = some;
  has = has;
  same = λ a b ha hb e. let found : Some a ≡ Some b = sym (inverse a ha) ∙ ap decode e ∙ inverse b hb in cc (found);
  plain = λ a ha. Lacks-literal (spelling.bytes a) (plain a ha);
}

-- ---- numbers

pub wide : (n : ℕ) → n < 2 ^ 32 → n < 10 ^ 64
wide n h = omega arith

-- a spelled number has digits alone
pub Lacks-decimal : (at n : ℕ) → at < 48 → n < 10 ^ 64 → Lacks at (decimal n)
Lacks-decimal at n below h = λ k d within.
    let digit = digit_at (decimal n) k (decimal_is_IsNumeral_wide n h).0.1 within in
    let same : get_or (decimal n) k 0 ≡ get_or (decimal n) k d = get_or_default (decimal n) k 0 d within in
    λ is. absurd (omega (arith, digit.0, same, is))

pub Lacks-decimal_above : (at n : ℕ) → 57 < at → n < 10 ^ 64 → Lacks at (decimal n)
Lacks-decimal_above at n above h = λ k d within.
    let digit = digit_at (decimal n) k (decimal_is_IsNumeral_wide n h).0.1 within in
    let same : get_or (decimal n) k 0 ≡ get_or (decimal n) k d = get_or_default (decimal n) k 0 d within in
    λ is. absurd (omega (arith, digit.1, same, is))

pub decimal_same : (m n : ℕ) → m < 10 ^ 64 → n < 10 ^ 64 → decimal m ≡ decimal n → m ≡ n
decimal_same m n hm hn e = sym (decimal_is_IsNumeral_wide m hm).1 ∙ ap (digits_value 10) e ∙ (decimal_is_IsNumeral_wide n hn).1

-- the first byte of a spelled number isn't a minus
pub not_minus : (n : ℕ) (bytes : List ℕ) → n < 10 ^ 64 → decimal n ≡ 45 ∷ bytes → ⊥
not_minus n bytes h e = All-head (λ b. b ≢ 45) 45 bytes (subst (Lacks 45) e (Lacks-decimal 45 n (omega arith) h)) refl

signed_same : (y z : ℤ) → FitsSigned w128 y → FitsSigned w128 z → signed_decimal y ≡ signed_decimal z → y ≡ z
signed_same (pos m) (pos n) fy fz e = ap pos (decimal_same m n (omega arith) (omega arith) e)
signed_same (pos m) (negsuc n) fy fz e = absurd (not_minus m (decimal (suc n)) (omega arith) e)
signed_same (negsuc m) (pos n) fy fz e = absurd (not_minus n (decimal (suc m)) (omega arith) (sym e))
signed_same (negsuc m) (negsuc n) fy fz e =
    let tails : decimal (suc m) ≡ decimal (suc n) = cc in
    let same : suc m ≡ suc n = decimal_same (suc m) (suc n) (omega arith) (omega arith) tails in
    ap negsuc (omega arith)

pub Lacks-signed : (at : ℕ) (z : ℤ) → at < 45 → FitsSigned w128 z → Lacks at (signed_decimal z)
Lacks-signed at (pos n) below fits = Lacks-decimal at n (omega arith) (omega arith)
Lacks-signed at (negsuc n) below fits =
    All-cons (λ b. b ≢ at) 45 (decimal (suc n)) (λ is. absurd (omega arith)) (Lacks-decimal at (suc n) (omega arith) (omega arith))

pub Lacks-signed_above : (at : ℕ) (z : ℤ) → 57 < at → FitsSigned w128 z → Lacks at (signed_decimal z)
Lacks-signed_above at (pos n) above fits = Lacks-decimal_above at n above (omega arith)
Lacks-signed_above at (negsuc n) above fits =
    All-cons (λ b. b ≢ at) 45 (decimal (suc n)) (λ is. absurd (omega arith)) (Lacks-decimal_above at (suc n) above (omega arith))

-- numbers below a limit
below_legible : (limit : ℕ) → 0 < limit → limit ≤ 10 ^ 64 → IsLegible (record { bytes = decimal; Has = λ n. n < limit })
below_legible limit some few = record {
  some = 0;
  has = some;
  same = λ m n fm fn e. decimal_same m n (omega arith) (omega arith) e;
  plain = λ n fn. Lacks-decimal 10 n (omega arith) (omega arith);
}

pub IsLegible-number : IsLegible number_spelling
IsLegible-number = below_legible (2 ^ 32) (omega arith) (omega arith)

pub IsLegible-long : IsLegible long_spelling
IsLegible-long = below_legible (2 ^ 64) (omega arith) (omega arith)

pub IsLegible-wide : IsLegible wide_spelling
IsLegible-wide = below_legible (2 ^ 128) (omega arith) (omega arith)

pub IsLegible-positive : IsLegible positive_spelling
IsLegible-positive = record {
  some = 1;
  has = (omega arith, omega arith);
  same = λ m n fm fn e. decimal_same m n (wide m fm.1) (wide n fn.1) e;
  plain = λ n fn. Lacks-decimal 10 n (omega arith) (wide n fn.1);
}

pub IsLegible-signed : IsLegible signed_spelling
IsLegible-signed = record { some = pos 0; has = omega arith; same = signed_same; plain = λ z fz. Lacks-signed 10 z (omega arith) fz }

-- ---- pairs

pair_same : (x y : ℕ × ℕ) → IsPair x → IsPair y → pair_text x ≡ pair_text y → x ≡ y
pair_same x y fx fy e =
    let parts = cut_unique 32 (decimal x.0) (decimal y.0) (32 ∷ decimal x.1) (32 ∷ decimal y.1)
    (Lacks-decimal 32 x.0 (omega arith) (wide x.0 fx.0)) (Lacks-decimal 32 y.0 (omega arith) (wide y.0 fy.0)) refl refl e in
    let firsts : x.0 ≡ y.0 = decimal_same x.0 y.0 (wide x.0 fx.0) (wide y.0 fy.0) parts.0 in
    let tails : decimal x.1 ≡ decimal y.1 = cc (parts.1) in
    let seconds : x.1 ≡ y.1 = decimal_same x.1 y.1 (wide x.1 fx.1) (wide y.1 fy.1) tails in
    ap (λ a. (a, x.1)) firsts ∙ ap (λ b. (y.0, b)) seconds

pub IsLegible-pair : IsLegible pair_spelling
IsLegible-pair = record {
  some = (0, 0);
  has = (omega arith, omega arith);
  same = pair_same;
  plain = λ p fits. All-append (λ b. b ≢ 10) (decimal p.0) (32 ∷ decimal p.1)
      (Lacks-decimal 10 p.0 (omega arith) (wide p.0 fits.0))
      (All-cons (λ b. b ≢ 10) 32 (decimal p.1) (λ is. absurd (omega arith)) (Lacks-decimal 10 p.1 (omega arith) (wide p.1 fits.1)));
}

-- ---- lists

pub IsCutAt-spaced : (xs : List ℕ) → IsCutAt 32 (spaced xs)
IsCutAt-spaced [] = tt
IsCutAt-spaced (x ∷ xs) = refl

IsCutAt-then : (xs rest : List ℕ) → IsCutAt 32 rest → IsCutAt 32 (spaced xs ++ rest)
IsCutAt-then [] rest cut = cut
IsCutAt-then (x ∷ xs) rest cut = refl

-- a list whose text begins with the text of `xs` is `xs` and others
pub spaced_rest : (xs ys rest : List ℕ) → AreNumbers xs → AreNumbers ys → (0 < length xs → IsCutAt 32 rest) → spaced ys ≡ spaced xs ++ rest
    → (zs : List ℕ) × (ys ≡ xs ++ zs) × AreNumbers zs × (rest ≡ spaced zs)
spaced_rest [] ys rest ix iy cut e = (ys, refl, iy, sym e)
spaced_rest (x ∷ xs) [] rest ix iy cut e = absurd cc
spaced_rest (x ∷ xs) (y ∷ ys) rest ix iy cut e =
    let fx : x < 10 ^ 64 = wide x (All-head (λ n. n < 2 ^ 32) x xs ix) in
    let fy : y < 10 ^ 64 = wide y (All-head (λ n. n < 2 ^ 32) y ys iy) in
    let tails : decimal y ++ spaced ys ≡ (decimal x ++ spaced xs) ++ rest = cc in
    let parts = cut_unique 32 (decimal y) (decimal x) (spaced ys) (spaced xs ++ rest)
    (Lacks-decimal 32 y (omega arith) fy) (Lacks-decimal 32 x (omega arith) fx)
    (IsCutAt-spaced ys) (IsCutAt-then xs rest (cut (omega arith)))
    (tails ∙ append_assoc (decimal x) (spaced xs) rest) in
    let others = spaced_rest xs ys rest (All-tail (λ n. n < 2 ^ 32) x xs ix) (All-tail (λ n. n < 2 ^ 32) y ys iy) (λ some. cut (omega arith)) parts.1 in
    let heads : y ≡ x = decimal_same y x fy fx parts.0 in
    (others.0, ap (λ h. h ∷ ys) heads ∙ ap (λ t. x ∷ t) others.1, others.2, others.3)

spaced_none : (xs : List ℕ) → [] ≡ spaced xs → xs ≡ []
spaced_none [] e = refl
spaced_none (x ∷ xs) e = absurd cc

spaced_same : (xs ys : List ℕ) → AreNumbers xs → AreNumbers ys → spaced xs ≡ spaced ys → xs ≡ ys
spaced_same xs ys ix iy e =
    let found = spaced_rest xs ys [] ix iy (λ some. tt) (sym e ∙ sym (append-nil (spaced xs))) in
    sym (found.1 ∙ ap (λ zs. xs ++ zs) (spaced_none found.0 found.3) ∙ append-nil xs)

Lacks-spaced : (xs : List ℕ) → AreNumbers xs → Lacks 10 (spaced xs)
Lacks-spaced [] ix = All-nil (λ b. b ≢ 10)
Lacks-spaced (x ∷ xs) ix =
    All-append (λ b. b ≢ 10) (32 ∷ decimal x) (spaced xs)
    (All-cons (λ b. b ≢ 10) 32 (decimal x) (λ is. absurd (omega arith)) (Lacks-decimal 10 x (omega arith) (wide x (All-head (λ n. n < 2 ^ 32) x xs ix))))
    (Lacks-spaced xs (All-tail (λ n. n < 2 ^ 32) x xs ix))

pub IsLegible-list : IsLegible list_spelling
IsLegible-list = record {
  some = 0 ∷ [];
  has = record { some = omega arith; ids = All-cons (λ n. n < 2 ^ 32) 0 [] (omega arith) (All-nil (λ n. n < 2 ^ 32)) };
  same = λ xs ys hx hy e. spaced_same xs ys hx.ids hy.ids e;
  plain = λ xs hx. Lacks-spaced xs hx.ids;
}
