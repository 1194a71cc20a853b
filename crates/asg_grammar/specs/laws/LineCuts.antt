-- A list of bytes is cut in one way, and a file into lines.
use Rattle.std.proofs.Common.{◌≡◌, ℕ, ◌+◌, true, false, cond, eqb, List, [], ◌∷◌, ◌++◌, length, All, refl, sym, ap, ◌∙◌, subst, append_assoc, arith, inl, inr}
use Rattle.std.specs.Prelude.{◌≢◌, ◌⊎◌}
use Rattle.std.proofs.lemmas.Bool.{ne_eqb}
use Rattle.std.proofs.lemmas.Bool.Decides.{eqb_tells}
use Rattle.std.proofs.lemmas.List.{append-nil}
use Rattle.std.proofs.lemmas.List.Concat.{flat_map-append}
use Rattle.std.proofs.lemmas.List.Sums.{sum_by-cons, sum_by-append}
use Rattle.std.proofs.lemmas.List.Elements.{All-nil, All-cons, All-head, All-tail}
use Rattle.asg_grammar.specs.Lines.{ended, prepend, whole_lines, line_ends, Lacks, IsCutAt}

-- equal lists have equal heads, and equal rests
pub heads_same : {A : Type 0} (x y : A) (xs ys : List A) → x ∷ xs ≡ y ∷ ys → x ≡ y
heads_same x y xs ys e = cc

pub tails_same : {A : Type 0} (x y : A) (xs ys : List A) → x ∷ xs ≡ y ∷ ys → xs ≡ ys
tails_same x y xs ys e = cc

-- a cut at the first such byte is the only one
pub cut_unique : (at : ℕ) (f g s t : List ℕ) → Lacks at f → Lacks at g → IsCutAt at s → IsCutAt at t → f ++ s ≡ g ++ t → (f ≡ g) × (s ≡ t)
cut_unique at [] [] s t lf lg cs ct e = (refl, e)
cut_unique at [] (y ∷ g) [] t lf lg cs ct e = absurd cc
cut_unique at [] (y ∷ g) (b ∷ s) t lf lg cs ct e =
    let same : b ≡ y = cc in absurd (All-head (λ byte. byte ≢ at) y g lg (sym same ∙ cs))
cut_unique at (x ∷ f) [] s [] lf lg cs ct e = absurd cc
cut_unique at (x ∷ f) [] s (b ∷ t) lf lg cs ct e =
    let same : x ≡ b = cc in absurd (All-head (λ byte. byte ≢ at) x f lf (same ∙ ct))
cut_unique at (x ∷ f) (y ∷ g) s t lf lg cs ct e =
    let heads : x ≡ y = cc in
    let tails : f ++ s ≡ g ++ t = cc in
    let rest = cut_unique at f g s t (All-tail (λ byte. byte ≢ at) x f lf) (All-tail (λ byte. byte ≢ at) y g lg) cs ct tails in
    (cc, rest.1)

-- ---- the lines of a file

-- a byte is LF or another
abbrev Parted : ℕ → Type 0
Parted byte = ((eqb byte 10 ≡ true) × (byte ≡ 10)) ⊎ ((eqb byte 10 ≡ false) × (byte ≢ 10))

at_end : (bytes : List ℕ) (byte : ℕ) → eqb byte 10 ≡ true → whole_lines (byte ∷ bytes) ≡ [] ∷ whole_lines bytes
at_end bytes byte e = rw e refl

within_line : (bytes : List ℕ) (byte : ℕ) → eqb byte 10 ≡ false → whole_lines (byte ∷ bytes) ≡ prepend byte (whole_lines bytes)
within_line bytes byte e = rw e refl

pub whole_lines-line : (line after : List ℕ) → Lacks 10 line → whole_lines (line ++ 10 ∷ after) ≡ line ∷ whole_lines after
whole_lines-line [] after lacks = refl
whole_lines-line (byte ∷ line) after lacks =
    within_line (line ++ 10 ∷ after) byte (ne_eqb byte 10 (All-head (λ b. b ≢ 10) byte line lacks))
    ∙ ap (prepend byte) (whole_lines-line line after (All-tail (λ b. b ≢ 10) byte line lacks))

pub whole_lines-piece : (piece : List ℕ) → Lacks 10 piece → whole_lines piece ≡ []
whole_lines-piece [] lacks = refl
whole_lines-piece (byte ∷ piece) lacks =
    within_line piece byte (ne_eqb byte 10 (All-head (λ b. b ≢ 10) byte piece lacks))
    ∙ ap (prepend byte) (whole_lines-piece piece (All-tail (λ b. b ≢ 10) byte piece lacks))

-- the text of lines, and bytes after it
pub ended-cons : (line : List ℕ) (lines : List (List ℕ)) (after : List ℕ) → ended (line ∷ lines) ++ after ≡ line ++ 10 ∷ (ended lines ++ after)
ended-cons line lines after =
    append_assoc (line ++ 10 ∷ []) (ended lines) after ∙ append_assoc line (10 ∷ []) (ended lines ++ after)

pub ended-append : (first second : List (List ℕ)) → ended (first ++ second) ≡ ended first ++ ended second
ended-append first second = flat_map-append (λ line. line ++ 10 ∷ []) first second

pub whole_lines-ended : (lines : List (List ℕ)) (after : List ℕ) → All (Lacks 10) lines → whole_lines (ended lines ++ after) ≡ lines ++ whole_lines after
whole_lines-ended [] after lacks = refl
whole_lines-ended (line ∷ lines) after lacks =
    ap whole_lines (ended-cons line lines after)
    ∙ whole_lines-line line (ended lines ++ after) (All-head (Lacks 10) line lines lacks)
    ∙ ap (λ ls. line ∷ ls) (whole_lines-ended lines after (All-tail (Lacks 10) line lines lacks))

-- bytes are their lines and a piece that no LF ends
pub record IsSplit (bytes : List ℕ) (lines : List (List ℕ)) : Type 0 where
  pub piece : List ℕ
  pub no_end : Lacks 10 piece
  pub lines_are : All (Lacks 10) lines
  pub whole : bytes ≡ ended lines ++ piece

IsSplit-end : (byte : ℕ) (bytes : List ℕ) (lines : List (List ℕ)) → byte ≡ 10 → IsSplit bytes lines → IsSplit (byte ∷ bytes) ([] ∷ lines)
IsSplit-end byte bytes lines is split = record {
  piece = split.piece;
  no_end = split.no_end;
  lines_are = All-cons (Lacks 10) [] lines (All-nil (λ b. b ≢ 10)) split.lines_are;
  whole = ap (λ b. b ∷ bytes) is ∙ ap (λ bs. 10 ∷ bs) split.whole;
}

IsSplit-byte : (byte : ℕ) (bytes : List ℕ) (lines : List (List ℕ)) → byte ≢ 10 → IsSplit bytes lines → IsSplit (byte ∷ bytes) (prepend byte lines)
IsSplit-byte byte bytes [] other split = record {
  piece = byte ∷ split.piece;
  no_end = All-cons (λ b. b ≢ 10) byte split.piece other split.no_end;
  lines_are = All-nil (Lacks 10);
  whole = ap (λ bs. byte ∷ bs) split.whole;
}
IsSplit-byte byte bytes (line ∷ lines) other split = record {
  piece = split.piece;
  no_end = split.no_end;
  lines_are = All-cons (Lacks 10) (byte ∷ line) lines
      (All-cons (λ b. b ≢ 10) byte line other (All-head (Lacks 10) line lines split.lines_are))
      (All-tail (Lacks 10) line lines split.lines_are);
  whole = ap (λ bs. byte ∷ bs) split.whole;
}

pub IsSplit-whole_lines : (bytes : List ℕ) → IsSplit bytes (whole_lines bytes)
IsSplit-whole_lines [] = record { piece = []; no_end = All-nil (λ b. b ≢ 10); lines_are = All-nil (Lacks 10); whole = refl }
IsSplit-whole_lines (byte ∷ bytes) =
    elim (eqb_tells byte 10) [
      | inl is ↦ subst (IsSplit (byte ∷ bytes)) (sym (at_end bytes byte is.0)) (IsSplit-end byte bytes (whole_lines bytes) is.1 (IsSplit-whole_lines bytes))
      | inr not ↦ subst (IsSplit (byte ∷ bytes)) (sym (within_line bytes byte not.0)) (IsSplit-byte byte bytes (whole_lines bytes) not.1 (IsSplit-whole_lines bytes))
    ]

-- ---- how many lines

line_ends-at : (byte : ℕ) (bytes : List ℕ) → eqb byte 10 ≡ true → line_ends (byte ∷ bytes) ≡ 1 + line_ends bytes
line_ends-at byte bytes e = sum_by-cons (λ b. cond (eqb b 10) 1 0) byte bytes ∙ ap (λ t. cond t 1 0 + line_ends bytes) e

line_ends-other : (byte : ℕ) (bytes : List ℕ) → eqb byte 10 ≡ false → line_ends (byte ∷ bytes) ≡ 0 + line_ends bytes
line_ends-other byte bytes e = sum_by-cons (λ b. cond (eqb b 10) 1 0) byte bytes ∙ ap (λ t. cond t 1 0 + line_ends bytes) e

length-prepend : (byte : ℕ) (lines : List (List ℕ)) → length (prepend byte lines) ≡ length lines
length-prepend byte [] = refl
length-prepend byte (line ∷ lines) = refl

pub length-whole_lines : (bytes : List ℕ) → length (whole_lines bytes) ≡ line_ends bytes
length-whole_lines [] = refl
length-whole_lines (byte ∷ bytes) =
    elim (eqb_tells byte 10) [
      | inl is ↦ omega (arith, ap length (at_end bytes byte is.0), line_ends-at byte bytes is.0, length-whole_lines bytes)
      | inr not ↦ omega (arith, ap length (within_line bytes byte not.0), length-prepend byte (whole_lines bytes), line_ends-other byte bytes not.0, length-whole_lines bytes)
    ]

pub line_ends-append : (first second : List ℕ) → line_ends (first ++ second) ≡ line_ends first + line_ends second
line_ends-append first second = sum_by-append (λ b. cond (eqb b 10) 1 0) first second

-- bytes without LF
pub Lacks-none : (bytes : List ℕ) → line_ends bytes ≡ 0 → Lacks 10 bytes
Lacks-none [] none = All-nil (λ b. b ≢ 10)
Lacks-none (byte ∷ bytes) none =
    elim (eqb_tells byte 10) [
      | inl is ↦ absurd (omega (arith, line_ends-at byte bytes is.0))
      | inr not ↦ All-cons (λ b. b ≢ 10) byte bytes not.1 (Lacks-none bytes (omega (arith, line_ends-other byte bytes not.0)))
    ]

-- ---- the lines of a prefix

abbrev Front : List (List ℕ) → List (List ℕ) → Type 0
Front lines all = (more : List (List ℕ)) × (all ≡ lines ++ more)

Front-prepend : (byte : ℕ) (lines all : List (List ℕ)) → Front lines all → Front (prepend byte lines) (prepend byte all)
Front-prepend byte [] all front = (prepend byte all, refl)
Front-prepend byte (line ∷ lines) all front = (front.0, ap (prepend byte) front.1)

-- the lines of a prefix are the first ones
pub whole_lines-prefix : (first second : List ℕ) → Front (whole_lines first) (whole_lines (first ++ second))
whole_lines-prefix [] second = (whole_lines second, refl)
whole_lines-prefix (byte ∷ first) second =
    elim (eqb_tells byte 10) [
      | inl is ↦ let rest = whole_lines-prefix first second in
          (rest.0, at_end (first ++ second) byte is.0 ∙ ap (λ ls. [] ∷ ls) rest.1 ∙ sym (ap (λ ls. ls ++ rest.0) (at_end first byte is.0)))
      | inr not ↦ let rest = Front-prepend byte (whole_lines first) (whole_lines (first ++ second)) (whole_lines-prefix first second) in
          (rest.0, within_line (first ++ second) byte not.0 ∙ rest.1 ∙ sym (ap (λ ls. ls ++ rest.0) (within_line first byte not.0)))
    ]

-- ---- the next line

pub one_line : (bytes line rest after : List ℕ) → bytes ≡ line ++ rest → Lacks 10 line → rest ≡ 10 ∷ after → whole_lines bytes ≡ line ∷ whole_lines after
one_line bytes line rest after whole lacks first =
    ap whole_lines (whole ∙ ap (λ bs. line ++ bs) first) ∙ whole_lines-line line after lacks

nothing_left : (rest : List ℕ) → IsCutAt 10 rest → ((after : List ℕ) → rest ≡ 10 ∷ after → ⊥) → rest ≡ []
nothing_left [] cut none = refl
nothing_left (b ∷ rest) cut none = absurd (none rest (ap (λ c. c ∷ rest) cut))

pub no_line : (bytes line rest : List ℕ) → bytes ≡ line ++ rest → Lacks 10 line → IsCutAt 10 rest → ((after : List ℕ) → rest ≡ 10 ∷ after → ⊥) → whole_lines bytes ≡ []
no_line bytes line rest whole lacks cut none =
    ap whole_lines (whole ∙ ap (λ bs. line ++ bs) (nothing_left rest cut none) ∙ append-nil line) ∙ whole_lines-piece line lacks
