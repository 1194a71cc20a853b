-- The part of a window.
use Rattle.asg_doc_reader.proofs.Common.{◌≡◌, ℕ, ◌≢◌, List, ◌∷◌, ◌++◌, ℤ, pos, SomeIff, IsErrAnd, FitsSigned, Some, None, Ok, Err, codes, All, Option, Result, sym, refl, ap, ◌∙◌, subst, arith, All-append, All-cons, signed_decimal, w128, HasBounds, bound_spelling, window_spelling, window_part, HasWindowText, window_text, Lacks, IsCutAt, IsReadable, Spells, SpellsOrFails, list_spelling, Fault, Refused, NoMemory, cut_unique, tails_same, IsReadable-line, IsLegible, IsLegible-behind, IsLegible-signed, IsLegible-list, IsCutAt-spaced, Window, w64}
use Rattle.asg_proof.specs.Windows.{AreWindows}
use Rattle.asg_grammar.specs.Spellings.{spaced}
use Rattle.asg_doc_reader.proofs.Leaves.{wider, no_space-signed}

-- a number that a word spells, where it has 64 bits
pub bound_gives : (word : List ℕ) (z : ℤ) (result : Option ℤ) → FitsSigned w128 z → word ≡ signed_decimal z → SomeIff result (FitsSigned w64 z) z → Spells bound_spelling word result
bound_gives word z None fits is given = λ y has same.
    let alike : y ≡ z = IsLegible-signed.same y z (wider y has) fits (sym same ∙ is) in
    absurd (given (subst (FitsSigned w64) alike has))
bound_gives word z (Some y) fits is given = (subst (FitsSigned w64) (sym given.1) given.0, is ∙ ap signed_decimal (sym given.1))

-- a text with bounds is cut behind the first, and what follows behind the second
pub lo_cut : (text word rest : List ℕ) (lo hi : ℤ) (rows : List ℕ) → text ≡ word ++ rest → Lacks 32 word → IsCutAt 32 rest
    → HasBounds text lo hi rows → (word ≡ signed_decimal lo) × (rest ≡ 32 ∷ (signed_decimal hi ++ rows))
lo_cut text word rest lo hi rows whole lacks cut has =
    cut_unique 32 word (signed_decimal lo) rest (32 ∷ (signed_decimal hi ++ rows)) lacks (no_space-signed lo has.lo_fits) cut refl (sym whole ∙ has.whole)

pub hi_cut : (rest text word after : List ℕ) (hi : ℤ) (rows : List ℕ) → rest ≡ 32 ∷ text → text ≡ word ++ after → Lacks 32 word → IsCutAt 32 after
    → FitsSigned w64 hi → IsCutAt 32 rows → rest ≡ 32 ∷ (signed_decimal hi ++ rows) → (word ≡ signed_decimal hi) × (after ≡ rows)
hi_cut rest text word after hi rows space whole lacks cut fits rows_cut is =
    let tails : text ≡ signed_decimal hi ++ rows = tails_same 32 32 text (signed_decimal hi ++ rows) (sym space ∙ is) in
    cut_unique 32 word (signed_decimal hi) after rows lacks (no_space-signed hi fits) cut rows_cut (sym whole ∙ tails)

-- the bounds of a window's text
pub window_bounds : (text : List ℕ) (window : Window) → HasWindowText window → text ≡ window_text window → HasBounds text window.lo window.hi (spaced window.rows)
window_bounds text window has is = record { lo_fits = has.lo_fits; hi_fits = has.hi_fits; whole = is; cut = IsCutAt-spaced window.rows }

-- bounds and what follows them are those of one text
pub bounds_same : (text : List ℕ) (x y s t : ℤ) (xs ys : List ℕ) → HasBounds text x s xs → HasBounds text y t ys → (x ≡ y) × (s ≡ t) × (xs ≡ ys)
bounds_same text x y s t xs ys here there =
    let first = lo_cut text (signed_decimal x) (32 ∷ (signed_decimal s ++ xs)) y t ys here.whole (no_space-signed x here.lo_fits) refl there in
    let second = hi_cut (32 ∷ (signed_decimal s ++ xs)) (signed_decimal s ++ xs) (signed_decimal s) xs t ys refl refl (no_space-signed s here.hi_fits) here.cut there.hi_fits there.cut first.1 in (
      IsLegible-signed.same x y (wider x here.lo_fits) (wider y there.lo_fits) first.0,
      IsLegible-signed.same s t (wider s here.hi_fits) (wider t there.hi_fits) second.0,
      second.1,
    )

abbrev window_with : ℤ → ℤ → List ℕ → Window
window_with lo hi rows = record { lo = lo; hi = hi; rows = rows }

window_same : (x y : Window) → HasWindowText x → HasWindowText y → window_text x ≡ window_text y → x ≡ y
window_same x y hx hy e =
    let parts = bounds_same (window_text x) x.lo y.lo x.hi y.hi (spaced x.rows) (spaced y.rows) (window_bounds (window_text x) x hx refl) (window_bounds (window_text x) y hy e) in
    let rows : x.rows ≡ y.rows = IsLegible-list.same x.rows y.rows hx.rows hy.rows parts.2 in
    ap (λ lo. window_with lo x.hi x.rows) parts.0 ∙ ap (λ hi. window_with y.lo hi x.rows) parts.1 ∙ ap (window_with y.lo y.hi) rows

-- where what follows the bounds spells no rows, the text spells no window
no_window : (text : List ℕ) (lo hi : ℤ) (rest : List ℕ) (fault : Fault) → HasBounds text lo hi rest → SpellsOrFails list_spelling rest (Err fault) → SpellsOrFails window_spelling text (Err fault)
no_window text lo hi rest Refused bounds none = λ window has is.
    none window.rows has.rows (bounds_same text lo window.lo hi window.hi rest (spaced window.rows) bounds (window_bounds text window has is)).2
no_window text lo hi rest NoMemory bounds none = tt

pub no_rows : (text : List ℕ) (lo hi : ℤ) (rest : List ℕ) (fault : Fault) (result : Result Window Fault) → IsErrAnd result (λ y. y ≡ fault) → HasBounds text lo hi rest → SpellsOrFails list_spelling rest (Err fault) → SpellsOrFails window_spelling text result
no_rows text lo hi rest fault (Ok window) gives bounds none = absurd gives
no_rows text lo hi rest fault (Err y) gives bounds none =
    no_window text lo hi rest y bounds (subst (λ f. SpellsOrFails list_spelling rest (Err f)) (sym gives) none)

pub window_legible : IsLegible window_spelling
window_legible = record {
  some = record { lo = pos 0; hi = pos 0; rows = IsLegible-list.some };
  has = record { lo_fits = omega arith; hi_fits = omega arith; rows = IsLegible-list.has };
  same = window_same;
  plain = λ x hx. All-append (λ b. b ≢ 10) (signed_decimal x.lo) (32 ∷ (signed_decimal x.hi ++ spaced x.rows))
      (IsLegible-signed.plain x.lo (wider x.lo hx.lo_fits))
      (All-cons (λ b. b ≢ 10) 32 (signed_decimal x.hi ++ spaced x.rows) (λ is. absurd (omega arith))
      (All-append (λ b. b ≢ 10) (signed_decimal x.hi) (spaced x.rows) (IsLegible-signed.plain x.hi (wider x.hi hx.hi_fits)) (IsLegible-list.plain x.rows hx.rows)));
}

pub window_law : IsReadable window_part
window_law = IsReadable-line (IsLegible-behind (codes "window ") refl window_legible)

-- windows that have a text keep what windows keep
pub AreWindows-from_text : (windows : List Window) → All HasWindowText windows → AreWindows windows
AreWindows-from_text windows each = λ k d within.
    record { lo_fits = (each k d within).lo_fits; hi_fits = (each k d within).hi_fits; rows_are_ids = (each k d within).rows.ids }
