-- Chains of gaps.
use Rattle.asg_window.proofs.Common.{◌≡◌, ℕ, ◌+◌, ◌<◌, ◌≤◌, List, [], ◌∷◌, ◌++◌, map, length, get_or, sym, ap, ◌∙◌, ⊎_elim, arith, cases_lt, get_or-map, get_or_append_left, get_or_past, get_or_push, length-map, length_push, map_push, low_at, AreChained, Gap}

-- a less spread
pub chained_less : (gaps : List Gap) (low spread less : ℕ) → less ≤ spread → AreChained gaps low spread → AreChained gaps low less
chained_less gaps low spread less h chain = record {
  first = chain.first;
  links = λ k d within. let link = chain.links k d within in omega (arith, link, h);
}

module _ (gaps : List Gap) (gap : Gap) (low next : ℕ) (begins : gap.low ≡ low) where
  lows : List ℕ
  lows = map (λ (g : Gap). g.low) gaps

  -- where the gaps so far, and the new one, begin
  low_kept : (k : ℕ) → k ≤ length gaps → low_at (gaps ++ gap ∷ []) next k ≡ low_at gaps low k
  unfolding lows
  low_kept k upto =
      ap (λ xs. get_or xs k next) (map_push (λ (g : Gap). g.low) gaps gap)
      ∙ ⊎_elim
      (λ (less : k < length gaps).
      get_or_append_left (map (λ (g : Gap). g.low) gaps) (gap.low ∷ []) next k (omega (arith, less, length-map gaps (λ (g : Gap). g.low)))
      ∙ get_or-map (λ (g : Gap). g.low) gaps k gap next less
      ∙ sym (get_or-map (λ (g : Gap). g.low) gaps k gap low less))
      (λ (from : length gaps ≤ k).
      get_or_push (map (λ (g : Gap). g.low) gaps) gap.low next k (omega (arith, upto, from, length-map gaps (λ (g : Gap). g.low)))
      ∙ begins
      ∙ sym (get_or_past (map (λ (g : Gap). g.low) gaps) k low (omega (arith, from, length-map gaps (λ (g : Gap). g.low)))))
      (cases_lt k (length gaps))

  low_last : low_at (gaps ++ gap ∷ []) next (length gaps + 1) ≡ next
  low_last = get_or_past (map (λ (g : Gap). g.low) (gaps ++ gap ∷ [])) (length gaps + 1) next (omega (arith, length-map (gaps ++ gap ∷ []) (λ (g : Gap). g.low), length_push gaps gap))

  -- a gap that begins where the next was to begin, and reaches on
  pub chained_push : (spread : ℕ) → AreChained gaps low spread → next + spread ≤ gap.high + 1 → AreChained (gaps ++ gap ∷ []) next spread
  chained_push spread chain reach = record {
    first = let first = chain.first in let same = low_kept 0 (omega arith) in omega (arith, first, same);
    links = λ k d within.
        let count = length_push gaps gap in
        ⊎_elim
        (λ (less : k < length gaps).
        let link = chain.links k d less in
        let begin = low_kept (k + 1) (omega (arith, less)) in
        let same = ap (λ (g : Gap). g.high) (get_or_append_left gaps (gap ∷ []) d k less) in
        omega (arith, link, begin, same))
        (λ (from : length gaps ≤ k).
        let here : k ≡ length gaps = omega (arith, from, within, count) in
        let begin = ap (λ n. low_at (gaps ++ gap ∷ []) next (n + 1)) here ∙ low_last in
        let same = ap (λ (g : Gap). g.high) (get_or_push gaps gap d k (sym here)) in
        omega (arith, begin, same, reach))
        (cases_lt k (length gaps));
  }

-- the gap at a place holds the numbers that it is chosen for
pub chained_holds : (gaps : List Gap) (low spread place v : ℕ) (d : Gap) → AreChained gaps low spread → place < length gaps → v < low_at gaps low (place + 1) → v + spread ≤ (get_or gaps place d).high
chained_holds gaps low spread place v d chain within below = let link = chain.links place d within in omega (arith, link, below)

-- where no number is left out, some gap begins at 1 or before it
pub chained_some : (gaps : List Gap) (low spread v : ℕ) → AreChained gaps low spread → 1 ≤ v → v < low → 0 < length gaps
chained_some gaps low spread v chain some below =
    ⊎_elim
    (λ (none : length gaps < 1).
    let past = get_or_past (map (λ (g : Gap). g.low) gaps) 0 low (omega (arith, none, length-map gaps (λ (g : Gap). g.low))) in
    let first = chain.first in
    absurd (omega (arith, past, first, some, below)))
    (λ some. omega (arith, some))
    (cases_lt (length gaps) 1)

pub chained_first : (gaps : List Gap) (low spread : ℕ) (d : Gap) → AreChained gaps low spread → 0 < length gaps → (get_or gaps 0 d).low ≤ 1
chained_first gaps low spread d chain some =
    let same = get_or-map (λ (g : Gap). g.low) gaps 0 d low some in
    let first = chain.first in
    omega (arith, same, first)
