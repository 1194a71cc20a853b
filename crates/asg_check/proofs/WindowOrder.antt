-- Windows that begin in order, and their spans.
use Rattle.asg_check.proofs.Common.{◌≡◌, ℕ, ◌+◌, ◌-◌, ◌<◌, ◌≤◌, List, [], map, length, get_or, ℤ, pos, ◌≤ℤ◌, Some, None, Option, IsPermutation, sym, ◌∙◌, subst, ⊎_elim, arith, cases_lt, get_or-map, length-map, list_any-IsPermutation, AreSpansUp, AreWindowsUp, IsFirstOutside, in_span, in_spans, span_of, Span, Window}
use Rattle.asg_check.proofs.WindowGaps.{int_le_trans}

-- a window of the list, and its span among theirs
pub span_at : (d : ℤ) (windows : List Window) (k : ℕ) (window : Window) (span : Span) → k < length windows → get_or (map (span_of d) windows) k span ≡ span_of d (get_or windows k window)
span_at d windows k window span within = get_or-map (span_of d) windows k window span within

pub span_within : (d : ℤ) (windows : List Window) (k : ℕ) → k < length windows → k < length (map (span_of d) windows)
span_within d windows k within = omega (arith, within, length-map windows (span_of d))

pub spans_past : (d : ℤ) (windows : List Window) (k : ℕ) → length windows ≤ k → length (map (span_of d) windows) ≤ k
spans_past d windows k past = omega (arith, past, length-map windows (span_of d))

-- where windows begin in order, their spans do
pub spans_up_of_windows : (d : ℤ) (windows : List Window) → AreWindowsUp windows → AreSpansUp (map (span_of d) windows)
spans_up_of_windows d windows up i j s less within =
    let some : Window = record { lo = pos 0; hi = pos 0; rows = [] } in
    let inside : j < length windows = omega (arith, within, length-map windows (span_of d)) in
    let early : i < length windows = omega (arith, less, inside) in
    subst (λ t. t.lo ≤ℤ (get_or (map (span_of d) windows) j s).lo) (sym (span_at d windows i some s early))
    (subst (λ t. (get_or windows i some).lo ≤ℤ t.lo) (sym (span_at d windows j some s inside)) (up i j some less inside))

-- one window more begins in order
pub windows_up_more : (windows : List Window) (n : ℕ) → n < length windows → 0 < n
    → ((d : Window) → (get_or windows (n - 1) d).lo ≤ℤ (get_or windows n d).lo)
    → ((i j : ℕ) (d : Window) → i < j → j < n → (get_or windows i d).lo ≤ℤ (get_or windows j d).lo)
    → (i j : ℕ) (d : Window) → i < j → j < n + 1 → (get_or windows i d).lo ≤ℤ (get_or windows j d).lo
windows_up_more windows n within some last before i j d less below =
    ⊎_elim (λ (early : j < n). before i j d less early)
    (λ (late : n ≤ j).
    let same : n ≡ j = omega (arith, late, below) in
    subst (λ k. (get_or windows i d).lo ≤ℤ (get_or windows k d).lo) same
    (⊎_elim (λ (far : i < n - 1). int_le_trans (get_or windows i d).lo (get_or windows (n - 1) d).lo (get_or windows n d).lo (before i (n - 1) d far (omega (arith, some))) (last d))
    (λ (near : n - 1 ≤ i).
    let this : n - 1 ≡ i = omega (arith, near, less, same, some) in
    subst (λ k. (get_or windows k d).lo ≤ℤ (get_or windows n d).lo) this (last d))
    (cases_lt i (n - 1))))
    (cases_lt j n)

-- the first of the costs that no span has is that for the spans in another order
pub IsFirstOutside-permuted : (costs : List ℤ) (spans others : List Span) (found : Option ℤ) → IsPermutation spans others → IsFirstOutside costs others found → IsFirstOutside costs spans found
IsFirstOutside-permuted costs spans others found same outside = by found outside
  where
    alike : (v : ℤ) → in_spans spans v ≡ in_spans others v
    alike v = list_any-IsPermutation (in_span v) spans others same

    by : (found : Option ℤ) → IsFirstOutside costs others found → IsFirstOutside costs spans found
    by None all = λ k d within. alike (get_or costs k d) ∙ all k d within
    by (Some v) (there, out, least) = (there, alike v ∙ out, λ k d within unheld. least k d within (sym (alike (get_or costs k d)) ∙ unheld))
