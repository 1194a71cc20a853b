-- The greatest cell so far.
use Rattle.asg_phase_totals.proofs.Common.{◌≡◌, ℕ, ◌+◌, ◌-◌, ◌<◌, ◌≤◌, ◌⊎◌, List, map, length, get_or, take, drop, is_some, slice_index, Some, Option, sym, refl, ap, ◌∙◌, inl, inr, ⊎_elim, arith, length-drop, length-take, cases_lt, get_or_from_slice_get, AreValuesOf, IsGreatest, IsGreaterOf, count_is, part_at}

-- one row more
pub greatest_rows_more : (square : ℕ → ℕ → Option ℕ) (side n g new : ℕ) → IsGreatest n square g → IsGreaterOf 0 side (square n) g new → ((k x : ℕ) → square n k ≡ Some x → k < side) → IsGreatest (n + 1) square new
greatest_rows_more square side n g new so row within = record {
  above = λ r k x below h.
      ⊎_elim
      (λ (early : r < n). let before = so.above r k x early h in omega (arith, before, row.grows))
      (λ (last : n ≤ r).
      let here : r ≡ n = omega (arith, last, below) in
      let now : square n k ≡ Some x = ap (λ i. square i k) (sym here) ∙ h in
      row.above k x (omega arith) (within k x now) now)
      (cases_lt r n);
  reached =
      ⊎_elim
      (λ (same : new ≡ g).
      ⊎_elim (λ (none : g ≡ 0). inl (same ∙ none)) (λ some. inr (some.0, some.1, some.2 ∙ ap Some (sym same))) so.reached)
      (λ some. inr (n, some.0, some.1))
      row.reached;
}

-- no column yet
pub greater_none : (row : ℕ → Option ℕ) (from g : ℕ) → IsGreaterOf from from row g g
greater_none row from g = record {
  above = λ k x low high _. absurd (omega (arith, low, high));
  grows = omega arith;
  reached = inl refl;
}

-- one column
pub greater_one : (row : ℕ → Option ℕ) (n g new : ℕ) → ((x : ℕ) → row n ≡ Some x → x ≤ new) → g ≤ new → (new ≡ g) ⊎ (row n ≡ Some new) → IsGreaterOf n (n + 1) row g new
greater_one row n g new above grows reached = record {
  above = λ k x low high h. let here : k ≡ n = omega (arith, low, high) in above x (ap row (sym here) ∙ h);
  grows = grows;
  reached = ⊎_elim (λ (same : new ≡ g). inl same) (λ takes. inr (n, takes)) reached;
}

-- further columns
pub greater_more : (row : ℕ → Option ℕ) (from mid to other g new : ℕ) → IsGreaterOf from mid row other g → IsGreaterOf mid to row g new → IsGreaterOf from to row other new
greater_more row from mid to other g new so more = record {
  above = λ k x low high h.
      ⊎_elim
      (λ (early : k < mid). let before = so.above k x low early h in omega (arith, before, more.grows))
      (λ (last : mid ≤ k). more.above k x last high h)
      (cases_lt k mid);
  grows = omega (arith, so.grows, more.grows);
  reached =
      ⊎_elim
      (λ (same : new ≡ g).
      ⊎_elim (λ (none : g ≡ other). inl (same ∙ none)) (λ some. inr (some.0, some.1 ∙ ap Some (sym same))) so.reached)
      (λ some. inr (some.0, some.1))
      more.reached;
}

-- none where no value is greater
pub none_greater : {T : Type 0} (number : T → ℕ) (numbers : List T → List ℕ) → ((xs : List T) → numbers xs ≡ map number xs) → (row : ℕ → Option ℕ) (side from to most : ℕ) (values : List T) → AreValuesOf row side (numbers values) → to ≤ side → ((k : ℕ) → k < length (take (to - from) (drop from values)) → slice_index (numbers (take (to - from) (drop from values))) k ≤ most) → IsGreaterOf from to row most most
none_greater number numbers law row side from to most values are within none = record {
  above = λ k x low high h.
      let read : get_or (numbers values) k 0 ≡ x = get_or_from_slice_get (numbers values) k x 0 (are.each k (ap is_some h) ∙ h) in
      let j = k - from in
      let count = count_is law values in
      let least = none j (omega (arith, low, high, within, length-take (to - from) (drop from values), length-drop from values, count, are.count)) in
      let at = part_at law values from (to - from) j (omega (arith, low, high)) in
      let place : from + j ≡ k = omega (arith, low) in
      let same : get_or (numbers values) (from + j) 0 ≡ get_or (numbers values) k 0 = ap (λ i. get_or (numbers values) i 0) place in
      omega (arith, least, at, same, read);
  grows = omega arith;
  reached = inl refl;
}
