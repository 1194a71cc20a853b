-- A column without an allowed cell: why no perfect assignment exists.
use Rattle.std.proofs.Common.{◌≡◌, ◌≢◌, ℕ, ◌+◌, ◌-◌, ◌<◌, ◌≤◌, ⊎_elim, ◌∙◌, subst, ap, arith, List, length, get_or, map, cond, ltb, Contains}
use Rattle.std.specs.List.{range_with_len}
use Rattle.std.proofs.lemmas.Bool.{cases_lt, lt-ltb, le-ltb}
use Rattle.std.proofs.lemmas.List.{get_or_default}
use Rattle.std.proofs.lemmas.List.FromFn.{length-map-range_with_len, get_or-map-range_with_len}
use Rattle.asg_match.specs.Deficient.{IsDeficient}

-- the numbers in order, but for one
skipping : ℕ → ℕ → ℕ
skipping skip k = cond (ltb k skip) k (k + 1)

-- each number but that one stands at its place
Contains-skipping : (count skip c : ℕ) → skip < count → c < count → c ≢ skip → Contains (map (skipping skip) (range_with_len 0 (count - 1))) c
unfolding skipping
Contains-skipping count skip c within h other =
    ⊎_elim
    (λ (before : c < skip).
    (c, omega (arith, length-map-range_with_len (skipping skip) 0 (count - 1)), get_or-map-range_with_len (skipping skip) 0 (count - 1) c c c (omega arith) (omega arith) ∙ ap (λ b. cond b c (c + 1)) (lt-ltb c skip before)))
    (λ (after : skip ≤ c).
    let later : skip < c = omega (arith, other) in
    let there : (c - 1) + 1 ≡ c = omega arith in
    (c - 1, omega (arith, length-map-range_with_len (skipping skip) 0 (count - 1)), get_or-map-range_with_len (skipping skip) 0 (count - 1) (c - 1) (c - 1) c (omega arith) (omega arith) ∙ ap (λ b. cond b (c - 1) ((c - 1) + 1)) (le-ltb (c - 1) skip (omega arith)) ∙ there))
    (cases_lt c skip)

-- all rows, in order, are deficient where a column has no allowed cell
pub IsDeficient-column : (allows : ℕ → ℕ → Type 0) (side column : ℕ) (rows : List ℕ) → ((r c : ℕ) → allows r c → c < side) → column < side → ((r : ℕ) → allows r column → ⊥) → length rows ≡ side → ((k : ℕ) → k < side → get_or rows k 0 ≡ k) → IsDeficient allows side rows
IsDeficient-column allows side column rows within h none count each = record {
  below = λ k d p. let at = get_or_default rows k d 0 p ∙ each k (omega (arith, count)) in omega (arith, at, count);
  apart = λ i j d p k e.
      let first : i < length rows = omega arith in
      let one = get_or_default rows i d 0 first ∙ each i (omega (arith, count)) in
      let two = get_or_default rows j d 0 k ∙ each j (omega (arith, count)) in
      omega (arith, p, one, two, e);
  few = record {
    columns = map (skipping column) (range_with_len 0 (side - 1));
    fewer = omega (arith, length-map-range_with_len (skipping column) 0 (side - 1), count, h);
    all = λ c of. Contains-skipping side column c h (within of.0 c of.2) (λ same. none of.0 (subst (allows of.0) same of.2));
  };
}
