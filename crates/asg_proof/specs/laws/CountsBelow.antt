-- How many numbers below another pass a test.
use Rattle.std.proofs.Common.{◌≡◌, ◌≢◌, ◌↔◌, ℕ, ◌+◌, ◌<◌, Bool, true, false, cond, not, List, [], ◌∷◌, length, get_or, refl, sym, ◌∙◌, ap, subst, arith, eqb}
use Rattle.std.specs.Prelude.{AllPairs, Contains, filter}
use Rattle.std.specs.List.{range_with_len, sum_by}
use Rattle.std.specs.Set.{is_member}
use Rattle.std.proofs.lemmas.Bool.{eqb-true, and_parts, and_from}
use Rattle.std.proofs.lemmas.Bool.Decides.{Decides-eqb}
use Rattle.std.proofs.lemmas.Cmp.{nat_eq_equiv}
use Rattle.std.proofs.lemmas.List.Elements.{Contains-get_or}
use Rattle.std.proofs.lemmas.List.Kept.{AllPairs-filter}
use Rattle.std.proofs.lemmas.List.Filters.{length-filter_both}
use Rattle.std.proofs.lemmas.List.FromFn.{get_or-range_with_len, length-range_with_len}
use Rattle.std.proofs.lemmas.List.Sums.{sum_by-append, sum_by-cons, length-filter}
use Rattle.std.proofs.lemmas.Map.Made.{is_member-Decides, is_member-filter}
use Rattle.asg_model.specs.laws.Counting.{length-le_contains}
use Rattle.asg_model.specs.laws.Listing.{range_with_len_more, Contains-range}
use Rattle.asg_proof.specs.Steps.{count_below}

-- one number more is counted where it passes
pub count_below-more : (p : ℕ → Bool) (n : ℕ) → count_below p (n + 1) ≡ count_below p n + cond (p n) 1 0
count_below-more p n =
    let f = λ (x : ℕ). cond (p x) 1 0 in
    let last : sum_by f (n ∷ []) ≡ f n + 0 = sum_by-cons f n [] in
    ap (sum_by f) (range_with_len_more n)
    ∙ sum_by-append f (range_with_len 0 n) (n ∷ [])
    ∙ ap (λ m. sum_by f (range_with_len 0 n) + m) (last ∙ (let e : f n + 0 ≡ f n = omega arith in e))

pub count_below-yes : (p : ℕ → Bool) (n count : ℕ) → count ≡ count_below p n → p n ≡ true → count + 1 ≡ count_below p (n + 1)
count_below-yes p n count h e = ap (λ m. m + 1) h ∙ ap (λ b. count_below p n + cond b 1 0) (sym e) ∙ sym (count_below-more p n)

pub count_below-no : (p : ℕ → Bool) (n count : ℕ) → count ≡ count_below p n → p n ≡ false → count ≡ count_below p (n + 1)
count_below-no p n count h e =
    h ∙ (let same : count_below p n ≡ count_below p n + 0 = omega arith in same) ∙ ap (λ b. count_below p n + cond b 1 0) (sym e) ∙ sym (count_below-more p n)

-- those that pass and those that don't are all
pub count_below-not : (p : ℕ → Bool) (n : ℕ) → count_below p n + count_below (λ k. not (p k)) n ≡ n
count_below-not p n =
    let range = range_with_len 0 n in
    omega (arith, length-filter p range, length-filter (λ k. not (p k)) range, length-filter_both p (λ k. not (p k)) (λ _. refl) range, length-range_with_len 0 n)

-- the numbers of a list that pass
Contains-filter : (p : ℕ → Bool) (xs : List ℕ) (q : ℕ) → Contains (filter p xs) q ↔ (Contains xs q × (p q ≡ true))
Contains-filter p xs q =
    let splits = is_member-filter nat_eq_equiv p q (λ x h. ap p (eqb-true q x h)) xs in (
      λ has.
          let parts = and_parts (is_member eqb xs q) (p q) (sym splits ∙ (is_member-Decides Decides-eqb (filter p xs) q).1 has) in
          ((is_member-Decides Decides-eqb xs q).0 parts.0, parts.1),
      λ w. (is_member-Decides Decides-eqb (filter p xs) q).0 (splits ∙ and_from (is_member eqb xs q) (p q) ((is_member-Decides Decides-eqb xs q).1 w.0) w.1),
    )

-- the numbers of a range are different, and below its end
AllPairs-range : (n : ℕ) → AllPairs ◌≢◌ (range_with_len 0 n)
AllPairs-range n i j d before within e =
    let h : j < n = subst (λ m. j < m) (length-range_with_len 0 n) within in
    absurd (omega (arith, e, get_or-range_with_len 0 n i d (omega arith), get_or-range_with_len 0 n j d h))

Contains-range-below : (n q : ℕ) → Contains (range_with_len 0 n) q → q < n
Contains-range-below n q has =
    let h : has.0 < n = subst (λ m. has.0 < m) (length-range_with_len 0 n) has.1 in
    omega (arith, has.2, get_or-range_with_len 0 n has.0 q h)

-- where a list has exactly the numbers below n that pass, each once, they are as many as it
pub count_below-list : (p : ℕ → Bool) (n : ℕ) (xs : List ℕ) → AllPairs ◌≢◌ xs → ((q : ℕ) → Contains xs q → (q < n) × (p q ≡ true)) → ((q : ℕ) → q < n → p q ≡ true → Contains xs q) → count_below p n ≡ length xs
count_below-list p n xs apart sound whole =
    let range = range_with_len 0 n in
    let passing = filter p range in
    let most =
    length-le_contains xs passing apart
    (λ k d h.
    let at = sound (get_or xs k d) (Contains-get_or xs k d h) in
    (Contains-filter p range (get_or xs k d)).1 (Contains-range n (get_or xs k d) at.0, at.1)) in
    let least =
    length-le_contains passing xs (AllPairs-filter ◌≢◌ p range (AllPairs-range n))
    (λ k d h.
    let w = (Contains-filter p range (get_or passing k d)).0 (Contains-get_or passing k d h) in
    whole (get_or passing k d) (Contains-range-below n (get_or passing k d) w.0) w.1) in
    omega (arith, most, least, length-filter p range)
