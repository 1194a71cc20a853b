-- The place of the one row, or the one column, that has an id.
use Rattle.asg_model.proofs.Common.{◌≡◌, ℕ, ◌<◌, ◌≤◌, Bool, true, false, cond, ◌≢◌, ◌⊎◌, List, length, get_or, IfSome, nat_lt, ◌==◌, slice_get, Some, None, Option, AllPairs, position, sym, refl, ap, ◌∙◌, inl, inr, ⊎_elim, arith, Decides-eqb, Decides-ltb, cases_lt, cond-true, false_from_ne_true, false≢true, option_map_or, position-Some, position_or_len, position_or_len_is, slice_get-get_or, slice_get_past}

-- an element that alone has an id stands where its id is found first
pub position-unique : {X : Type 0} (id : X → ℕ) (xs : List X) (k n : ℕ) (d : X) → AllPairs (λ x y. id x ≢ id y) xs → option_map_or (λ x. id x == n) (slice_get xs k) false ≡ true → position (λ x. id x == n) xs ≡ Some k
position-unique {X} id xs k n d differ has =
    ⊎_elim
    (λ (past : length xs ≤ k). absurd (false≢true (sym (ap (λ o. option_map_or (λ x. id x == n) o false) (slice_get_past xs k past)) ∙ has)))
    (λ (within : k < length xs).
    let test : X → Bool = λ x. id x == n in
    let here : test (get_or xs k d) ≡ true = sym (ap (λ o. option_map_or test o false) (slice_get-get_or xs k d within)) ∙ has in
    let at : position_or_len test xs ≡ k =
    position_or_len_is test xs k d (omega (arith, within))
    (λ j before. false_from_ne_true (test (get_or xs j d)) (λ e. differ j k d before within ((Decides-eqb _ n).0 e ∙ sym ((Decides-eqb _ n).0 here))))
    (λ _. here) in
    (λ i. cond (nat_lt (at i) (length xs)) (Some (at i)) None) ∙ cond-true (nat_lt k (length xs)) (Some k) None ((Decides-ltb k (length xs)).1 within))
    (cases_past k (length xs))
  where
    cases_past : (k n : ℕ) → (n ≤ k) ⊎ (k < n)
    cases_past k n = ⊎_elim (λ (h : k < n). inr h) (λ (h : n ≤ k). inl h) (cases_lt k n)

-- a place that is found is there
pub position-there : {X : Type 0} (p : X → Bool) (xs : List X) (d : X) → IfSome (position p xs) (λ k. k < length xs)
position-there p xs d = by_found (position p xs) refl
  where
    by_found : (o : Option ℕ) → position p xs ≡ o → IfSome o (λ k. k < length xs)
    by_found None e = tt
    by_found (Some k) e = (position-Some p xs k d e).0
