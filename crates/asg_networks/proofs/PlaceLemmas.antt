-- The places of ids among others.
use Rattle.asg_networks.proofs.Common.{◌≡◌, ℕ, ◌+◌, ◌<◌, ◌≤◌, ◌≢◌, List, [], length, get_or, take, set, replicate, IfSome, Some, None, Option, AllPairs, sym, ap, ◌∙◌, subst, ⊎_elim, arith, length-take-le, get_or-set_other, get_or-take, get_or-set_same, IfSome_then, cases_eq, cases_lt, get_or-replicate, get_or_past, length-replicate, TellsPlaces}

-- nothing is told
abbrev pub nothing : Option ℕ
nothing = None

none_told : (n id : ℕ) → get_or (replicate n nothing) id None ≡ None
none_told n id =
    ⊎_elim
    (λ (within : id < n). get_or-replicate n id nothing None within)
    (λ (past : n ≤ id). get_or_past (replicate n nothing) id None (omega (arith, length-replicate n nothing)))
    (cases_lt id n)

-- of no ids
pub no_places : (n : ℕ) (places : List (Option ℕ)) → places ≡ replicate n nothing → TellsPlaces places []
no_places n places is = record {
  each = λ k within. absurd (omega arith);
  only = λ id. subst (λ o. IfSome o (λ k. (k < 0) × (0 ≡ id))) (sym (ap (λ places. get_or places id None) is ∙ none_told n id)) tt;
}

-- of one more id
module _ (places : List (Option ℕ)) (ids : List ℕ) (i : ℕ) (differ : AllPairs (λ x y. x ≢ y) ids) (within : i < length ids) (room : get_or ids i 0 < length places) (tells : TellsPlaces places (take i ids)) where
  length-before : length (take i ids) ≡ i
  length-before = length-take-le i ids (omega arith)

  length-after : length (take (i + 1) ids) ≡ i + 1
  length-after = length-take-le (i + 1) ids (omega arith)

  here : get_or (set places (get_or ids i 0) (Some i)) (get_or ids i 0) None ≡ Some i
  here = get_or-set_same places (get_or ids i 0) (Some i) None room

  pub one_more_place : TellsPlaces (set places (get_or ids i 0) (Some i)) (take (i + 1) ids)
  one_more_place = record {
    each = λ k below.
        ap (λ id. get_or (set places (get_or ids i 0) (Some i)) id None) (get_or-take (i + 1) ids k 0 (omega (arith, length-after)))
        ∙ ⊎_elim
        (λ (before : k < i).
        get_or-set_other places (get_or ids i 0) (get_or ids k 0) (Some i) None (differ k i 0 before within)
        ∙ ap (λ id. get_or places id None) (sym (get_or-take i ids k 0 before))
        ∙ tells.each k (omega (arith, length-before)))
        (λ (last : i ≤ k).
        let same : k ≡ i = omega (arith, length-after) in
        ap (λ k. get_or (set places (get_or ids i 0) (Some i)) (get_or ids k 0) None) same ∙ here ∙ ap Some (sym same))
        (cases_lt k i);
    only = λ id.
        ⊎_elim
        (λ (same : get_or ids i 0 ≡ id).
        subst (λ o. IfSome o (λ k. (k < length (take (i + 1) ids)) × (get_or (take (i + 1) ids) k 0 ≡ id)))
        (sym (ap (λ id. get_or (set places (get_or ids i 0) (Some i)) id None) (sym same) ∙ here))
        (omega (arith, length-after), get_or-take (i + 1) ids i 0 (omega arith) ∙ same))
        (λ apart.
        subst (λ o. IfSome o (λ k. (k < length (take (i + 1) ids)) × (get_or (take (i + 1) ids) k 0 ≡ id)))
        (sym (get_or-set_other places (get_or ids i 0) id (Some i) None (λ same. apart (sym same))))
        (IfSome_then (get_or places id None) (tells.only id)
        (λ k h. (omega (arith, length-after, length-before, h.0), get_or-take (i + 1) ids k 0 (omega (arith, length-before, h.0)) ∙ sym (get_or-take i ids k 0 (omega (arith, length-before, h.0))) ∙ h.1))))
        (cases_eq (get_or ids i 0) id);
  }
