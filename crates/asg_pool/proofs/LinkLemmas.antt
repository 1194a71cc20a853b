-- Tables of records with free places.
use Rattle.asg_pool.proofs.Common.{◌≡◌, ℕ, zero, suc, ◌<◌, ◌≤◌, max, ◌≢◌, List, [], ◌∷◌, ◌++◌, length, get_or, set, IsSome, None, All, Option, sym, refl, ap, ◌∙◌, inl, inr, arith, length-append, length-set, get_or-set_other, get_or-set_same, All-append, All-cons, All-from_get_or, All-nil, AllPairs-cons, all_pairs_push, cases_eq, cases_lt, get_or_past, length-le_from_below, link_at, AreVacant, with_row, Link}

module _ {X : Type 0} where
  -- within the list, a place is written as by `set`
  pub set_is_with_row : (xs : List X) (k : ℕ) (x : X) → k < length xs → set xs k x ≡ with_row xs k x
  set_is_with_row [] k x below = absurd (omega arith)
  set_is_with_row (y ∷ ys) zero x below = refl
  set_is_with_row (y ∷ ys) (suc k) x below = ap (λ zs. y ∷ zs) (set_is_with_row ys k x (omega arith))

  -- what stands at the place that was written, and elsewhere
  pub with_row-same : (xs : List X) (k : ℕ) (x d : X) → k ≤ length xs → get_or (with_row xs k x) k d ≡ x
  with_row-same [] zero x d within = refl
  with_row-same [] (suc k) x d within = absurd (omega arith)
  with_row-same (y ∷ ys) zero x d within = refl
  with_row-same (y ∷ ys) (suc k) x d within = with_row-same ys k x d (omega arith)

  pub with_row-other : (xs : List X) (k j : ℕ) (x d : X) → k ≤ length xs → j ≢ k → get_or (with_row xs k x) j d ≡ get_or xs j d
  with_row-other [] zero zero x d within differs = absurd (differs refl)
  with_row-other [] zero (suc j) x d within differs = refl
  with_row-other [] (suc k) j x d within differs = absurd (omega arith)
  with_row-other (y ∷ ys) zero zero x d within differs = absurd (differs refl)
  with_row-other (y ∷ ys) zero (suc j) x d within differs = refl
  with_row-other (y ∷ ys) (suc k) zero x d within differs = refl
  with_row-other (y ∷ ys) (suc k) (suc j) x d within differs = with_row-other ys k j x d (omega arith) (λ e. differs (ap suc e))

  -- the list grows where the place is next after its last one
  pub length-with_row : (xs : List X) (k : ℕ) (x : X) → k ≤ length xs → length (with_row xs k x) ≡ max (length xs) (suc k)
  length-with_row [] zero x within = refl
  length-with_row [] (suc k) x within = absurd (omega arith)
  length-with_row (y ∷ ys) zero x within = omega arith
  length-with_row (y ∷ ys) (suc k) x within = omega (arith, length-with_row ys k x (omega arith))

-- a record stands within the table
pub link_within : (slots : List (Option Link)) (k : ℕ) → IsSome (link_at slots k) → k < length slots
link_within slots k there =
    elim (cases_lt k (length slots)) [
      | inl below ↦ below
      | inr past ↦ absurd (let none = get_or_past slots k None past in cc)
    ]

-- a record isn't free
taken_not_free : (slots : List (Option Link)) (k j : ℕ) → IsSome (link_at slots k) → link_at slots j ≡ None → k ≢ j
taken_not_free slots k j there free same = absurd (let none = ap (link_at slots) same ∙ free in cc)

module _ (slots : List (Option Link)) (vacant : List ℕ) (k : ℕ) (there : IsSome (link_at slots k)) (were : AreVacant slots vacant) where
  differs : All (λ j. k ≢ j) vacant
  differs = All-from_get_or (λ j. k ≢ j) vacant 0 (λ i h. taken_not_free slots k (get_or vacant i 0) there (were.free i 0 h))

  -- where there is a record, not all places are free
  pub vacant_fewer : length vacant < length slots
  vacant_fewer =
      let all = length-le_from_below (k ∷ vacant) (length slots) (AllPairs-cons ◌≢◌ k vacant differs were.apart) (All-cons (λ j. j < length slots) k vacant (link_within slots k there) were.below) in
      omega (arith, all)

  freed : (j : ℕ) → link_at slots j ≡ None → link_at (set slots k None) j ≡ None
  freed j free =
      elim (cases_eq j k) [
        | inl same ↦ ap (link_at (set slots k None)) same ∙ get_or-set_same slots k None None (link_within slots k there)
        | inr other ↦ get_or-set_other slots k j None None other ∙ free
      ]

  -- a place that is freed is free beside the others
  pub AreVacant-freed : AreVacant (set slots k None) (vacant ++ k ∷ [])
  AreVacant-freed =
      let long = length-set slots k None in
      record {
        below = All-append (λ j. j < length (set slots k None)) vacant (k ∷ []) (λ i d h. omega (arith, long, were.below i d h)) (All-cons (λ j. j < length (set slots k None)) k [] (omega (arith, long, link_within slots k there)) (All-nil (λ j. j < length (set slots k None))));
        free =
            All-append (λ j. link_at (set slots k None) j ≡ None) vacant (k ∷ []) (λ i d h. freed (get_or vacant i d) (were.free i d h))
            (All-cons (λ j. link_at (set slots k None) j ≡ None) k [] (get_or-set_same slots k None None (link_within slots k there)) (All-nil (λ j. link_at (set slots k None) j ≡ None)));
        apart = all_pairs_push ◌≢◌ vacant k were.apart (λ i d h e. differs i d h (sym e));
        few = omega (arith, long, vacant_fewer, length-append vacant (k ∷ []));
      }
