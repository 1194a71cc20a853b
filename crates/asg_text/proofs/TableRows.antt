-- Tables row by row.
use Rattle.asg_text.proofs.Common.{◌≡◌, ℕ, zero, suc, ◌+◌, ◌*◌, ◌<◌, List, [], ◌∷◌, ◌++◌, map, length, get_or, All, flat_map, sym, refl, ap, ◌∙◌, arith, length-append, get_or-append-add, All-append, All-nil, get_or-map-range_with_len, get_or_append_left, length-map-range_with_len, map-append, range_with_len}

pub map-flat_map : {A B C : Type 0} (h : B → C) (f : A → List B) (xs : List A) → map h (flat_map f xs) ≡ flat_map (λ x. map h (f x)) xs
map-flat_map h f [] = refl
map-flat_map h f (x ∷ xs) = map-append h (f x) (flat_map f xs) ∙ ap (λ ys. map h (f x) ++ ys) (map-flat_map h f xs)

pub All-flat_map : {A B : Type 0} (P : B → Type 0) (f : A → List B) (xs : List A) → ((x : A) → All P (f x)) → All P (flat_map f xs)
All-flat_map P f [] all = All-nil P
All-flat_map P f (x ∷ xs) all = All-append P (f x) (flat_map f xs) (all x) (All-flat_map P f xs all)

-- what stands in a table of m columns, whose rows count from a on
module _ {A : Type 0} (at : ℕ → ℕ → A) (m : ℕ) where
  abbrev row : ℕ → List A
  row r = map (at r) (range_with_len 0 m)

  pub length-rows : (a n : ℕ) → length (flat_map row (range_with_len a n)) ≡ n * m
  length-rows a zero = omega arith
  length-rows a (suc n) =
      omega (arith, length-append (row a) (flat_map row (range_with_len (a + 1) n)), length-map-range_with_len (at a) 0 m, length-rows (a + 1) n)

  -- row by row
  pub get_or-rows : (a n r c : ℕ) (d : A) → r < n → c < m → get_or (flat_map row (range_with_len a n)) (r * m + c) d ≡ at (a + r) c
  get_or-rows a zero r c d row_within within = absurd (omega arith)
  get_or-rows a (suc n) zero c d row_within within =
      let here : a + 0 ≡ a = omega arith in
      let first : 0 * m + c ≡ c = omega arith in
      ap (λ k. get_or (flat_map row (range_with_len a (suc n))) k d) first
      ∙ get_or_append_left (row a) (flat_map row (range_with_len (a + 1) n)) d c (omega (arith, length-map-range_with_len (at a) 0 m))
      ∙ get_or-map-range_with_len (at a) 0 m c c d within (omega arith) ∙ ap (λ r. at r c) (sym here)
  get_or-rows a (suc n) (suc r) c d row_within within =
      let past : suc r * m + c ≡ length (row a) + (r * m + c) = omega (arith, length-map-range_with_len (at a) 0 m) in
      let next : a + 1 + r ≡ a + suc r = omega arith in
      ap (λ k. get_or (flat_map row (range_with_len a (suc n))) k d) past
      ∙ get_or-append-add (row a) (flat_map row (range_with_len (a + 1) n)) (r * m + c) d
      ∙ get_or-rows (a + 1) n r c d (omega arith) within ∙ ap (λ r. at r c) next
