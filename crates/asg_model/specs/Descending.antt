use Rattle.std.specs.Prelude.{ℕ, ◌<◌, ℤ, pos, ◌≤ℤ◌, List, [], ◌∷◌, length, slice_index_or, int_lt, if◌then◌else◌}

-- a list with one more number, before the first that is less
abbrev pub with_descending : ℤ → List ℤ → List ℤ
with_descending x [] = x ∷ []
with_descending x (y ∷ ys) = if int_lt y x then x ∷ (y ∷ ys) else y ∷ with_descending x ys

-- the numbers of a list in non-increasing order
abbrev pub descending : List ℤ → List ℤ
descending [] = []
descending (x ∷ xs) = with_descending x (descending xs)

-- no number of a list is above one that stands before it
abbrev pub IsDescending : List ℤ → Type 0
IsDescending xs = (i j : ℕ) → i < j → j < length xs →
    slice_index_or xs j (pos 0) ≤ℤ slice_index_or xs i (pos 0)
