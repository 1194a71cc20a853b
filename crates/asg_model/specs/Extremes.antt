use Rattle.std.specs.Prelude.{ℤ, pos, List, [], ◌∷◌, fold}
use Rattle.std.specs.Int.{int_max, int_min}

-- the greatest number of a list, 0 of none
abbrev pub greatest : List ℤ → ℤ
greatest [] = pos 0
greatest (x ∷ xs) = fold int_max x xs

-- the least number of a list, 0 of none
abbrev pub least : List ℤ → ℤ
least [] = pos 0
least (x ∷ xs) = fold int_min x xs
