-- The greatest and the least number of a list bound it.
use Rattle.asg_values.proofs.Common.{List, [], ◌∷◌, ℤ, pos, ◌≤ℤ◌, fold, All, All-cons, All-nil, fold-int_max_bounds, fold-int_min_bounds, int_max, int_min, greatest, least}
use Rattle.std.specs.Prelude.{refl}

-- the greatest number is no less than each
pub greatest-bounds : (xs : List ℤ) → All (λ x. x ≤ℤ greatest xs) xs
greatest-bounds [] = All-nil (λ x. x ≤ℤ pos 0)
greatest-bounds (y ∷ ys) =
    let bounds = fold-int_max_bounds y ys (fold int_max y ys) refl in
    All-cons (λ x. x ≤ℤ fold int_max y ys) y ys bounds.0 bounds.1

-- the least number is no greater than each
pub least-bounds : (xs : List ℤ) → All (λ x. least xs ≤ℤ x) xs
least-bounds [] = All-nil (λ x. pos 0 ≤ℤ x)
least-bounds (y ∷ ys) =
    let bounds = fold-int_min_bounds y ys (fold int_min y ys) refl in
    All-cons (λ x. fold int_min y ys ≤ℤ x) y ys bounds.0 bounds.1
