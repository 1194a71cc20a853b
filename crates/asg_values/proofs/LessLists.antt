-- The order of lists that std compares by is the order at their first difference.
use Rattle.asg_values.proofs.Common.{◌≡◌, ◌⊎◌, List, [], ◌∷◌, ℤ, ◌<ℤ◌, Decides, int_cmp, is_lt, Ordering, Less, Equal, Greater, refl, inl, inr, arith, MatchOrdering, false≢true, int_ranks, ints, ordering_then, slice_cmp, IsLessList}

not_less_above : (x y : ℤ) (L : Type 0) → y <ℤ x → (x <ℤ y) ⊎ ((x ≡ y) × L) → ⊥
not_less_above x y L above (inl below) = omega (arith, ints)
not_less_above x y L above (inr (same, rest)) = omega (arith, ints)

rest_of : (x y : ℤ) (L : Type 0) → x ≡ y → (x <ℤ y) ⊎ ((x ≡ y) × L) → L
rest_of x y L same (inl below) = absurd (omega (arith, ints))
rest_of x y L same (inr (_, rest)) = rest

first_difference : (x y : ℤ) (o rest : Ordering) (L : Type 0) → MatchOrdering o (x <ℤ y) (x ≡ y) (y <ℤ x) → Decides (is_lt rest) L → Decides (is_lt (ordering_then o rest)) ((x <ℤ y) ⊎ ((x ≡ y) × L))
first_difference x y Less rest L below d = (λ _. inl below, λ _. refl)
first_difference x y Equal rest L same d = (λ e. inr (same, d.0 e), λ h. d.1 (rest_of x y L same h))
first_difference x y Greater rest L above d = (λ e. absurd (false≢true e), λ h. absurd (not_less_above x y L above h))

pub Decides-less : (xs ys : List ℤ) → Decides (is_lt (slice_cmp int_cmp xs ys)) (IsLessList xs ys)
Decides-less [] [] = (λ e. absurd (false≢true e), λ h. absurd h)
Decides-less [] (y ∷ ys) = (λ _. tt, λ _. refl)
Decides-less (x ∷ xs) [] = (λ e. absurd (false≢true e), λ h. absurd h)
Decides-less (x ∷ xs) (y ∷ ys) =
    first_difference x y (int_cmp x y) (slice_cmp int_cmp xs ys) (IsLessList xs ys) (int_ranks x y) (Decides-less xs ys)
