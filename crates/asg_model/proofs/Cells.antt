-- A look-up in the map of the cells is the cost that their list has.
use Rattle.asg_model.proofs.Common.{◌≡◌, ℕ, cond, ◌&&◌, List, [], ◌∷◌, ◌==◌, Some, nat_cmp, is_eq, refl, ap, arith, is_at, lookup, nat_tests, ordering_then, cost_at, Cost}

-- two places are tied with a key exactly where both are the same
both_tied : (r c x y : ℕ) → is_eq (ordering_then (nat_cmp r x) (nat_cmp c y)) ≡ ((x == r) && (y == c))
both_tied r c x y = grind (arith, nat_tests)

pub lookup_is-cost_at : (r c : ℕ) (cells : List ((ℕ × ℕ) × Cost)) → lookup (is_at (λ k. ordering_then (nat_cmp r k.0) (nat_cmp c k.1))) cells ≡ cost_at cells r c
lookup_is-cost_at r c [] = refl
lookup_is-cost_at r c (e ∷ es) =
    rw (both_tied r c e.0.0 e.0.1) (ap (λ o. cond ((e.0.0 == r) && (e.0.1 == c)) (Some e.1) o) (lookup_is-cost_at r c es))
