-- How many rows have no column.
use Rattle.asg_repair.proofs.Common.{◌≡◌, ℕ, zero, suc, ◌+◌, ◌<◌, ◌≤◌, Bool, true, false, cond, List, [], ◌∷◌, length, replicate, is_none, IsSome, Some, None, Option, refl, arith, count_by-le-length, false≢true, sum_by-append, unmatched, IsMatched, sure_columns}

-- at most all rows
pub unmatched-le : (m : List (Option ℕ)) → unmatched m ≤ length m
unmatched-le m = count_by-le-length is_none m

fewer : (o p : Option ℕ) → (IsSome o → IsSome p) → unmatched (p ∷ []) ≤ unmatched (o ∷ [])
fewer None p keeps = count_by-le-length is_none (p ∷ [])
fewer (Some x) None keeps = absurd (false≢true (keeps refl))
fewer (Some x) (Some y) keeps = omega arith

unmatched-both : (o : Option ℕ) (m : List (Option ℕ)) → unmatched (o ∷ m) ≡ unmatched (o ∷ []) + unmatched m
unmatched-both o m = sum_by-append (λ o. cond (is_none o) 1 0) (o ∷ []) m

-- where every row that had a column has one
pub unmatched-kept : (m n : List (Option ℕ)) → length n ≡ length m → ((r : ℕ) → IsMatched m r → IsMatched n r) → unmatched n ≤ unmatched m
unmatched-kept [] [] e keeps = omega arith
unmatched-kept [] (p ∷ n) e keeps = absurd (omega (arith, e))
unmatched-kept (o ∷ m) [] e keeps = omega arith
unmatched-kept (o ∷ m) (p ∷ n) e keeps =
    omega (arith, unmatched-both o m, unmatched-both p n, fewer o p (keeps 0), unmatched-kept m n (omega (arith, e)) (λ r. keeps (suc r)))

unmatched_first : (o : Option ℕ) → IsSome o → unmatched (o ∷ []) ≡ 0
unmatched_first None e = absurd (false≢true e)
unmatched_first (Some k) e = refl

-- where every row has a column
pub unmatched_none : (m : List (Option ℕ)) → ((r : ℕ) → r < length m → IsMatched m r) → unmatched m ≡ 0
unmatched_none [] all = refl
unmatched_none (o ∷ m) all =
    omega (arith, unmatched-both o m, unmatched_first o (all 0 (omega arith)), unmatched_none m (λ r low. all (suc r) (omega (arith, low))))

-- where no row has one
unmatched_all : (n : ℕ) → unmatched (replicate n None) ≡ n
unmatched_all zero = refl
unmatched_all (suc n) = omega (arith, unmatched-both None (replicate n None), unmatched_all n)

-- rows that are sure to keep their columns still have some
pub unmatched_sure : (cut : Bool) (before after : List (Option ℕ)) → length after ≡ length before → (cut ≡ false → unmatched after ≤ unmatched before) → unmatched after ≤ unmatched (sure_columns cut before)
unmatched_sure false before after size fewer = fewer refl
unmatched_sure true before after size fewer = omega (arith, unmatched-le after, size, unmatched_all (length before))
