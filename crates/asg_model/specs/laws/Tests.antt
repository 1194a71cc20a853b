-- Laws of tests that upper crates cite.
use mathlib.Core.Logic.Dec.{and, of_iff}
use Rattle.std.proofs.Common.{◌≡◌, ℕ, zero, suc, ◌+◌, ◌<◌, ◌≤◌, ⊎_elim, Bool, true, false, not, ◌&&◌, refl, subst, arith}
use Rattle.std.specs.Prelude.{ℤ, ◌<ℤ◌, IsTrue}
use Rattle.std.specs.Ordering.{int_cmp, is_lt}
use Rattle.std.proofs.lemmas.Bool.{false≢true, cases_lt}
use Rattle.std.proofs.lemmas.Int.{ints}
use Rattle.asg_model.specs.Sums.{one}

pub less_is : (x y : ℤ) → x <ℤ y → is_lt (int_cmp x y) ≡ true
less_is x y below = grind (arith, ints)

-- a test of each number below a bound
pub dec_below : (P : ℕ → Type 0) → ((k : ℕ) → Dec (P k)) → (n : ℕ) → Dec ((k : ℕ) → k < n → P k)
dec_below P each zero = yes (λ k less. absurd (omega arith))
dec_below P each (suc n) =
    of_iff (λ both k less. ⊎_elim (λ (before : k < n). both.1 k before) (λ (past : n ≤ k). let last : n ≡ k = omega arith in subst P last both.0) (cases_lt k n), λ all. (all n (omega arith), λ k less. all k (omega arith)))
    (and (each n) (dec_below P each n))

pub both_tests : (a b : Bool) → IsTrue a → IsTrue b → IsTrue (a && b)
both_tests true b h k = k
both_tests false b h k = absurd (false≢true h)

-- a fact that follows from another counts with what is left of it
pub split_one : (counted some : Bool) → (some ≡ true → counted ≡ true) → one counted ≡ one some + one (counted && not some)
split_one true true h = omega arith
split_one true false h = omega arith
split_one false true h = absurd (false≢true (h refl))
split_one false false h = omega arith
