-- A matching in which rows lose the columns whose cells are named.
use Rattle.asg_repair.proofs.Common.{◌≡◌, ℕ, ◌+◌, ◌<◌, List, length, Option, refl, ◌∙◌, subst, ⊎_elim, arith, cases_lt, Matches}

-- the rows below a place lost the columns whose cells are named, and all else stays
pub record IsCleared (is_named : ℕ → ℕ → Type 0) (before after : List (Option ℕ)) (rows : ℕ) : Type 0 where
  pub size : length after ≡ length before
  pub only : (r k : ℕ) → Matches after r k → Matches before r k
  pub kept : (r k : ℕ) → Matches before r k → (is_named r k → ⊥) → Matches after r k
  pub cleared : (r k : ℕ) → r < rows → Matches after r k → is_named r k → ⊥

pub IsCleared-none : (is_named : ℕ → ℕ → Type 0) (before : List (Option ℕ)) → IsCleared is_named before before 0
IsCleared-none is_named before = record {
  size = refl;
  only = λ r k h. h;
  kept = λ r k h other. h;
  cleared = λ r k low h named. omega (arith, low);
}

-- one row more
pub IsCleared-more : (is_named : ℕ → ℕ → Type 0) (before middle after : List (Option ℕ)) (row : ℕ) → IsCleared is_named before middle row → length after ≡ length middle → ((r k : ℕ) → Matches after r k → Matches middle r k) → ((r k : ℕ) → Matches middle r k → (is_named r k → ⊥) → Matches after r k) → ((k : ℕ) → Matches after row k → is_named row k → ⊥) → IsCleared is_named before after (row + 1)
IsCleared-more is_named before middle after row so_far size only kept cleared = record {
  size = size ∙ so_far.size;
  only = λ r k h. so_far.only r k (only r k h);
  kept = λ r k h other. kept r k (so_far.kept r k h other) other;
  cleared = λ r k low h named.
      ⊎_elim
      (λ (less : r < row). so_far.cleared r k less (only r k h) named)
      (λ more.
      let same : r ≡ row = omega (arith, low, more) in
      cleared k (subst (λ s. Matches after s k) same h) (subst (λ s. is_named s k) same named))
      (cases_lt r row);
}
