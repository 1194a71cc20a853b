-- Levels in turn: one more after others, and what is left in the end.
use Rattle.std.proofs.Common.{◌≡◌, ℕ, Bool, List, [], ◌∷◌, ◌++◌, Option, Some, refl, ℤ}
use Rattle.asg_model.specs.Problem.{Problem}
use Rattle.asg_proof.specs.declared.levels.Level.{Level}
use Rattle.asg_proof.specs.Levels.{AreProvedFrom, IsProvedLevel, is_after, last_cost, left_after, left_last, left_so_far, without}

pub AreProvedFrom-push : (X : Problem) (before : Option ℤ) (left : ℕ → ℕ → Bool) (levels : List Level) (level : Level) → AreProvedFrom X before left levels → IsProvedLevel X (last_cost before levels) (left_so_far X before left levels) level → AreProvedFrom X before left (levels ++ level ∷ [])
AreProvedFrom-push X before left [] level all one = (one, tt)
AreProvedFrom-push X before left (first ∷ rest) level all one = (all.0, AreProvedFrom-push X (Some first.cost) (left_after X before left first) rest level all.1 one)

pub last_cost-push : (before : Option ℤ) (levels : List Level) (level : Level) → last_cost before (levels ++ level ∷ []) ≡ Some level.cost
last_cost-push before [] level = refl
last_cost-push before (first ∷ rest) level = last_cost-push (Some first.cost) rest level

pub left_so_far-push : (X : Problem) (before : Option ℤ) (left : ℕ → ℕ → Bool) (levels : List Level) (level : Level) → left_so_far X before left (levels ++ level ∷ []) ≡ left_after X (last_cost before levels) (left_so_far X before left levels) level
left_so_far-push X before left [] level = refl
left_so_far-push X before left (first ∷ rest) level = left_so_far-push X (Some first.cost) (left_after X before left first) rest level

-- what is left in the end
pub left_last-is : (X : Problem) (before : Option ℤ) (left : ℕ → ℕ → Bool) (levels : List Level) → left_last X before left levels ≡ without X (is_after (last_cost before levels)) (left_so_far X before left levels)
left_last-is X before left [] = refl
left_last-is X before left (first ∷ rest) = left_last-is X (Some first.cost) (left_after X before left first) rest
