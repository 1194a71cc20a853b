-- A phase that is being made: a search over the square as the steps so far leave it. The square
-- itself stands as it was when the phase began.
use Rattle.std.specs.Prelude.{◌≡◌, ℕ, ◌<◌, ◌≤◌, List, length, Option, Contains, slice_index}
use Rattle.asg_match.specs.Alternating.{IsReached}
use Rattle.asg_order.specs.Monoid.{Monoid, fold_of}
use Rattle.asg_proof.specs.Phases.{phase_of, square_after, AreAdmittedSteps}
use Rattle.asg_growth.specs.Growing.{IsGrowing}

-- the marks of places that were taken before now, or not yet
pub record AreMarked (marks : List ℕ) (side now never : ℕ) (is_taken : ℕ → Type 0) : Type 0 where
  pub marks_side : length marks ≡ side
  pub taken : (r : ℕ) → is_taken r → slice_index marks r ≤ now
  pub marked : (r : ℕ) → r < side → slice_index marks r ≤ now → is_taken r
  pub later : (r : ℕ) → r < side → now < slice_index marks r → slice_index marks r ≡ never

pub record IsSearching {V : Type 0} (M : Monoid V) (difference : V → V → V) (side never : ℕ)
    (start : ℕ → ℕ → Option V) (index : V) (steps : List V) (enters leaves : List ℕ)
    (matching : List (Option ℕ)) (rows : List ℕ) (parents : ℕ → Option ℕ) : Type 0 where
  pub admitted : AreAdmittedSteps M difference side (phase_of steps enters leaves) start
      (length steps)
  pub growing : IsGrowing M side
      (square_after M difference (phase_of steps enters leaves) start (length steps))
      (M.product index (fold_of M steps)) matching rows parents
  pub room : length steps < never
  pub entered : AreMarked enters side (length steps) never (Contains rows)
  pub left : AreMarked leaves side (length steps) never (IsReached parents)
