-- What stands against windows: the rows of one aren't a Hall set, or they leave a gap.
use Rattle.std.specs.Prelude.{◌≡◌, ℕ, ℤ, pos, ◌≤ℤ◌, ◌<ℤ◌, false, true, List, Option, Some, None, slice_get}
use Rattle.asg_model.specs.declared.objectives.Value.{Value}
use Rattle.asg_model.specs.declared.objectives.Value.TheVariants.{One}
use Rattle.asg_model.specs.DifferentCosts.{IsLiveCost}
use Rattle.asg_model.specs.Problem.{Problem}
use Rattle.asg_proof.specs.declared.windows.Window.{Window}
use Rattle.asg_proof.specs.Windows.{IsHallWindow, is_held}
use Rattle.asg_verdicts.specs.declared.verdicts.Reason.{Reason}
use Rattle.asg_verdicts.specs.declared.verdicts.Reason.TheVariants.{NotHall, WindowGap}
use Rattle.asg_verdicts.specs.Spots.{Spot, At, AtParts}

-- the window at this place of the list is there, and its rows aren't a Hall set of its band
pub record IsNoHallAt (X : Problem) (windows : List Window) (n : ℕ) : Type 0 where
  pub window : Window
  pub there : slice_get windows n ≡ Some window
  pub fails : IsHallWindow X window → ⊥

-- the spread is above 0, and v is the cost of a live cell such that no window holds the costs from
-- v on
pub record IsGap (X : Problem) (d : ℤ) (windows : List Window) (v : ℤ) : Type 0 where
  pub above : pos 0 <ℤ d
  pub live : IsLiveCost X v
  pub unheld : is_held windows d v ≡ false

-- where windows leave a gap for a value: at each such cost
abbrev pub LeaveGapAt : Problem → Value → List Window → Spot → Type 0
LeaveGapAt X (One d) windows (At place) = IsGap X d windows place
LeaveGapAt X _ windows _ = ⊥

-- what stands against windows for a value
abbrev pub StandsOn : Problem → Value → List Window → Reason → Spot → Type 0
StandsOn X value windows NotHall = AtParts (IsNoHallAt X windows)
StandsOn X value windows WindowGap = LeaveGapAt X value windows
StandsOn X value windows reason = λ spot. ⊥

-- the least gap of windows for a spread above 0, or none
abbrev pub IsLeastGap : Problem → ℤ → List Window → Option ℤ → Type 0
IsLeastGap X d windows None = (v : ℤ) → IsLiveCost X v → is_held windows d v ≡ true
IsLeastGap X d windows (Some v) =
    IsLiveCost X v × (is_held windows d v ≡ false)
    × ((w : ℤ) → IsLiveCost X w → is_held windows d w ≡ false → v ≤ℤ w)
