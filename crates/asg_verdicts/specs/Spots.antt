-- Spots: where a reason stands against a document.
use Rattle.std.specs.Prelude.{◌≡◌, ℕ, suc, ◌<◌, ℤ, pos, ◌≤ℤ◌, Option, Some, None}

-- where a reason stands: at a place, or for the whole
pub data Spot : Type 0 where
  At : (place : ℤ) → Spot
  Overall : Spot

-- the place that a verdict names: 0 for the whole
abbrev pub place_of : Spot → ℤ
place_of (At place) = place
place_of Overall = pos 0

-- a spot comes no later than another: lesser places first, the whole last
abbrev pub IsNoLater : Spot → Spot → Type 0
IsNoLater spot Overall = Unit {0}
IsNoLater (At place) (At other) = place ≤ℤ other
IsNoLater Overall (At other) = ⊥

-- what stands for the whole, at no place
abbrev pub ForWhole : Type 0 → Spot → Type 0
ForWhole P Overall = P
ForWhole P (At place) = ⊥

-- what stands at parts of a list, which are numbered from 1: at each of which it holds, by its place
-- from 0 on
abbrev pub AtParts : (ℕ → Type 0) → Spot → Type 0
AtParts Fails (At place) = (n : ℕ) × (place ≡ pos (suc n)) × Fails n
AtParts Fails Overall = ⊥

-- the first place at which it holds, below so many, or none, where it holds at no place
abbrev pub IsFirstPart : (ℕ → Type 0) → ℕ → Option ℕ → Type 0
IsFirstPart Fails count (Some n) = (n < count) × Fails n × ((m : ℕ) → m < n → ¬ Fails m)
IsFirstPart Fails count None = (n : ℕ) → ¬ Fails n
