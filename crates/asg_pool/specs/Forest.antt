-- What contracts see of a region: a forest of trails.
use Rattle.std.specs.Prelude.{◌≡◌, ◌≢◌, ℕ, ◌-◌, List, [], ◌∷◌, ◌++◌, length, Option, Some, None, IsSome, IfSome, slice_index_or, unwrap_or, option_map, option_and_then}
use Rattle.asg_proof.specs.Phases.{PhaseOf, phase_of}
use Rattle.asg_proof.specs.PromisedProofs.{IsPhaseOver}

-- a live trail: the trail that it grew on, if any, and its list of phases
pub record Branch (V : Type 0) : Type 0 where
  pub parent : Option ℕ
  pub phases : List (PhaseOf V)

-- a region: its side, for how many trails there is memory, and for each number the trail that has
-- it, if it is live
pub record Forest (V : Type 0) : Type 0 where
  pub side : ℕ
  pub spare : ℕ
  pub trails : List (Option (Branch V))

-- the map of the live trails
abbrev pub trail_at : {V : Type 0} → Forest V → ℕ → Option (Branch V)
trail_at F t = slice_index_or F.trails t None

-- the trail is live
abbrev pub IsLive : {V : Type 0} → Forest V → ℕ → Type 0
IsLive F t = IsSome (trail_at F t)

-- the parent of a live trail, if it has one
abbrev pub parent_of : {V : Type 0} → Forest V → ℕ → Option ℕ
parent_of F t = option_and_then (λ branch. branch.parent) (trail_at F t)

-- the list of a live trail
abbrev pub phases_of : {V : Type 0} → Forest V → ℕ → List (PhaseOf V)
phases_of F t = unwrap_or (option_map (λ branch. branch.phases) (trail_at F t)) []

-- the list up to a trail, if there is one: without one it has no phase
abbrev pub phases_to : {V : Type 0} → Forest V → Option ℕ → List (PhaseOf V)
phases_to F None = []
phases_to F (Some t) = phases_of F t

-- the last phase of a list
abbrev pub last_phase : {V : Type 0} → List (PhaseOf V) → PhaseOf V
last_phase phases = slice_index_or phases (length phases - 1) (phase_of [] [] [])

-- no live trail has this one as its parent
abbrev pub IsLeaf : {V : Type 0} → Forest V → ℕ → Type 0
IsLeaf F t = (other : ℕ) → parent_of F other ≢ Some t

-- the trail of a phase that is pushed on another, or on none
abbrev pub grown_on : {V : Type 0} → Forest V → Option ℕ → PhaseOf V → Branch V
grown_on F parent phase = record { parent = parent; phases = phases_to F parent ++ phase ∷ [] }

-- one trail is this afterwards, or live no more, and each other one is as it was
pub record Changes {V : Type 0} (before after : Forest V) (t : ℕ) (branch : Option (Branch V)) : Type 0 where
  pub changed : trail_at after t ≡ branch
  pub others : (other : ℕ) → other ≢ t → trail_at after other ≡ trail_at before other

-- the trail's list is that of its parent, which is live, and then one phase
pub record IsGrown {V : Type 0} (F : Forest V) (branch : Branch V) : Type 0 where
  pub phase : PhaseOf V
  pub over : IsPhaseOver F.side phase
  pub parent : IfSome branch.parent (IsLive F)
  pub list : branch.phases ≡ phases_to F branch.parent ++ phase ∷ []

-- what a region keeps
abbrev pub IsForest : {V : Type 0} → Forest V → Type 0
IsForest F = (t : ℕ) → IfSome (trail_at F t) (IsGrown F)
