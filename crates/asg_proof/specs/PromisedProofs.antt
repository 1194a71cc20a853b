-- What solvers promise of their proofs: threshold proofs, how many windows, how many phases, how
-- many levels.
use Rattle.std.specs.Prelude.{◌≡◌, ℕ, ◌<◌, ◌≤◌, List, [], ◌∷◌, length, All, sum_by}
use Rattle.asg_proof.specs.declared.outcomes.Outcome.{Outcome}
use Rattle.asg_proof.specs.declared.outcomes.Outcome.TheVariants.{Best, Nothing}
use Rattle.asg_proof.specs.declared.outcomes.Proof.{Proof}
use Rattle.asg_proof.specs.declared.outcomes.Proof.TheVariants.{Below, Levels, Phases, Windows}
use Rattle.asg_proof.specs.declared.levels.Level.{Level}
use Rattle.asg_proof.specs.Phases.{PhaseOf}
use Rattle.asg_order.specs.declared.words.Word.{Word}

-- the proof is a threshold proof
abbrev pub IsThresholdProof : Proof → Type 0
IsThresholdProof (Below rows) = Unit {0}
IsThresholdProof _ = ⊥

-- the outcome's proof, where a choice is best, is a threshold proof
abbrev pub HasThresholdProof : Outcome → Type 0
HasThresholdProof (Best choice proof) = IsThresholdProof proof
HasThresholdProof (Nothing rows) = Unit {0}

-- the proof is a list of at most so many windows
abbrev pub AreFewWindows : ℕ → Proof → Type 0
AreFewWindows most (Windows windows) = length windows ≤ most
AreFewWindows most _ = ⊥

-- a best choice with at most so many windows as its proof; that no choice is valid has none
abbrev pub HasFewWindows : ℕ → Outcome → Type 0
HasFewWindows most (Best choice proof) = AreFewWindows most proof
HasFewWindows most (Nothing rows) = Unit {0}

-- a phase over a side: 1 to side steps, and a step for each row and column
pub record IsPhaseOver {V : Type 0} (side : ℕ) (phase : PhaseOf V) : Type 0 where
  pub some : 0 < length phase.steps
  pub few : length phase.steps ≤ side
  pub enters : length phase.enters ≡ side
  pub leaves : length phase.leaves ≡ side

-- at most so many phases as the side, each of 1 to side steps over the rows and the columns
pub record AreFewPhases {V : Type 0} (side : ℕ) (phases : List (PhaseOf V)) : Type 0 where
  pub few : length phases ≤ side
  pub each : All (IsPhaseOver side) phases

-- the proof is such phases
abbrev pub HasFewPhases : ℕ → Proof → Type 0
HasFewPhases side (Phases words) = AreFewPhases side words
HasFewPhases side _ = ⊥

-- where there is a best choice its proof is such phases
abbrev pub GivesFewPhases : ℕ → Outcome → Type 0
GivesFewPhases side (Best choice proof) = HasFewPhases side proof
GivesFewPhases side (Nothing rows) = Unit {0}

-- a phase of one step by 1, over a side
pub record IsUnitPhase (side : ℕ) (phase : PhaseOf Word) : Type 0 where
  pub step : phase.steps ≡ record { grade = 0; amount = 1 } ∷ []
  pub enters : length phase.enters ≡ side
  pub leaves : length phase.leaves ≡ side

-- a level with as many such phases as it counts cells
pub record IsUnitLevel (side : ℕ) (level : Level) : Type 0 where
  pub count : length level.phases ≡ level.count
  pub each : All (IsUnitPhase side) level.phases

-- levels that count at most so many cells in all, each with such phases
pub record AreFewLevels (side most : ℕ) (levels : List Level) : Type 0 where
  pub few : sum_by (λ level. level.count) levels ≤ most
  pub each : All (IsUnitLevel side) levels

-- the proof is such levels, with a column for each row
abbrev pub HasFewLevels : ℕ → ℕ → Proof → Type 0
HasFewLevels side most (Levels perm levels) = (length perm ≡ side) × AreFewLevels side most levels
HasFewLevels side most _ = ⊥

-- where there is a best choice its proof is such levels
abbrev pub GivesFewLevels : ℕ → ℕ → Outcome → Type 0
GivesFewLevels side most (Best choice proof) = HasFewLevels side most proof
GivesFewLevels side most (Nothing rows) = Unit {0}
