-- The plain square of the amounts of a graded one at a grade, and phases of amounts as phases of
-- that grade.
use Rattle.std.specs.Prelude.{◌≡◌, ℕ, ◌+◌, ◌≤◌, true, [], ◌∷◌, length, ◌<◌, nat_lt, if◌then◌else◌, All, List, Option, Some, None}
use Rattle.asg_proof.specs.Phases.{PhaseOf, worded, phase_of, entered_at, staying_at}
use Rattle.asg_proof.specs.Steps.{count_below}

-- the amount of a graded value at the grade: none where its grade is higher, 0 where it is lower
abbrev pub amount_at : ℕ → ℕ × ℕ → Option ℕ
amount_at g x = if nat_lt g x.0 then None else if nat_lt x.0 g then Some 0 else Some x.1

-- the amount of a graded cell at the grade
abbrev pub cell_amount : ℕ → Option (ℕ × ℕ) → Option ℕ
cell_amount g None = None
cell_amount g (Some x) = amount_at g x

-- the cells of the plain square are the amounts of those of the graded one
abbrev pub AreAmounts : ℕ → (ℕ → ℕ → Option (ℕ × ℕ)) → (ℕ → ℕ → Option ℕ) → Type 0
AreAmounts g square plain = (r k : ℕ) → cell_amount g (square r k) ≡ plain r k

-- the value of an amount at the grade
abbrev pub of_grade : ℕ → ℕ → ℕ × ℕ
of_grade g c = (g, c)

-- the phase of amounts as a phase of the grade
abbrev pub graded_phase : ℕ → PhaseOf ℕ → PhaseOf (ℕ × ℕ)
graded_phase g = worded (of_grade g)

-- each step is above 0
abbrev pub HasPositiveSteps : PhaseOf ℕ → Type 0
HasPositiveSteps phase = All (λ c. 0 < c) phase.steps

-- the phase of one step to the grade
abbrev pub rise_phase : ℕ → List ℕ → List ℕ → PhaseOf (ℕ × ℕ)
rise_phase g enters leaves = phase_of ((g, 0) ∷ []) enters leaves

-- the rows that enter at once and the columns that don't leave at once are one more than the side,
-- and no cell of both is of a lower grade
pub record IsRisePhase (g side : ℕ) (enters leaves : List ℕ) (square : ℕ → ℕ → Option (ℕ × ℕ)) : Type 0 where
  pub rows : length enters ≡ side
  pub columns : length leaves ≡ side
  pub count : count_below (entered_at enters 0) side + count_below (staying_at leaves 0) side ≡ side + 1
  pub none_lower : (r k : ℕ) (x : ℕ × ℕ) → r < side → k < side → entered_at enters 0 r ≡ true → staying_at leaves 0 k ≡ true
      → square r k ≡ Some x → g ≤ x.0
