-- What the augmentation of one row does.
use Rattle.std.specs.Prelude.{◌≡◌, ◌∷◌, [], ℕ, ◌≤◌, List, length, Option}
use Rattle.asg_match.specs.Deficient.{IsDeficient}
use Rattle.asg_match.specs.Matching.{column_at, IsMatched}
use Rattle.asg_order.specs.Monoid.{Monoid}
use Rattle.asg_proof.specs.Phases.{PhaseOf}
use Rattle.asg_square.specs.Cells.{IsPresent}
use Rattle.asg_square.specs.Grid.{cell_at}
use Rattle.asg_algebra.specs.declared.phases.Served.{Served}
use Rattle.asg_algebra.specs.declared.phases.Served.TheVariants.{Has, Lacks}
use Rattle.asg_algebra.specs.Solved.{LeadTo, KeepsRows, unmatched}
use Rattle.asg_algebra.specs.Stages.{Stage}

-- the phase, where it has a step
abbrev pub made_of : {V : Type 0} → PhaseOf V → List V → List (PhaseOf V)
made_of phase [] = []
made_of phase (c ∷ steps) = phase ∷ []

-- at most one phase, none where the row had a column, and the row has a column
pub record IsServed {V : Type 0} (M : Monoid V) (difference : V → V → V) (before after : Stage V)
    (trail last : Option ℕ) (root : ℕ) : Type 0 where
  pub phases : List (PhaseOf V)
  pub one : length phases ≤ unmatched (column_at before.matching root ∷ [])
  pub lead : LeadTo M difference phases before.square after.square before.forest after.forest trail
      last
  pub rows : KeepsRows M after.square before.matching after.matching
  pub served : IsMatched after.matching root

-- all is as it was
pub record IsUntouched {V : Type 0} (before after : Stage V)
    (trail last : Option ℕ) : Type 0 where
  pub same_trail : last ≡ trail
  pub same_square : after.square ≡ before.square
  pub same_matching : after.matching ≡ before.matching
  pub same_forest : after.forest ≡ before.forest

-- what the augmentation of a row does: the row has a column; or all is as it was, and the rows are
-- deficient
abbrev pub Serves : {V : Type 0} → Monoid V → (V → V → V) → Stage V → Stage V → Option ℕ → ℕ
    → List ℕ → Served → Type 0
Serves M difference before after trail root _ (Has last) =
    IsServed M difference before after trail last root
Serves M _ before after trail _ rows (Lacks last) =
    IsUntouched before after trail last
    × IsDeficient (IsPresent (cell_at after.square.now)) after.square.now.side rows
