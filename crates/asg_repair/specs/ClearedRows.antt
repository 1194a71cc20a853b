-- Rows that lose the columns whose cells an edit names.
use Rattle.std.specs.Prelude.{ℕ, List, Option}
use Rattle.asg_match.specs.Matching.{Matches}
use Rattle.asg_square.specs.Grid.{Grid}
use Rattle.asg_kept_phases.specs.declared.named_places.NamedPlaces.{NamedPlaces}
use Rattle.asg_kept_phases.specs.NamedPlaces.{IsNamed, label_at}

-- each row whose cell stands for the places has lost its column, and all others keep theirs
pub record IsClearedOf {V : Type 0} (places : NamedPlaces) (Q : Grid V)
    (before after : List (Option ℕ)) : Type 0 where
  pub only : (r k : ℕ) → Matches after r k → Matches before r k
  pub kept : (r k : ℕ) → Matches before r k → (IsNamed places (label_at Q) r k → ⊥)
      → Matches after r k
  pub cleared : (r k : ℕ) → Matches after r k → IsNamed places (label_at Q) r k → ⊥
