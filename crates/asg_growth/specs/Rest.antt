-- What stands between two phases.
use Rattle.std.specs.Prelude.{◌≡◌, ℕ, min, List, length, map, Option}
use Rattle.asg_admit.specs.declared.reduced.Reduced.{Reduced}
use Rattle.asg_match.specs.Matching.{IsMatching, AllAllowed}
use Rattle.asg_order.specs.Monoid.{Monoid, IsValue}
use Rattle.asg_proof.specs.Steps.{HasValues}
use Rattle.asg_square.specs.Grid.{cell_at}
use Rattle.asg_growth.specs.Growing.{IsAbsorbed}

-- marks that are cut to the number of steps
abbrev pub cut : ℕ → List ℕ → List ℕ
cut n marks = map (λ e. min e n) marks

-- a square of values, an index, and a matching in absorbed cells
pub record IsRest {V : Type 0} (M : Monoid V) (side : ℕ) (square : ℕ → ℕ → Option V) (index : V)
    (matching : List (Option ℕ)) : Type 0 where
  pub values : HasValues M side square
  pub index_is_value : IsValue M index
  pub matching_side : length matching ≡ side
  pub columns : IsMatching matching
  pub absorbed : AllAllowed (IsAbsorbed M index square) matching

-- the cells of a reduced square are values, and so is its index; the matching is in absorbed cells
abbrev pub IsRestOf : {V : Type 0} → Monoid V → Reduced V → List (Option ℕ) → Type 0
IsRestOf M reduced matching =
    IsRest M reduced.now.side (cell_at reduced.now) reduced.index matching
