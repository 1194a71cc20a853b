-- The rows, the columns and the rule of a square of three rows are those of an instance.
use Rattle.std.proofs.Common.{◌≡◌, ℕ, ◌<◌, List, [], length, sym, subst}
use Rattle.std.proofs.lemmas.List.Elements.{All-nil}
use Rattle.asg_model.specs.declared.parts.Cost.{Cost}
use Rattle.asg_model.specs.declared.parts.Place.{Place}
use Rattle.asg_model.specs.declared.parts.Place.TheVariants.{All as PlaceAll, Exactly}
use Rattle.asg_model.specs.Problem.{Problem, problem_of}
use Rattle.asg_model.specs.Instances.{IsWellFormed, IsCostInRange, IsPlaceInRange, AreCellsOf}

rule_is : (X : Problem) (place : Place) → IsPlaceInRange X place → IsPlaceInRange (problem_of X.rows X.columns [] X.place) place
rule_is X PlaceAll fits = tt
rule_is X (Exactly k) fits = fits

pub parts_are : (X : Problem) → IsWellFormed X → IsWellFormed (problem_of X.rows X.columns [] X.place)
parts_are X is = record {
  some_active = is.some_active;
  few_rows = is.few_rows;
  few_columns = is.few_columns;
  rows_differ = is.rows_differ;
  columns_differ = is.columns_differ;
  capacities = is.capacities;
  cells_within = All-nil (λ cell. (cell.0.0 < length X.rows) × (cell.0.1 < length X.columns));
  costs = All-nil (λ cell. IsCostInRange cell.1);
  place_in_range = rule_is X X.place is.place_in_range;
}

-- cells of three rows and three columns are those of its rows and columns
pub cells_within : (X : Problem) (cells : List ((ℕ × ℕ) × Cost)) → length X.rows ≡ 3 → length X.columns ≡ 3 → AreCellsOf 3 3 cells → AreCellsOf (length X.rows) (length X.columns) cells
cells_within X cells rows columns are =
    subst (λ (m : ℕ). AreCellsOf (length X.rows) m cells) (sym columns)
    (subst (λ (n : ℕ). AreCellsOf n 3 cells) (sym rows) are)
