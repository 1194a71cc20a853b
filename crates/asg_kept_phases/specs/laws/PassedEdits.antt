-- What is known of an edit that isn't refused.
use Rattle.std.proofs.Common.{◌≡◌, ℕ, false, Option, Some, None, refl, sym, arith}
use Rattle.std.specs.Prelude.{All, is_none}
use Rattle.std.proofs.lemmas.Bool.{false≢true}
use Rattle.asg_values.specs.laws.Passed.{none_applies}
use Rattle.asg_model.specs.declared.edits.Edit.{Edit}
use Rattle.asg_model.specs.declared.edits.Edit.TheVariants.{Cost as SetCost, Forbid, DropRow, DropColumn}
use Rattle.asg_model.specs.declared.edits.EditRefusal.TheVariants.{NoSuchRow, NoSuchColumn, NoMemory}
use Rattle.asg_model.specs.declared.objectives.Objective.{Objective}
use Rattle.asg_model.specs.Edits.{applies, refusals, refusal_of}
use Rattle.asg_model.specs.HallSet.{row_place_of, column_place_of}
use Rattle.asg_model.specs.Problem.{Problem}
use Rattle.asg_kept_phases.specs.Edited.{NamesPlaces}

there : (o : Option ℕ) → is_none o ≡ false → (p : ℕ) × (o ≡ Some p)
there None e = absurd (false≢true (sym e))
there (Some p) e = (p, refl)

-- it names a row and a column that are there
pub NamesPlaces-passed : (objective : Objective) (X : Problem) (edit : Edit) → refusal_of objective X edit ≡ None → NamesPlaces X edit
NamesPlaces-passed objective X edit passes = by edit (all 0 NoMemory (omega arith)) (all 1 NoMemory (omega arith))
  where
    all : All (λ refusal. applies objective X edit refusal ≡ false) refusals
    all = none_applies objective X edit passes

    by : (it : Edit) → applies objective X it NoSuchRow ≡ false → applies objective X it NoSuchColumn ≡ false → NamesPlaces X it
    by (SetCost row col cost) a b = (there (row_place_of X row) a, there (column_place_of X col) b)
    by (Forbid row col) a b = (there (row_place_of X row) a, there (column_place_of X col) b)
    by (DropRow row) a b = there (row_place_of X row) a
    by (DropColumn col) a b = there (column_place_of X col) b
