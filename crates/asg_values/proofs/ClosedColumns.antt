-- The column that an edit closes was open, and isn't then.
use Rattle.std.proofs.Common.{◌≡◌, ℕ, ◌==◌, Bool, true, false, List, get_or, map, Option, Some, None, refl, sym, ap, ◌∙◌, arith}
use Rattle.std.specs.Prelude.{not, position, slice_get}
use Rattle.std.specs.Option.{option_map, option_map_or}
use Rattle.std.proofs.lemmas.Bool.{cond-true, false≢true}
use Rattle.std.proofs.lemmas.List.Quantifiers.{position-Some}
use Rattle.std.proofs.lemmas.Option.{slice_get-get_or, slice_get-map}
use Rattle.asg_model.specs.declared.edits.Edit.TheVariants.{DropColumn}
use Rattle.asg_model.specs.declared.edits.EditRefusal.TheVariants.{NoMemory}
use Rattle.asg_model.specs.declared.objectives.Objective.{Objective}
use Rattle.asg_model.specs.declared.parts.Column.{Column}
use Rattle.asg_model.specs.Edits.{closed, edited, refusal_of}
use Rattle.asg_model.specs.HallSet.{column_place_of}
use Rattle.asg_model.specs.Live.{is_open}
use Rattle.asg_model.specs.Problem.{Problem}
use Rattle.asg_model.specs.laws.Rows.{no_column}
use Rattle.asg_values.specs.laws.Passed.{none_applies}

closed_at : (columns : List Column) (col q : ℕ) → position (λ column. column.id == col) columns ≡ Some q → option_map_or (λ (column : Column). column.usable) (slice_get (map (closed col) columns) q) false ≡ false
closed_at columns col q found =
    let at = position-Some (λ (column : Column). column.id == col) columns q no_column found in
    ap (λ o. option_map_or (λ (column : Column). column.usable) o false) (slice_get-map (closed col) columns q ∙ ap (option_map (closed col)) (slice_get-get_or columns q no_column at.0))
    ∙ ap (λ (c : Column). c.usable) (cond-true ((get_or columns q no_column).id == col) (record (get_or columns q no_column) { usable = false }) (get_or columns q no_column) at.1)

opened_by : (X : Problem) (o : Option ℕ) → not (option_map_or (is_open X) o false) ≡ false → (q : ℕ) × (o ≡ Some q) × (is_open X q ≡ true)
opened_by X None usable = cc
opened_by X (Some q) usable = (q, refl, on (is_open X q) usable)
  where
    on : (b : Bool) → not b ≡ false → b ≡ true
    on true e = refl
    on false e = cc

pub columns_closed : (objective : Objective) (X : Problem) (col : ℕ) → refusal_of objective X (DropColumn col) ≡ None → (edited X (DropColumn col)).columns ≡ X.columns → ⊥
columns_closed objective X col passes same =
    let (q, found, usable) = opened_by X (column_place_of X col) (none_applies objective X (DropColumn col) passes 3 NoMemory (omega arith)) in
    false≢true (sym (closed_at X.columns col q found) ∙ ap (λ columns. option_map_or (λ (column : Column). column.usable) (slice_get columns q) false) same ∙ usable)
