-- The cells that stand for the places of an edit are those that it touches.
use Rattle.std.proofs.Common.{◌≡◌, ℕ, ◌<◌, Option, Some, None, refl, sym, ◌∙◌, ap, subst, arith, get_or}
use Rattle.std.proofs.lemmas.List.FromFn.{get_or-map-range_with_len}
use Rattle.asg_model.specs.declared.edits.Edit.{Edit}
use Rattle.asg_model.specs.declared.edits.Edit.TheVariants.{Cost as SetCost, Forbid, DropRow, DropColumn}
use Rattle.asg_model.specs.declared.parts.Cost.{Cost}
use Rattle.asg_model.specs.Edits.{edited}
use Rattle.asg_model.specs.HallSet.{row_place_of, column_place_of}
use Rattle.asg_model.specs.Instances.{IsInstance}
use Rattle.asg_model.specs.Problem.{Problem}
use Rattle.asg_model.specs.Shapes.{square_side}
use Rattle.asg_square.specs.Cells.{square_cell}
use Rattle.asg_square.specs.Grid.{Grid}
use Rattle.asg_square.specs.Labels.{column_label}
use Rattle.asg_kept_phases.specs.Edited.{Touches, NamesPlaces}
use Rattle.asg_kept_phases.specs.NamedPlaces.{places_of, IsAtRow, IsAtColumn, IsNamed, label_at, HasColumnsOf}
use Rattle.asg_kept_phases.specs.laws.EditedSquares.{untouched_cell, undropped_cell, unclosed_cell}

at_row : (o : Option ℕ) (r p : ℕ) → o ≡ Some p → IsAtRow o r → o ≡ Some r
at_row o r p e at = e ∙ ap Some (sym (subst (λ q. IsAtRow q r) e at))

at_column : (o label : Option ℕ) (q : ℕ) → o ≡ Some q → IsAtColumn o label → label ≡ o
at_column o label q e at = subst (λ p. IsAtColumn p label) e at ∙ sym e

row_at : (o : Option ℕ) (r : ℕ) → o ≡ Some r → IsAtRow o r
row_at o r e = subst (λ q. IsAtRow q r) (sym e) refl

column_at_place : (o label : Option ℕ) (q : ℕ) → o ≡ Some q → label ≡ o → IsAtColumn o label
column_at_place o label q e same = subst (λ p. IsAtColumn p label) (sym e) (same ∙ e)

module _ (X : Problem) (label_of : ℕ → Option ℕ) (r k : ℕ) (label : label_of k ≡ column_label X k) where
  pub touched_named : (edit : Edit) → NamesPlaces X edit → IsNamed (places_of X edit) label_of r k → Touches X edit r k
  touched_named (SetCost row col cost) names named = (
    at_row (row_place_of X row) r names.0.0 names.0.1 named.0,
    sym label ∙ at_column (column_place_of X col) (label_of k) names.1.0 names.1.1 named.1,
  )
  touched_named (Forbid row col) names named = (
    at_row (row_place_of X row) r names.0.0 names.0.1 named.0,
    sym label ∙ at_column (column_place_of X col) (label_of k) names.1.0 names.1.1 named.1,
  )
  touched_named (DropRow row) names named = at_row (row_place_of X row) r names.0 names.1 named.0
  touched_named (DropColumn col) names named =
      sym label ∙ at_column (column_place_of X col) (label_of k) names.0 names.1 named.1

  pub named_touched : (edit : Edit) → NamesPlaces X edit → Touches X edit r k → IsNamed (places_of X edit) label_of r k
  named_touched (SetCost row col cost) names touched = (
    row_at (row_place_of X row) r touched.0,
    column_at_place (column_place_of X col) (label_of k) names.1.0 names.1.1 (label ∙ touched.1),
  )
  named_touched (Forbid row col) names touched = (
    row_at (row_place_of X row) r touched.0,
    column_at_place (column_place_of X col) (label_of k) names.1.0 names.1.1 (label ∙ touched.1),
  )
  named_touched (DropRow row) names touched = (row_at (row_place_of X row) r touched, tt)
  named_touched (DropColumn col) names touched =
      (tt, column_at_place (column_place_of X col) (label_of k) names.0 names.1 (label ∙ touched))

-- the cells that an edit doesn't touch stay
pub untouched_same : {V : Type 0} (free : V) (enter : Cost → V) (X : Problem) (edit : Edit) (r k : ℕ) → IsInstance X → NamesPlaces X edit → (Touches X edit r k → ⊥) → square_cell (edited X edit) free enter r k ≡ square_cell X free enter r k
untouched_same free enter X (SetCost row col cost) r k is names untouched = untouched_cell free enter X row col (Some cost) r k names.0 names.1 untouched
untouched_same free enter X (Forbid row col) r k is names untouched = untouched_cell free enter X row col None r k names.0 names.1 untouched
untouched_same free enter X (DropRow row) r k is names untouched = undropped_cell free enter X is row r k names untouched
untouched_same free enter X (DropColumn col) r k is names untouched = unclosed_cell free enter X is col r k names untouched

-- what a column of a square is a copy of
pub label_of_column : {V : Type 0} (X : Problem) (Q : Grid V) (k : ℕ) → HasColumnsOf X Q → k < square_side X → label_at Q k ≡ column_label X k
label_of_column X Q k columns h =
    ap (λ list. get_or list k None) columns.columns
    ∙ get_or-map-range_with_len (column_label X) 0 (square_side X) k k None h (omega arith)
