-- An edit through which all phases are kept that led to a square.
use Rattle.std.proofs.Common.{◌≡◌, ℕ, ◌<◌, false, List, Option, Some, None, refl, sym, ◌∙◌, ap, subst, arith}
use Rattle.std.specs.Prelude.{IfSome, map, ◌==◌}
use Rattle.std.specs.List.{range_with_len}
use Rattle.std.specs.Option.{option_and_then}
use Rattle.std.proofs.lemmas.List.Quantifiers.{position-Some}
use Rattle.std.proofs.lemmas.Option.{none-some}
use Rattle.asg_admit.specs.KeptCells.{cell_after_phases}
use Rattle.asg_admit.specs.declared.reduced.Reduced.{Reduced}
use Rattle.asg_admit.specs.laws.KeptPhases.{after_phases-cell}
use Rattle.asg_model.specs.declared.edits.Edit.{Edit}
use Rattle.asg_model.specs.declared.edits.Edit.TheVariants.{Cost as SetCost, Forbid, DropRow, DropColumn}
use Rattle.asg_model.specs.declared.parts.Cost.{Cost}
use Rattle.asg_model.specs.declared.parts.Row.{Row}
use Rattle.asg_model.specs.Edits.{edited, named_row}
use Rattle.asg_model.specs.HallSet.{row_place_of}
use Rattle.asg_model.specs.Instances.{IsInstance}
use Rattle.asg_model.specs.Problem.{Problem}
use Rattle.asg_model.specs.Shapes.{square_side}
use Rattle.asg_order.specs.Monoid.{Monoid}
use Rattle.asg_proof.specs.Phases.{PhaseOf, AreAdmittedPhases, after_phases}
use Rattle.asg_square.specs.Cells.{square_cell}
use Rattle.asg_square.specs.Grid.{Grid, HasLabelsOf}
use Rattle.asg_square.specs.Labels.{column_label, row_label}
use Rattle.asg_square.specs.laws.Rows.{rows_within}
use Rattle.asg_kept_phases.specs.declared.named_places.NamedPlaces.{NamedPlaces}
use Rattle.asg_kept_phases.specs.Edited.{NamesPlaces}
use Rattle.asg_kept_phases.specs.Mended.{IsLedBut}
use Rattle.asg_kept_phases.specs.NamedPlaces.{places_of, IsAtColumn, IsAtRow}
use Rattle.asg_kept_phases.specs.Led.{IsLed}
use Rattle.asg_values.specs.laws.EditedShapes.{edited_rows, edited_side}
use Rattle.asg_kept_phases.specs.laws.EditedLabels.{HasColumnsOf-edited, edited_label}
use Rattle.asg_kept_phases.specs.laws.NamedCells.{named_touched, untouched_same}

-- an edit that names a column leaves which rows are counted
edited_counted : (X : Problem) (edit : Edit) (q : ℕ) → (places_of X edit).column ≡ Some q → (r : ℕ) → row_label (edited X edit) r ≡ row_label X r
edited_counted X (SetCost row col cost) q at r = refl
edited_counted X (Forbid row col) q at r = refl
edited_counted X (DropRow row) q at r = absurd (none-some q at)
edited_counted X (DropColumn col) q at r = refl

HasLabelsOf-edited : {V : Type 0} (X : Problem) (edit : Edit) (q : ℕ) → (places_of X edit).column ≡ Some q → (Q : Grid V) → HasLabelsOf X Q → HasLabelsOf (edited X edit) Q
HasLabelsOf-edited X edit q at Q before =
    let columns = HasColumnsOf-edited X edit Q (record { side = before.side; columns = before.column_labels }) in
    record {
      side = columns.side;
      rows = before.rows ∙ sym (edited_rows X edit);
      row_labels =
          before.row_labels
          ∙ ap (λ (label : ℕ → Option ℕ). map label (range_with_len 0 (square_side X))) (λ i r. sym (edited_counted X edit q at r) i)
          ∙ ap (λ n. map (row_label (edited X edit)) (range_with_len 0 n)) (sym (edited_side X edit));
      column_labels = columns.columns;
    }

-- the row that an edit names is one of the square
pub row_of_square : (X : Problem) → IsInstance X → (id : Option ℕ) → IfSome (option_and_then (row_place_of X) id) (λ r. r < square_side X)
row_of_square X is None = tt
row_of_square X is (Some id) = by (row_place_of X id) refl
  where
    by : (o : Option ℕ) → row_place_of X id ≡ o → IfSome o (λ r. r < square_side X)
    by None e = tt
    by (Some r) e =
        let found = position-Some (λ (x : Row). x.id == id) X.rows r (record { id = 0; active = false }) e in
        let within = rows_within X is.well_formed.place_in_range in
        let below = found.0 in
        omega (arith, below, within)

pub IsLedBut-edited : {V : Type 0} (M : Monoid V) (difference : V → V → V) (enter : Cost → V) (X : Problem) (is : IsInstance X) (edit : Edit) (names : NamesPlaces X edit) (places : NamedPlaces) (places_are : places ≡ places_of X edit) (phases : List (PhaseOf V)) (reduced : Reduced V) → IsLed M difference enter X phases reduced → AreAdmittedPhases M difference (square_side (edited X edit)) phases (square_cell (edited X edit) M.unit enter) → (q : ℕ) → places.column ≡ Some q → IsLedBut M difference enter (edited X edit) phases places.row q reduced
IsLedBut-edited M difference enter X is edit names places places_are phases reduced led admitted q at =
    let Y = edited X edit in
    let column : (places_of X edit).column ≡ Some q = (λ i. (sym places_are i).column) ∙ at in
    record {
      row_below =
          subst (λ (o : Option ℕ). IfSome o (λ r. r < square_side Y)) (λ i. (sym places_are i).row)
          (subst (λ n. IfSome (places_of X edit).row (λ r. r < n)) (sym (edited_side X edit)) (row_of_square X is (named_row edit)));
      labels = HasLabelsOf-edited X edit q column reduced.now led.labels;
      admitted = admitted;
      others = λ r k hr hk other.
          led.cells r k
          ∙ after_phases-cell M difference phases (square_cell X M.unit enter) r k
          ∙ ap (cell_after_phases M difference phases r k)
          (sym
          (untouched_same M.unit enter X edit r k is names
          (λ touched.
          let named = named_touched X (column_label X) r k refl edit names touched in
          other (
            subst (λ (o : Option ℕ). IsAtRow o r) (λ i. (sym places_are i).row) named.0,
            edited_label X edit k ∙ subst (λ (o : Option ℕ). IsAtColumn o (column_label X k)) column named.1,
          ))))
          ∙ sym (after_phases-cell M difference phases (square_cell Y M.unit enter) r k);
      index = led.index;
    }
