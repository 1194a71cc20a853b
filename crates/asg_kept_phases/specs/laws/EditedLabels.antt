-- An edit keeps what the columns of the square are copies of.
use Rattle.std.proofs.Common.{◌≡◌, ℕ, ◌+◌, List, [], ◌∷◌, ◌++◌, map, Option, refl, sym, ap, ◌∙◌}
use Rattle.std.specs.Prelude.{replicate, slice_get}
use Rattle.std.specs.List.{enumerate_from, flat_map, range_with_len}
use Rattle.asg_values.specs.laws.EditedShapes.{closed_cap, edited_side}
use Rattle.asg_model.specs.declared.edits.Edit.{Edit}
use Rattle.asg_model.specs.declared.edits.Edit.TheVariants.{Cost as SetCost, Forbid, DropRow, DropColumn}
use Rattle.asg_model.specs.declared.parts.Column.{Column}
use Rattle.asg_model.specs.Edits.{closed, edited}
use Rattle.asg_model.specs.Problem.{Problem}
use Rattle.asg_model.specs.Shapes.{square_side}
use Rattle.asg_square.specs.Grid.{Grid}
use Rattle.asg_square.specs.Labels.{column_label, copies_of}
use Rattle.asg_kept_phases.specs.NamedPlaces.{HasColumnsOf}

copies_same : (id start : ℕ) (columns : List Column) → flat_map copies_of (enumerate_from start (map (closed id) columns)) ≡ flat_map copies_of (enumerate_from start columns)
copies_same id start [] = refl
copies_same id start (x ∷ xs) =
    ap (λ n. replicate n start ++ flat_map copies_of (enumerate_from (start + 1) (map (closed id) xs))) (closed_cap id x)
    ∙ ap (λ rest. replicate x.cap start ++ rest) (copies_same id (start + 1) xs)

pub edited_label : (X : Problem) (edit : Edit) (k : ℕ) → column_label (edited X edit) k ≡ column_label X k
edited_label X (SetCost row col cost) k = refl
edited_label X (Forbid row col) k = refl
edited_label X (DropRow row) k = refl
edited_label X (DropColumn col) k = ap (λ list. slice_get list k) (copies_same col 0 X.columns)

pub HasColumnsOf-edited : {V : Type 0} (X : Problem) (edit : Edit) (Q : Grid V) → HasColumnsOf X Q → HasColumnsOf (edited X edit) Q
HasColumnsOf-edited X edit Q before = record {
  side = before.side ∙ sym (edited_side X edit);
  columns =
      before.columns
      ∙ ap (λ (label : ℕ → Option ℕ). map label (range_with_len 0 (square_side X))) (λ i k. sym (edited_label X edit k) i)
      ∙ ap (λ n. map (column_label (edited X edit)) (range_with_len 0 n)) (sym (edited_side X edit));
}
