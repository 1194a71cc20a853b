-- An edit keeps how many rows an instance has, and the side of its square.
use Rattle.std.proofs.Common.{◌≡◌, ℕ, ◌+◌, false, List, [], ◌∷◌, length, map, refl, sym, ap, ◌∙◌, ⊎_elim}
use Rattle.std.specs.Prelude.{sum_by, ◌==◌}
use Rattle.std.proofs.lemmas.Bool.{cases_Bool, cond-true, cond-false}
use Rattle.std.proofs.lemmas.List.{length-map}
use Rattle.std.proofs.lemmas.List.Sums.{sum_by-cons}
use Rattle.asg_model.specs.declared.edits.Edit.{Edit}
use Rattle.asg_model.specs.declared.edits.Edit.TheVariants.{Cost as SetCost, Forbid, DropRow, DropColumn}
use Rattle.asg_model.specs.declared.parts.Column.{Column}
use Rattle.asg_model.specs.Counts.{total_capacity}
use Rattle.asg_model.specs.Edits.{closed, dropped, edited}
use Rattle.asg_model.specs.Problem.{Problem}
use Rattle.asg_model.specs.Shapes.{square_side, side_by}

-- a column that is closed keeps its capacity
pub closed_cap : (id : ℕ) (column : Column) → (closed id column).cap ≡ column.cap
closed_cap id column =
    ⊎_elim
    (λ yes. ap (λ (c : Column). c.cap) (cond-true (column.id == id) (record column { usable = false }) column yes))
    (λ no. ap (λ (c : Column). c.cap) (cond-false (column.id == id) (record column { usable = false }) column no))
    (cases_Bool (column.id == id))

total_same : (id : ℕ) (columns : List Column) → sum_by (λ column. column.cap) (map (closed id) columns) ≡ sum_by (λ column. column.cap) columns
total_same id [] = refl
total_same id (x ∷ xs) =
    sum_by-cons (λ (column : Column). column.cap) (closed id x) (map (closed id) xs)
    ∙ (λ i. closed_cap id x i + total_same id xs i)
    ∙ sym (sum_by-cons (λ (column : Column). column.cap) x xs)

pub edited_rows : (X : Problem) (edit : Edit) → length (edited X edit).rows ≡ length X.rows
edited_rows X (SetCost row col cost) = refl
edited_rows X (Forbid row col) = refl
edited_rows X (DropRow row) = length-map X.rows (dropped row)
edited_rows X (DropColumn col) = refl

pub edited_side : (X : Problem) (edit : Edit) → square_side (edited X edit) ≡ square_side X
edited_side X (SetCost row col cost) = refl
edited_side X (Forbid row col) = refl
edited_side X (DropRow row) =
    ap (λ n. side_by X.place n (total_capacity X)) (length-map X.rows (dropped row))
edited_side X (DropColumn col) = ap (side_by X.place (length X.rows)) (total_same col X.columns)
