-- Where the square of an instance has cells.
use Rattle.std.proofs.Common.{ℕ, ◌<◌, ◌≤◌, ◌&&◌, false, ⊎_elim, sym, ◌∙◌, ap}
use Rattle.std.specs.Prelude.{IsTrue, nat_lt}
use Rattle.std.proofs.lemmas.Bool.{cases_lt, false≢true, lt-ltb, le-ltb}
use Rattle.asg_model.specs.declared.bands.Band.{Band}
use Rattle.asg_model.specs.Problem.{Problem}
use Rattle.asg_model.specs.Shapes.{square_side}
use Rattle.asg_square.specs.Labels.{row_label, column_label}
use Rattle.asg_square.specs.Presence.{has_cell}
use Rattle.asg_cell_tables.specs.LabelledCells.{is_labelled_within}

-- a cell of the square lies in it
pub has_cell-within : (X : Problem) (band : Band) (r c : ℕ) → IsTrue (has_cell X band r c) → (r < square_side X) × (c < square_side X)
has_cell-within X band r c has =
    ⊎_elim
    (λ (row : r < square_side X).
    ⊎_elim
    (λ (column : c < square_side X). (row, column))
    (λ (past : square_side X ≤ c). absurd (false≢true (sym (ap (λ b. b && is_labelled_within X band (row_label X r) (column_label X c)) (ap (λ b. nat_lt r (square_side X) && b) (le-ltb c (square_side X) past) ∙ ap (λ b. b && false) (lt-ltb r (square_side X) row))) ∙ has)))
    (cases_lt c (square_side X)))
    (λ (past : square_side X ≤ r). absurd (false≢true (sym (ap (λ b. b && nat_lt c (square_side X) && is_labelled_within X band (row_label X r) (column_label X c)) (le-ltb r (square_side X) past)) ∙ has)))
    (cases_lt r (square_side X))
