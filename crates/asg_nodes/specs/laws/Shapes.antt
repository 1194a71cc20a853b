-- What depends on the rows, the columns and the place rule of an instance alone is the same of its
-- parts.
use Rattle.std.proofs.Common.{◌≡◌, ℕ, List, Option, sym, ap, subst}
use Rattle.asg_model.specs.Problem.{Problem, problem_of}
use Rattle.asg_model.specs.Shapes.{square_side}
use Rattle.asg_rankings.specs.Masks.{keeps_cell}
use Rattle.asg_square.specs.Grid.{Grid, HasLabelsOf}

module _ (X Y : Problem) (rows : Y.rows ≡ X.rows) (columns : Y.columns ≡ X.columns) (place : Y.place ≡ X.place) where
  -- the part in the shape of the instance
  shaped : Y ≡ problem_of X.rows X.columns Y.cells X.place
  shaped i = problem_of (rows i) (columns i) Y.cells (place i)

  pub same_side : square_side Y ≡ square_side X
  same_side = ap square_side shaped

  pub same_keeps : (f : List (Option ℕ)) (branch r k : ℕ) → keeps_cell Y f branch r k ≡ keeps_cell X f branch r k
  same_keeps f branch r k = ap (λ Z. keeps_cell Z f branch r k) shaped

  module _ {V : Type 0} (Q : Grid V) where
    pub labels_of_part : HasLabelsOf X Q → HasLabelsOf Y Q
    labels_of_part labels =
        subst (λ Z. HasLabelsOf Z Q) (sym shaped)
        (record { side = labels.side; rows = labels.rows; row_labels = labels.row_labels; column_labels = labels.column_labels })

    pub labels_from_part : HasLabelsOf Y Q → HasLabelsOf X Q
    labels_from_part labels =
        let there = subst (λ Z. HasLabelsOf Z Q) shaped labels in
        record { side = there.side; rows = there.rows; row_labels = there.row_labels; column_labels = there.column_labels }
