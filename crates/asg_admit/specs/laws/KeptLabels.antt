-- What squares that keep their labels have in common.
use Rattle.std.proofs.Common.{refl, ◌∙◌}
use Rattle.asg_model.specs.Problem.{Problem}
use Rattle.asg_square.specs.Grid.{Grid, HasLabelsOf}
use Rattle.asg_admit.specs.Reduced.{KeepsLabels}

pub same_labels : {V : Type 0} (Q : Grid V) → KeepsLabels Q Q
same_labels Q = record { side = refl; rows = refl; row_labels = refl; column_labels = refl }

pub chained_labels : {V : Type 0} (A B C : Grid V) → KeepsLabels A B → KeepsLabels B C → KeepsLabels A C
chained_labels A B C k l = record {
  side = l.side ∙ k.side;
  rows = l.rows ∙ k.rows;
  row_labels = l.row_labels ∙ k.row_labels;
  column_labels = l.column_labels ∙ k.column_labels;
}

-- they keep those of an instance
pub HasLabelsOf-kept : {V : Type 0} (X : Problem) (P Q : Grid V) → KeepsLabels P Q → HasLabelsOf X P → HasLabelsOf X Q
HasLabelsOf-kept X P Q kept labels = record {
  side = kept.side ∙ labels.side;
  rows = kept.rows ∙ labels.rows;
  row_labels = kept.row_labels ∙ labels.row_labels;
  column_labels = kept.column_labels ∙ labels.column_labels;
}
