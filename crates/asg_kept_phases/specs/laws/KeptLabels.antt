-- Squares that keep their labels.
use Rattle.std.proofs.Common.{◌∙◌}
use Rattle.asg_admit.specs.Reduced.{KeepsLabels}
use Rattle.asg_model.specs.Problem.{Problem}
use Rattle.asg_square.specs.Grid.{Grid}
use Rattle.asg_kept_phases.specs.NamedPlaces.{HasColumnsOf}

-- they keep the columns of the square of an instance
pub HasColumnsOf-kept : {V : Type 0} (X : Problem) (P Q : Grid V) → KeepsLabels P Q → HasColumnsOf X P → HasColumnsOf X Q
HasColumnsOf-kept X P Q kept columns = record {
  side = kept.side ∙ columns.side;
  columns = kept.column_labels ∙ columns.columns;
}
