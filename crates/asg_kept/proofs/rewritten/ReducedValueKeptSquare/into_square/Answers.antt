use Rattle.asg_kept.proofs.Common.{refl}
use Rattle.asg_kept.proofs.rewritten.ReducedValueKeptSquare.into_square.Goals as goal

pub returns : goal.returns
returns g c = record {
  labels = record { side = refl; rows = refl; row_labels = refl; column_labels = refl };
  present = λ r k. refl;
}
