use Rattle.asg_admit.proofs.Common.{arith}
use Rattle.asg_admit.proofs.admission.is_over.Goals as goal

pub returns : goal.returns
returns g c = (
  λ ok. record {
    rows = omega (arith, c.if-enters-side.false, c.side-side.ensures.side);
    columns = omega (arith, c.if-leaves-side.false, c.side-side.ensures.side);
    values = c.are_values.ensures.0 c.if-not-are_values.false;
    counted = c.are_counted.ensures.0 ok;
  },
  λ over. c.are_counted.ensures.1 over.counted,
)
