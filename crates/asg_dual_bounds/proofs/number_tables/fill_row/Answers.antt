use Rattle.asg_dual_bounds.proofs.Common.{refl, arith}
use Rattle.asg_dual_bounds.proofs.number_tables.fill_row.Goals as goal

-- there is such a row
pub unreachable-requires : goal.unreachable-requires
unreachable-requires c = omega (arith, c.in_default.ensures.past refl, c.requires.there)
