use Rattle.asg_phase_totals.proofs.Common.{◌+◌, ◌-◌, ◌*◌, arith, part_at}
use Rattle.asg_phase_totals.proofs.dual_fits.word_of.Goals as goal

pub returns-clause-each : goal.returns-clause-each
returns-clause-each g c = λ k h. part_at g.met.N.SumNumber.numbers_law c.args.numbers.now (64 * c.args.number) (64 * c.args.number + 64 - 64 * c.args.number) k (omega (arith, h))
