use Rattle.asg_kept_cells.proofs.Common.{arith}
use Rattle.asg_kept_cells.proofs.MaskLemmas.{front_apart}
use Rattle.asg_kept_cells.proofs.masks.start_of.Goals as goal

pub returns-then-front-from-clause-apart : goal.returns-then-front-from-clause-apart
returns-then-front-from-clause-apart c = front_apart c.args.inst.now c.args.front c.args.from c.args.to c.requires c.if-front-from.true

pub returns-else-front-from-clause-apart : goal.returns-else-front-from-clause-apart
returns-else-front-from-clause-apart c = λ r below numbered. omega (arith, below, c.first.ensures.row)
