use Rattle.asg_kept_cells.proofs.Common.{None}
use Rattle.asg_admit.specs.laws.SquareLemmas.{written}
use Rattle.asg_kept_cells.proofs.taking_out.take_out_cell.Goals as goal

pub returns : goal.returns
returns g c = written c.args.square.now c.args.row c.args.column None c.set.new.self c.side-grid.ensures.grid c.requires.row c.requires.column c.set.ensures
