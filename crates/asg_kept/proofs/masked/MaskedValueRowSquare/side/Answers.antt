use Rattle.asg_kept.proofs.Common.{IsGrid-masked}
use Rattle.asg_kept.proofs.masked.MaskedValueRowSquare.side.Goals as goal

pub returns-clause-grid : goal.returns-clause-grid
returns-clause-grid g c = IsGrid-masked c.args.self.now.square.now.now c.args.self.now.words.now c.side.ensures.grid
