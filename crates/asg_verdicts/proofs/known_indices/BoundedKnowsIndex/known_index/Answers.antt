use Rattle.asg_verdicts.proofs.Common.{arith}
use Rattle.asg_verdicts.proofs.known_indices.BoundedKnowsIndex.known_index.Goals as goal

pub returns-in-Some : goal.returns-in-Some
returns-in-Some c =
    let have = rw c.in-Some.is at c.in_ok-index.ensures in
    have c.args.self.now.top (omega arith)
