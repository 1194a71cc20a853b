use Rattle.asg_verdicts.proofs.Common.{arith}
use Rattle.asg_verdicts.proofs.known_indices.GradedBoundedKnowsIndex.known_index.Goals as goal

pub returns-in-Some : goal.returns-in-Some
returns-in-Some c =
    let lead = rw c.in-Some.is at c.in_ok-index.ensures in
    (lead c.args.self.now.inner.top (omega arith)).have
