use Rattle.asg_engine_tests.proofs.Common.{subst, Matches, Matches-empty}
use Rattle.asg_engine_tests.proofs.solvers.solved.Goals as goal

pub solve-ended-requires-clause-absorbed : goal.solve-ended-requires-clause-absorbed
solve-ended-requires-clause-absorbed c r k has =
    absurd (Matches-empty _ r k (subst (λ m. Matches m r k) c.in_ok-desk.ensures.matching has))

pub returns : goal.returns
returns c = c.solve-ended.ensures.solved.live
