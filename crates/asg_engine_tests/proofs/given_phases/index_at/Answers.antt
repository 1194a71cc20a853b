use Rattle.asg_engine_tests.proofs.Common.{subst, Matches, Matches-empty}
use Rattle.asg_engine_tests.proofs.given_phases.index_at.Goals as goal

pub solve_given-requires-clause-empty : goal.solve_given-requires-clause-empty
solve_given-requires-clause-empty c r k has =
    Matches-empty _ r k (subst (λ m. Matches m r k) c.requires.matching has)
