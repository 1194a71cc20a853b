use Rattle.asg_engine_tests.proofs.Common.{ℕ, length, is_none, None, Option, ap, subst, arith, count_by-le-length, length-replicate, Matches, Matches-empty}
use Rattle.asg_engine_tests.proofs.solvers.index_at.Goals as goal

pub solve_square-requires-clause-absorbed : goal.solve_square-requires-clause-absorbed
solve_square-requires-clause-absorbed c r k has =
    absurd (Matches-empty _ r k (subst (λ m. Matches m r k) c.requires.matching has))

pub solve_square-requires-clause-spare : goal.solve_square-requires-clause-spare
solve_square-requires-clause-spare c =
    let rows = ap length c.requires.matching in
    omega (arith, count_by-le-length is_none c.args.desk.now.matching, rows, length-replicate {A = Option ℕ} c.args.reduced.now.side None, c.requires.spare)
