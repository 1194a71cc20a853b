use Rattle.asg_objectives.proofs.Common.{◌≡◌, ℕ, List, length, is_none, IfOk, None, Ok, Err, Option, Result, refl, ap, ◌∙◌, subst, arith, count_by-le-length, length-replicate, last_of, EndsIn, HasSolved, Matches, IsSolvedFrom, Workplace, Monoid, Forest, Grid}
use Rattle.asg_algebra.specs.declared.square_solvers.SolvedSquare.{SolvedSquare}
use Rattle.asg_match.specs.laws.Matchings.{Matches-empty}
use Rattle.asg_objectives.proofs.solved_squares.solve_in.Goals as goal

solved_from : {V E : Type 0} (M : Monoid V) (d : V → V → V) (Q : Grid V) (z : V) (matching : List (Option ℕ)) (forest : Forest V) (memory : Workplace V) (r : Result (SolvedSquare V) E) → z ≡ M.unit → length matching ≡ Q.side → IfOk r (λ s. HasSolved M d (record { now = Q; index = z }) s.reduced matching memory.matching forest memory.region None (last_of s.ended)) → IfOk r (λ s. EndsIn M s.reduced memory.matching memory.bench.rows s.ended) → IfOk r (λ s. IsSolvedFrom M d Q s memory)
solved_from M d Q z matching forest memory (Ok s) unit over solved ends = record {
  before = record { now = Q; index = z };
  start = refl;
  at_unit = unit;
  matching = matching;
  over = over;
  forest = forest;
  solved = solved;
  ends = ends;
}
solved_from M d Q z matching forest memory (Err e) unit over solved ends = tt

pub solve_square-requires-clause-absorbed : goal.solve_square-requires-clause-absorbed
solve_square-requires-clause-absorbed g c r k has =
    absurd (Matches-empty _ r k (subst (λ m. Matches m r k) c.requires.fresh.matching_empty has))

pub solve_square-requires-clause-spare : goal.solve_square-requires-clause-spare
solve_square-requires-clause-spare g c =
    let fresh = c.requires.fresh in
    let none : Option ℕ = None in
    omega (arith, c.requires.spare, count_by-le-length (is_none {T = ℕ}) c.args.workplace.now.matching, ap length fresh.matching_empty, length-replicate c.args.square.side none)

pub returns : goal.returns
returns g c =
    let m = c.args.m.now in
    let old = c.args.workplace.now in
    let new = c.solve_square.new in
    let none : Option ℕ = None in
    solved_from (g.M.Ordered.monoid_of m) (g.M.DMonoid.difference m) c.args.square c.unit.result old.matching old.region
    (record { matching = new.matching; bench = new.bench; region = new.region }) c.solve_square.result c.unit.ensures.unit
    (ap length c.requires.fresh.matching_empty ∙ length-replicate c.args.square.side none)
    c.solve_square.ensures.solved c.solve_square.ensures.ends
