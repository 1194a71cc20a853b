use Rattle.asg_roots.proofs.Common.{◌≡◌, arith}
use Rattle.asg_roots.proofs.RootSteps.{empty_side, solved_root, unit_reduced, unmatched_cells, unmatched_rows}
use Rattle.asg_roots.proofs.roots.solve_in.Goals as goal

pub solve_square-requires-clause-reduced : goal.solve_square-requires-clause-reduced
solve_square-requires-clause-reduced g c =
    let m = c.args.m.now in
    unit_reduced (g.M.Ordered.monoid_of m) (g.met.M.Ordered.laws m) c.args.square c.unit.result c.unit.ensures.unit c.requires.values

pub solve_square-requires-clause-matching_side : goal.solve_square-requires-clause-matching_side
solve_square-requires-clause-matching_side g c = empty_side c.args.square.side c.args.place.now.matching c.requires.fresh.matching_empty

pub solve_square-requires-clause-absorbed : goal.solve_square-requires-clause-absorbed
solve_square-requires-clause-absorbed g c r k e = absurd (unmatched_cells c.args.square.side c.args.place.now.matching c.requires.fresh.matching_empty r k e)

pub solve_square-requires-clause-spare : goal.solve_square-requires-clause-spare
solve_square-requires-clause-spare g c =
    let spare = c.requires.spare in
    let rows = unmatched_rows c.args.square.side c.args.place.now.matching c.requires.fresh.matching_empty in
    omega (arith, spare, rows)

pub returns : goal.returns
returns g c =
    let m = c.args.m.now in
    let new = c.solve_square.new in
    let solved = c.in_ok-solved.ensures in
    solved_root (g.M.Ordered.monoid_of m) (g.M.DMonoid.difference m) c.args.square c.unit.result c.args.place.now
    (record { matching = new.matching; bench = new.bench; region = new.region })
    c.in_ok-solved.solved c.unit.ensures.unit c.requires.fresh solved.bench_side solved.solved solved.ends
