use Rattle.asg_roots.proofs.Common.{◌≡◌, refl, arith}
use Rattle.asg_roots.proofs.RootSteps.{empty_side, found_root, unit_reduced, unmatched_cells, unmatched_rows}
use Rattle.asg_roots.proofs.roots.solve_given_in.Goals as goal

pub solve_given-requires-clause-reduced : goal.solve_given-requires-clause-reduced
solve_given-requires-clause-reduced g c =
    let m = c.args.m.now in
    unit_reduced (g.M.Ordered.monoid_of m) (g.met.M.Ordered.laws m) c.args.square c.unit.result c.unit.ensures.unit c.requires.values

pub solve_given-requires-clause-matching_side : goal.solve_given-requires-clause-matching_side
solve_given-requires-clause-matching_side g c = empty_side c.args.square.side c.args.place.now.matching c.requires.fresh.matching_empty

pub solve_given-requires-clause-empty : goal.solve_given-requires-clause-empty
solve_given-requires-clause-empty g c r k e = unmatched_cells c.args.square.side c.args.place.now.matching c.requires.fresh.matching_empty r k e

pub solve_given-requires-clause-few : goal.solve_given-requires-clause-few
solve_given-requires-clause-few g c =
    let few = c.requires.few in
    let rows = unmatched_rows c.args.square.side c.args.place.now.matching c.requires.fresh.matching_empty in
    omega (arith, few, rows)

pub returns : goal.returns
returns g c =
    let m = c.args.m.now in
    let new = c.solve_given.new in
    let bench = c.args.place.now.bench in
    let found = c.in_ok-found.ensures in
    found_root (g.M.Ordered.monoid_of m) (g.M.DMonoid.difference m) c.args.square c.unit.result c.args.place.now
    (record { matching = new.matching; bench = bench; region = new.region })
    c.in_ok-found.found c.unit.ensures.unit c.requires.fresh refl found.solved (found.ends bench.rows)
