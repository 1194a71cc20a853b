use Rattle.asg_admit.specs.laws.KeptPhases.{after_phases-cell, phases_allowed, phases_admitted, kept_so_many, kept_all, kept_once}
use Rattle.asg_admit.proofs.laws.kept_law.Goals as goal

pub returns-clause-cells : goal.returns-clause-cells
returns-clause-cells g c =
    let m = c.args.m.now in
    after_phases-cell (g.M.Ordered.monoid_of m) (g.M.DMonoid.difference m)

pub returns-clause-allowed : goal.returns-clause-allowed
returns-clause-allowed g c =
    let m = c.args.m.now in
    phases_allowed (g.M.Ordered.monoid_of m) (g.M.DMonoid.difference m)

pub returns-clause-admitted : goal.returns-clause-admitted
returns-clause-admitted g c =
    let m = c.args.m.now in
    phases_admitted (g.M.Ordered.monoid_of m) (g.M.DMonoid.difference m)

pub returns-clause-kept : goal.returns-clause-kept
returns-clause-kept g c =
    let m = c.args.m.now in
    kept_so_many (g.M.Ordered.monoid_of m) (g.M.DMonoid.difference m)

pub returns-clause-all : goal.returns-clause-all
returns-clause-all g c side phases before after low high raised all =
    let m = c.args.m.now in
    kept_all (g.M.Ordered.monoid_of m) (g.M.DMonoid.difference m) side phases after
    (c.raised_law.ensures.admitted side phases before after low high raised all)

pub returns-clause-one : goal.returns-clause-one
returns-clause-one g c =
    let m = c.args.m.now in
    kept_once (g.M.Ordered.monoid_of m) (g.M.DMonoid.difference m)
