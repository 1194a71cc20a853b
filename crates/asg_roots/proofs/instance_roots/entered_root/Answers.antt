use Rattle.asg_roots.proofs.Common.{IfOk, sym, subst, arith, IfOk-weaker, HasValues, IsInstanceRoot, IsSolvedRoot, enters_values, square_values, cell_at}
use Rattle.asg_roots.proofs.RootSteps.{root_of_instance}
use Rattle.asg_roots.proofs.instance_roots.entered_root.Goals as goal

pub solve_root-requires-clause-values : goal.solve_root-requires-clause-values
solve_root-requires-clause-values g c =
    let kind = c.args.kind.now in
    let k = g.K.Kind.monoid kind in
    let M = g.K.M.Ordered.monoid_of k in
    let X = c.args.inst.now in
    let enter = g.K.Kind.entered kind in
    let Q = c.args.square in
    let live = enters_values M enter (g.K.Kind.objective kind) (g.K.Kind.reach kind) X c.requires.reach c.rows-rows.ensures.instance c.requires.passes (g.met.K.Kind.enters_value kind) in
    subst (λ n. HasValues (g.K.M.Ordered.monoid_of n) Q.side (cell_at Q)) (sym c.monoid.ensures)
    (square_values M (g.met.K.M.Ordered.laws k) X enter Q c.requires.square live)

pub solve_root-requires-clause-records : goal.solve_root-requires-clause-records
solve_root-requires-clause-records g c =
    let side = c.requires.square.labels.side in
    let most = c.requires.records in
    omega (arith, side, most)

pub returns : goal.returns
returns g c =
    let kind = c.args.kind.now in
    let k = g.K.Kind.monoid kind in
    let M = g.K.M.Ordered.monoid_of k in
    let d = g.K.M.DMonoid.difference k in
    let X = c.args.inst.now in
    let enter = g.K.Kind.entered kind in
    let Q = c.args.square in
    IfOk-weaker c.solve_root.result (IsSolvedRoot M d Q c.args.records) (IsInstanceRoot M d enter X c.args.records)
    (root_of_instance M d enter X c.args.records Q c.requires.square)
    (subst (λ n. IfOk c.solve_root.result (IsSolvedRoot (g.K.M.Ordered.monoid_of n) (g.K.M.DMonoid.difference n) Q c.args.records)) c.monoid.ensures c.solve_root.ensures)
