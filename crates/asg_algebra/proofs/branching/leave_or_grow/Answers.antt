use Rattle.asg_algebra.proofs.Common.{Some, ap, ◌∙◌, subst, arith, length}
use Rattle.asg_algebra.specs.Branches.{IsAtLimit}
use Rattle.asg_algebra.proofs.LinePhases.{left_by_line}
use Rattle.asg_algebra.proofs.branching.leave_or_grow.Goals as goal

pub push_line-last-requires-clause-one : goal.push_line-last-requires-clause-one
push_line-last-requires-clause-one g c = ap length (c.comes_by_line.ensures.steps c.if-comes_by_line.true)

pub returns-then-comes_by_line-clause-branches : goal.returns-then-comes_by_line-clause-branches
returns-then-comes_by_line-clause-branches g c =
    let m = c.args.m.now in
    let M = g.M.Ordered.monoid_of m in
    let same = ap (λ z. M.product z c.diff-step.result) c.index-index.ensures in
    let by = c.comes_by_line.ensures in
    let yes = c.if-comes_by_line.true in
    left_by_line (g.met.M.Ordered.laws m) (g.M.DMonoid.difference m) (g.S.RowSquare.as_reduced c.args.reduced.now) c.comes_by_line.new.growth
    c.diff-step.ensures.is_value (by.steps yes) (omega (arith, c.requires.root)) (by.admitted yes)
    (Some c.args.limit) (subst (IsAtLimit M (Some c.args.limit)) same (by.far yes))
    c.op.result (c.op.ensures.product ∙ same) c.push_line-last.ensures
