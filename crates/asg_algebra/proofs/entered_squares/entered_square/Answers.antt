use Rattle.asg_algebra.proofs.Common.{◌≡◌, ap, ◌∙◌, subst, IfOk-weaker, IsSquareBy, IsSquareOf}
use Rattle.asg_model.specs.declared.parts.Cost.{Cost}
use Rattle.asg_proof.specs.laws.LiveCosts.{costs_may_enter}
use Rattle.asg_algebra.proofs.entered_squares.entered_square.Goals as goal

pub of-requires-clause-enters : goal.of-requires-clause-enters
of-requires-clause-enters g c r d =
    let kind = c.args.kind.now in
    costs_may_enter (g.K.Kind.objective kind) (g.K.Kind.reach kind) c.args.inst.now c.requires.reach c.rows-rows.ensures.instance c.requires.passes r d

pub returns : goal.returns
returns g c =
    let kind = c.args.kind.now in
    let X = c.args.inst.now in
    let enter = g.K.Kind.entered kind in
    IfOk-weaker c.of.result
    (IsSquareBy X c.unit.result (λ cost v. Cost × (v ≡ enter cost)))
    (IsSquareOf X (g.K.M.Ordered.monoid_of (g.K.Kind.monoid kind)).unit enter)
    (λ Q by. subst (λ u. IsSquareOf X u enter Q) (c.unit.ensures.unit ∙ ap (λ n. (g.K.M.Ordered.monoid_of n).unit) c.monoid-m.ensures)
    (by enter (λ r d cost v at entered. entered.1)))
    c.of.ensures.square
