use Rattle.asg_repair.proofs.Common.{sym, subst, square_side, AreAdmittedPhases, square_cell}
use Rattle.asg_repair.proofs.EditedCosts.{EntersValues-edited}
use Rattle.asg_repair.proofs.applied_edits.edit_instance.Goals as goal

pub kept_through-kept-requires-clause-live : goal.kept_through-kept-requires-clause-live
kept_through-kept-requires-clause-live g c =
    let kind = c.args.kind.now in
    let before = c.requires.may_solve in
    EntersValues-edited (g.K.Kind.objective kind) c.args.inst.now c.args.edit c.requires.passes (g.K.M.Ordered.monoid_of (g.K.Kind.monoid kind)) (g.K.Kind.entered kind) (g.K.Kind.reach kind)
    before.far (g.met.K.Kind.enters_value kind) before.instance before.live

pub kept_through-kept-requires-clause-admitted : goal.kept_through-kept-requires-clause-admitted
kept_through-kept-requires-clause-admitted g c =
    let kind = c.args.kind.now in
    let m = g.K.Kind.monoid kind in
    let M = g.K.M.Ordered.monoid_of m in
    let X = c.args.inst.now in
    subst (λ list. AreAdmittedPhases M (g.K.M.DMonoid.difference m) (square_side X) list (square_cell X M.unit (g.K.Kind.entered kind)))
    (sym c.prepare.ensures.phases)
    c.requires.admitted
