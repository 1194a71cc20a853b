use Rattle.asg_kept_phases.proofs.Common.{IfSome, sym, ◌∙◌, subst}
use Rattle.asg_order.specs.Entering.{MayEnter}
use Rattle.asg_proof.specs.laws.LiveCosts.{costs_may_enter}
use Rattle.asg_kept_phases.proofs.mended_cells.copy_cell.Goals as goal

pub enter-requires : goal.enter-requires
enter-requires g c =
    let kind = c.args.kind.now in
    subst (λ o. IfSome o (MayEnter (g.K.Kind.objective kind) (g.K.Kind.reach kind))) (sym c.live.ensures.cost ∙ c.in-Some.is)
    (costs_may_enter (g.K.Kind.objective kind) (g.K.Kind.reach kind) c.args.inst.now c.requires.reach c.rows-rows.ensures.instance c.requires.passes c.args.r c.args.q)
