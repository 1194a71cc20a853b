use Rattle.asg_repair.proofs.Common.{IfOk, All, sym, ap, ◌∙◌, subst, phases_in, square_side, SessionOf, square_cell}
use Rattle.asg_proof.specs.PromisedProofs.{IsPhaseOver}
use Rattle.asg_admit.specs.PhaseValues.{AreOfValues}
use Rattle.asg_admit.specs.laws.PhaseValues.{admitted_values}
use Rattle.asg_repair.proofs.sessions.Session.phases.Goals as goal

pub written_chain-requires-clause-values : goal.written_chain-requires-clause-values
written_chain-requires-clause-values g c =
    let s = c.self.inside in
    let m = g.K.Kind.monoid s.kind in
    let M = g.K.M.Ordered.monoid_of m in
    subst (λ n. AreOfValues (g.K.M.Ordered.monoid_of n) (phases_in s.phases)) (sym c.monoid.ensures)
    (admitted_values M (g.K.M.DMonoid.difference m) (square_side s.inst) (phases_in s.phases) (square_cell s.inst M.unit (g.K.Kind.entered s.kind)) c.self.invariant.together.admitted)

pub returns-clause-over : goal.returns-clause-over
returns-clause-over g c =
    let side = c.self.invariant.region_side ∙ ap (λ (s : SessionOf _ _). square_side s.instance) c.self.view_is in
    subst (λ n. IfOk c.written_chain.result (All (IsPhaseOver n))) side c.written_chain.ensures.over
