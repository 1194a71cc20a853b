use Rattle.asg_repair.proofs.Common.{◌≡◌, ◌≤◌, List, ◌++◌, length, sym, ◌∙◌, subst, arith, unmatched, phases_in, PhaseOf, SessionOf}
use Rattle.asg_repair.proofs.UnmatchedLemmas.{unmatched_sure}
use Rattle.asg_repair.proofs.FoundLemmas.{IsSession-found}
use Rattle.asg_repair.proofs.sessions.Session.find.Goals as goal

pub invariant_of-self : goal.invariant_of-self
invariant_of-self g c =
    let s = c.self.inside in
    let m = g.K.Kind.monoid s.kind in
    IsSession-found (g.K.M.Ordered.monoid_of m) (g.K.M.DMonoid.difference m) (g.K.Kind.entered s.kind) s.inst
    c.solve_on-ended.new.work c.give.new.work c.solve_on-ended.new.phases
    c.solve_on-ended.ensures.led c.solve_on-ended.ensures.absorbed c.give.ensures.reduced c.give.ensures.matching
    (g.K.Kind.objective s.kind) (g.K.Kind.reach s.kind) c.give.new.room
    c.self.invariant.may_solve c.give.ensures.sized c.solve_on-ended.ensures.chain c.solve_on-ended.ensures.region_side c.give.ensures.room c.give.ensures.some
    (c.give.ensures.given (phases_in c.solve_on-ended.new.phases) c.solve_on-ended.ensures.led)

pub returns-clause-phases : goal.returns-clause-phases
returns-clause-phases g c =
    let s = c.self.inside in
    let more = c.solve_on-ended.ensures.more in
    let size = c.lead.ensures.sized.matching_side ∙ sym c.self.invariant.sized.matching_side in
    let few = unmatched_sure s.is_cut s.work.matching c.lead.new.work.matching size (λ whole. c.lead.ensures.fewer (c.self.invariant.together.absorbed whole)) in
    subst (λ (s : SessionOf _ _). (list : List (PhaseOf _)) × (phases_in c.solve_on-ended.new.phases ≡ s.phases ++ list) × (length list ≤ unmatched s.columns)) c.self.view_is
    (more.0, more.1, omega (arith, more.2, few))
