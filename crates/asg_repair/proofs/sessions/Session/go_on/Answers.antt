use Rattle.asg_repair.proofs.Common.{◌≡◌, ◌≤◌, ◌+◌, List, ◌++◌, length, sym, ◌∙◌, subst, arith, unmatched, phases_in, PhaseOf, SessionOf, Open}
use Rattle.asg_repair.proofs.UnmatchedLemmas.{unmatched_sure}
use Rattle.asg_repair.proofs.LeadsOnLemmas.{IsSession-ready}
use Rattle.asg_repair.proofs.sessions.Session.go_on.Goals as goal

pub invariant_of-self : goal.invariant_of-self
invariant_of-self g c =
    let s = c.self.inside in
    let m = g.K.Kind.monoid s.kind in
    IsSession-ready (g.K.M.Ordered.monoid_of m) (g.K.M.DMonoid.difference m) (g.K.Kind.entered s.kind) s.inst c.guess_on.new.work c.guess_on.new.phases
    c.guess_on.ensures.ready (g.K.Kind.objective s.kind) (g.K.Kind.reach s.kind) s.room c.self.invariant.may_solve c.self.invariant.answer_room
    (subst (λ (t : SessionOf _ _). t.given ≡ Open) (sym c.self.view_is) c.requires)

pub returns-clause-phases : goal.returns-clause-phases
returns-clause-phases g c =
    let s = c.self.inside in
    let on = c.guess_on.ensures in
    let size = c.lead.ensures.sized.matching_side ∙ sym c.self.invariant.sized.matching_side in
    let few = unmatched_sure s.is_cut s.work.matching c.lead.new.work.matching size (λ whole. c.lead.ensures.fewer (c.self.invariant.together.absorbed whole)) in
    subst (λ (s : SessionOf _ _). (list : List (PhaseOf _)) × (phases_in c.guess_on.new.phases ≡ s.phases ++ list) × (length list + unmatched c.guess_on.new.work.matching ≤ unmatched s.columns)) c.self.view_is
    (on.more, on.phases, omega (arith, on.few, few))
