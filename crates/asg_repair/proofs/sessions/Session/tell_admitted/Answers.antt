use Rattle.asg_repair.proofs.Common.{subst, square_side, AreAdmittedPhases, SessionOf, square_cell}
use Rattle.asg_repair.proofs.sessions.Session.tell_admitted.Given.{Over}
use Rattle.asg_repair.proofs.sessions.Session.tell_admitted.Goals as goal

abbrev Seen : Over → Type 0
Seen g = SessionOf g.row.K.Denot g.row.K-M-Value.Denot

pub returns : goal.returns
returns g c =
    subst
    (λ (t : Seen g).
    AreAdmittedPhases (g.K.M.Ordered.monoid_of (g.K.Kind.monoid t.kind)) (g.K.M.DMonoid.difference (g.K.Kind.monoid t.kind)) (square_side t.instance) t.phases
    (square_cell t.instance (g.K.M.Ordered.monoid_of (g.K.Kind.monoid t.kind)).unit (g.K.Kind.entered t.kind)))
    c.self.view_is c.self.invariant.together.admitted
