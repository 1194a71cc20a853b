use Rattle.asg_repair.proofs.Common.{◌≡◌, ◌≤◌, None, ap, ◌∙◌, subst, rules, refusal_of, IsInstance, most_cost, Problem, square_side, AreKept, EntersValues, IsRaised, AreAdmittedPhases, SessionOf, square_cell}
use Rattle.asg_repair.proofs.EditedCosts.{EntersValues-edited}
use Rattle.asg_repair.proofs.RaisedEdits.{RaiseSquares, StayAdmitted, raised_all}
use Rattle.asg_repair.proofs.sessions.Session.edit.Given.{Over}
use Rattle.asg_repair.proofs.sessions.Session.edit.Goals as goal
use Rattle.asg_repair.proofs.sessions.Session.edit.Goals.{In-Ok}

abbrev Seen : Over → Type 0
Seen g = SessionOf g.row.K.Denot g.row.K-M-Value.Denot

passes : (g : Over) (c : In-Ok g) → refusal_of (g.K.Kind.objective c.args.self.now.kind) c.args.self.now.instance c.args.edit ≡ None
passes g c = search rules

pub returns-in-Ok-clause-all : goal.returns-in-Ok-clause-all
returns-in-Ok-clause-all g c raised =
    let t = c.args.self.now in
    let m = g.K.Kind.monoid t.kind in
    let M = g.K.M.Ordered.monoid_of m in
    let d = g.K.M.DMonoid.difference m in
    let e = g.K.Kind.entered t.kind in
    let shown = c.self.view_is in
    let told = c.self.invariant in
    let same = c.monoid.ensures ∙ ap (λ (t : Seen g). g.K.Kind.monoid t.kind) shown in
    let instance : IsInstance t.instance = subst (λ (t : Seen g). IsInstance t.instance) shown told.may_solve.instance in
    let far : most_cost ≤ g.K.Kind.reach t.kind = subst (λ (t : Seen g). most_cost ≤ g.K.Kind.reach t.kind) shown told.may_solve.far in
    let live : EntersValues M e t.instance = subst (λ (t : Seen g). EntersValues (g.K.M.Ordered.monoid_of (g.K.Kind.monoid t.kind)) (g.K.Kind.entered t.kind) t.instance) shown told.may_solve.live in
    let admitted : AreAdmittedPhases M d (square_side t.instance) t.phases (square_cell t.instance M.unit e) =
    subst
    (λ (t : Seen g).
    AreAdmittedPhases (g.K.M.Ordered.monoid_of (g.K.Kind.monoid t.kind)) (g.K.M.DMonoid.difference (g.K.Kind.monoid t.kind)) (square_side t.instance) t.phases
    (square_cell t.instance (g.K.M.Ordered.monoid_of (g.K.Kind.monoid t.kind)).unit (g.K.Kind.entered t.kind)))
    shown told.together.admitted in
    let stay : StayAdmitted M d = subst (λ k. StayAdmitted (g.K.M.Ordered.monoid_of k) (g.K.M.DMonoid.difference k)) same c.raised_law.ensures.admitted in
    let squares : RaiseSquares M = subst (λ k. RaiseSquares (g.K.M.Ordered.monoid_of k)) same c.raised_law.ensures.squares in
    let edited_is = c.in-Ok.ensures.edited in
    let kept = c.in-Ok.ensures.kept in
    let live_after = EntersValues-edited (g.K.Kind.objective t.kind) t.instance c.args.edit (passes g c) M e (g.K.Kind.reach t.kind) far (g.met.K.Kind.enters_value t.kind) instance live in
    kept.1
    ∙ raised_all M (g.met.K.M.Ordered.laws m) d stay squares e t.instance c.args.edit t.phases kept.0 live live_after
    (subst (λ (Y : Problem). IsRaised M e t.instance Y) edited_is raised) admitted
    (subst (λ (Y : Problem). AreKept M d (square_side Y) t.phases (square_cell Y M.unit e) kept.0) edited_is kept.2)

pub returns-in-Ok-clause-columns : goal.returns-in-Ok-clause-columns
returns-in-Ok-clause-columns g c raised r apart = c.in-Ok.ensures.columns (returns-in-Ok-clause-all g c raised) r apart
