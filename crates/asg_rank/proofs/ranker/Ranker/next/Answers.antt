use Rattle.asg_rank.proofs.Common.{sym, subst, given_of, IsReady, rules_of, GivesLeast, Ranking, Gives, answer_room}
use Rattle.asg_rank.proofs.RankerGives.{next_gives, ranker_next}
use Rattle.asg_rank.proofs.ranker.Ranker.next.Goals as goal

pub advance-requires : goal.advance-requires
advance-requires g c =
    let r = c.self.inside in
    let enter = g.K.Kind.entered r.kind in
    let room = answer_room r.inst r.count in
    record { ready = (enter, room, subst (λ n. IsReady (rules_of (g.K.M.Ordered.monoid_of n) (g.K.M.DMonoid.difference n) enter) r.inst room r.search) (sym c.monoid.ensures) c.self.invariant.ready) }

pub invariant_of-self : goal.invariant_of-self
invariant_of-self g c =
    let r = c.self.inside in
    let m = g.K.Kind.monoid r.kind in
    let enter = g.K.Kind.entered r.kind in
    let room = answer_room r.inst r.count in
    let R = rules_of (g.K.M.Ordered.monoid_of m) (g.K.M.DMonoid.difference m) enter in
    let ready = c.advance.ensures.ready enter room (subst (λ n. IsReady (rules_of (g.K.M.Ordered.monoid_of n) (g.K.M.DMonoid.difference n) enter) r.inst room r.search) (sym c.monoid.ensures) c.self.invariant.ready) in
    ranker_next R (g.K.Kind.objective r.kind) (g.K.Kind.reach r.kind) r.inst r.count r.search c.self.invariant c.rows-rows.ensures.instance c.advance.new.search
    (subst (λ n. IsReady (rules_of (g.K.M.Ordered.monoid_of n) (g.K.M.DMonoid.difference n) enter) r.inst room c.advance.new.search) c.monoid.ensures ready)

pub returns-clause-gives : goal.returns-clause-gives
returns-clause-gives g c =
    let r = c.self.inside in
    let m = g.K.Kind.monoid r.kind in
    let enter = g.K.Kind.entered r.kind in
    let room = answer_room r.inst r.count in
    let R = rules_of (g.K.M.Ordered.monoid_of m) (g.K.M.DMonoid.difference m) enter in
    let least = c.advance.ensures.gives enter room (subst (λ n. IsReady (rules_of (g.K.M.Ordered.monoid_of n) (g.K.M.DMonoid.difference n) enter) r.inst room r.search) (sym c.monoid.ensures) c.self.invariant.ready) in
    let now = given_of c.advance.new.search in
    subst (λ (s : Ranking _). Gives (g.K.Kind.objective s.kind) s.problem s.count s.given now c.advance.result) c.self.view_is
    (next_gives R (g.K.Kind.objective r.kind) (g.K.Kind.reach r.kind) r.inst r.count r.search c.self.invariant c.rows-rows.ensures.instance (g.met.K.Kind.bridge r.kind) c.counting_law.ensures now c.advance.result
    (subst (λ n. GivesLeast (rules_of (g.K.M.Ordered.monoid_of n) (g.K.M.DMonoid.difference n) enter) r.inst room (given_of r.search) now c.advance.result) c.monoid.ensures least))
