use Rattle.asg_rank.proofs.Common.{sym, ap, ◌∙◌, subst, IsHall, Whole, rules_of, Ranking, IsExhausted}
use Rattle.asg_rank.proofs.RankerGives.{root_names, root_hall_is}
use Rattle.asg_rank.proofs.ranker.Ranker.hall.Goals as goal

pub root_hall-requires-clause-empty : goal.root_hall-requires-clause-empty
root_hall-requires-clause-empty g c =
    let r = c.self.inside in
    let m = g.K.Kind.monoid r.kind in
    let R = rules_of (g.K.M.Ordered.monoid_of m) (g.K.M.DMonoid.difference m) (g.K.Kind.entered r.kind) in
    let v = c.self.view_is in
    root_names R (g.K.Kind.objective r.kind) (g.K.Kind.reach r.kind) r.inst r.count r.search c.self.invariant c.rows-rows.ensures.instance
    (ap (λ (s : Ranking _). s.given) v ∙ c.requires.none) (subst (λ (s : Ranking _). IsExhausted s.problem s.count s.given) (sym v) c.requires.done)
    (g.met.K.M.Ordered.laws m) c.square_law.ensures.choices

pub returns : goal.returns
returns g c =
    let r = c.self.inside in
    let m = g.K.Kind.monoid r.kind in
    let R = rules_of (g.K.M.Ordered.monoid_of m) (g.K.M.DMonoid.difference m) (g.K.Kind.entered r.kind) in
    let v = c.self.view_is in
    let is =
    root_hall_is R (g.K.Kind.objective r.kind) (g.K.Kind.reach r.kind) r.inst r.count r.search c.self.invariant c.rows-rows.ensures.instance
    (ap (λ (s : Ranking _). s.given) v ∙ c.requires.none) (subst (λ (s : Ranking _). IsExhausted s.problem s.count s.given) (sym v) c.requires.done)
    (g.met.K.M.Ordered.laws m) c.square_law.ensures.choices
    in
    subst (λ X. IsHall X Whole c.root_hall.result.now) (ap (λ (s : Ranking _). s.problem) v)
    (subst (IsHall r.inst Whole) (sym (c.root_hall.ensures R.monoid.unit)) is)
