use Rattle.asg_rank.proofs.Common.{◌≡◌, [], IsReady, given_of, rules_of, answer_room}
use Rattle.asg_rank.proofs.BothMade.{first_made, second_made}
use Rattle.asg_rank.proofs.ranker.copy_and_search.Goals as goal

pub returns-clause-copy : goal.returns-clause-copy
returns-clause-copy g c =
    first_made (λ copy. copy ≡ c.args.inst.now) c.in_ok-copy.copy c.open_search.result c.both.result c.both.ensures c.in_ok-copy.ensures

pub returns-clause-ready : goal.returns-clause-ready
returns-clause-ready g c =
    let kind = c.args.kind.now in
    let m = g.K.Kind.monoid kind in
    let R = rules_of (g.K.M.Ordered.monoid_of m) (g.K.M.DMonoid.difference m) (g.K.Kind.entered kind) in
    second_made (IsReady R c.args.inst.now (answer_room c.args.inst.now c.args.count)) c.in_ok-copy.copy c.open_search.result c.both.result c.both.ensures c.open_search.ensures.ready

pub returns-clause-none : goal.returns-clause-none
returns-clause-none g c =
    second_made (λ s. given_of s ≡ []) c.in_ok-copy.copy c.open_search.result c.both.result c.both.ensures c.open_search.ensures.none
