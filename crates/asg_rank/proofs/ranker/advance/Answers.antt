use Rattle.asg_rank.proofs.Common.{◌∙◌, arith, rules_of}
use Rattle.asg_rank.proofs.FollowSteps.{counted_ready, done_least, answered_least}
use Rattle.asg_rank.proofs.ranker.advance.Goals as goal

pub give-requires-clause-some : goal.give-requires-clause-some
give-requires-clause-some g c =
    let m = c.args.m.now in
    let M = g.M.Ordered.monoid_of m in
    let X = c.args.inst.now in
    let S = c.args.search.now in
    let e = c.requires.ready in
    let R = rules_of M (g.M.DMonoid.difference m) e.0 in
    let counted = counted_ready R X e.1 S e.2 in
    let few = e.2.search.kept.few in
    let test = c.if-search-len.false in
    let count = c.len.ensures.count in
    omega (arith, counted, few, test, count)

pub follow-requires : goal.follow-requires
follow-requires g c =
    let e = c.requires.ready in
    record { growing = (e.0, e.1, c.give.ensures.growing e.0 e.1 e.2) }

pub returns-then-search-len-clause-gives : goal.returns-then-search-len-clause-gives
returns-then-search-len-clause-gives g c =
    let m = c.args.m.now in
    let M = g.M.Ordered.monoid_of m in
    let X = c.args.inst.now in
    let S = c.args.search.now in
    λ enter count ready. done_least (rules_of M (g.M.DMonoid.difference m) enter) X count S ready (c.if-search-len.true ∙ c.len.ensures.count)

pub returns-clause-ready : goal.returns-clause-ready
returns-clause-ready g c =
    λ enter count ready. c.follow.ensures.ready enter count (c.give.ensures.growing enter count ready)

pub returns-clause-gives : goal.returns-clause-gives
returns-clause-gives g c =
    let m = c.args.m.now in
    let M = g.M.Ordered.monoid_of m in
    let X = c.args.inst.now in
    let S = c.args.search.now in
    λ enter count ready.
    answered_least (rules_of M (g.M.DMonoid.difference m) enter) X count S c.give.new.search c.follow.new.search (c.give.ensures.more enter count ready) c.follow.ensures.given (c.follow.ensures.ready enter count (c.give.ensures.growing enter count ready))
