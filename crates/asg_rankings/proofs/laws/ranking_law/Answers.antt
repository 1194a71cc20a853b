use Rattle.asg_rankings.proofs.Common.{subst}
use Rattle.asg_rankings.proofs.Rankings.{GivesValid, GivesAll, kind_ranking, kind_next_best}
use Rattle.asg_rankings.proofs.laws.ranking_law.Goals as goal

pub returns-clause-ranking : goal.returns-clause-ranking
returns-clause-ranking g c X count answers nodes instance all passes far listed tree =
    let kind = c.args.kind.now in
    let m = g.K.Kind.monoid kind in
    kind_ranking (g.K.M.Ordered.monoid_of m) (g.met.K.M.Ordered.laws m) (g.K.M.DMonoid.difference m) (g.K.M.Written.word_of m)
    (g.K.Kind.objective kind) (g.K.Kind.entered kind) (g.K.Kind.reach kind) (g.met.K.Kind.bridge kind) (g.met.K.Kind.enters_value kind)
    X count answers nodes instance all passes far listed tree
    (subst (λ n. GivesValid (g.K.M.Ordered.monoid_of n) (g.K.M.DMonoid.difference n) (g.K.M.Written.word_of n)) c.monoid.ensures c.search_tree_law.ensures.valid)
    (subst (λ n. GivesAll (g.K.M.Ordered.monoid_of n) (g.K.M.DMonoid.difference n) (g.K.M.Written.word_of n)) c.monoid.ensures c.search_tree_law.ensures.accounted)

pub returns-clause-next_best : goal.returns-clause-next_best
returns-clause-next_best g c X count answers nodes a instance all passes far listed tree from upto =
    let kind = c.args.kind.now in
    let m = g.K.Kind.monoid kind in
    kind_next_best (g.K.M.Ordered.monoid_of m) (g.met.K.M.Ordered.laws m) (g.K.M.DMonoid.difference m) (g.K.M.Written.word_of m)
    (g.K.Kind.objective kind) (g.K.Kind.entered kind) (g.K.Kind.reach kind) (g.met.K.Kind.bridge kind) (g.met.K.Kind.enters_value kind)
    X count answers nodes instance all passes far listed tree
    (subst (λ n. GivesValid (g.K.M.Ordered.monoid_of n) (g.K.M.DMonoid.difference n) (g.K.M.Written.word_of n)) c.monoid.ensures c.search_tree_law.ensures.valid)
    (subst (λ n. GivesAll (g.K.M.Ordered.monoid_of n) (g.K.M.DMonoid.difference n) (g.K.M.Written.word_of n)) c.monoid.ensures c.search_tree_law.ensures.accounted)
    a from upto
