use Rattle.asg_rankings.proofs.RankingLaw.{all_accounted, all_valid}
use Rattle.asg_rankings.proofs.laws.search_tree_law.Goals as goal

pub returns-clause-valid : goal.returns-clause-valid
returns-clause-valid g c enter X count answers nodes instance all live tree =
    let m = c.args.m.now in
    all_valid (g.M.Ordered.monoid_of m) (g.met.M.Ordered.laws m) (g.M.DMonoid.difference m) (g.M.Written.word_of m) enter
    (λ Y phases z f. c.lower_bound_law.ensures.bound enter Y phases z f) c.infeasible_law.ensures
    X count answers nodes instance all live tree

pub returns-clause-accounted : goal.returns-clause-accounted
returns-clause-accounted g c enter X count answers nodes f instance all live tree valid =
    let m = c.args.m.now in
    all_accounted (g.M.Ordered.monoid_of m) (g.met.M.Ordered.laws m) (g.M.DMonoid.difference m) (g.M.Written.word_of m) enter
    (λ Y phases z h. c.lower_bound_law.ensures.bound enter Y phases z h) c.infeasible_law.ensures
    X count answers nodes instance all live tree f valid
