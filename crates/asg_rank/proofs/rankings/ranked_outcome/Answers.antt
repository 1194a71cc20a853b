use Rattle.asg_rank.proofs.Common.{sym, subst, IsRankingIn}
use Rattle.asg_rank.proofs.rankings.ranked_outcome.Goals as goal

pub returns : goal.returns
returns g c =
    let ranker = c.args.ranker in
    let m = g.K.Kind.monoid ranker.kind in
    let is = c.in_ok-nodes.ensures in
    subst (λ answers. IsRankingIn (g.K.M.Ordered.monoid_of m) (g.K.M.DMonoid.difference m) (g.K.M.Written.word_of m) (g.K.Kind.entered ranker.kind) (g.K.Kind.objective ranker.kind) ranker.problem ranker.count answers c.in_ok-nodes.nodes) (sym c.into_choices.ensures)
    (record { listed = is.listed; valid = c.requires.valid; tree = is.tree; phases = is.phases; last_open = is.last; countable = is.countable })
