use Rattle.asg_verdicts.proofs.Common.{◌≡◌, ◌≢◌, ◌⊎◌, pos, sym, subst, IsValue, No, Yes, AreReplayed, IsFirstBad, cell_at}
use Rattle.asg_admit.specs.Reduced.{IsReduced}
use Rattle.asg_verdicts.proofs.PhaseTold.{bad_from, told_index}
use Rattle.asg_verdicts.proofs.square_verdicts.replays_verdict.Goals as goal

pub first_bad-requires : goal.first_bad-requires
first_bad-requires g c =
    subst (IsReduced (g.M.Ordered.monoid_of c.args.m.now)) (sym c.in_ok-square.ensures) c.requires.reduced

pub returns-in-Some : goal.returns-in-Some
returns-in-Some g c =
    let m = c.args.m.now in
    let M = g.M.Ordered.monoid_of m in
    let d = g.M.DMonoid.difference m in
    let word_of = g.M.Written.word_of m in
    let words = c.args.phases.now in
    let bad = rw c.in-Some.is at c.in_ok-place.ensures.bad in
    bad_from M (g.met.M.Ordered.laws m) d word_of c.args.start c.args.value words c.in-Some.place c.verdict_at_part.result
    (subst (λ R. IsFirstBad M d word_of R.now.side (cell_at R.now) words c.in-Some.place) c.in_ok-square.ensures bad) c.verdict_at_part.ensures

pub index_verdict-requires-clause-index : goal.index_verdict-requires-clause-index
index_verdict-requires-clause-index g c =
    let all = c.in_ok-place.ensures.none c.in-None.is in
    subst (IsValue (g.M.Ordered.monoid_of c.args.m.now)) (sym c.index.ensures) all.reduced.index

pub returns : goal.returns
returns g c =
    let m = c.args.m.now in
    let M = g.M.Ordered.monoid_of m in
    let d = g.M.DMonoid.difference m in
    let word_of = g.M.Written.word_of m in
    let words = c.args.phases.now in
    let after = g.M.Square.RowSquare.as_reduced c.first_bad.new.square in
    let all = subst (λ R. AreReplayed M d word_of words R after) c.in_ok-square.ensures (c.in_ok-place.ensures.none c.in-None.is) in
    told_index M (g.met.M.Ordered.laws m) d word_of c.args.start c.args.value words c.requires.unit after all
    (g.M.Written.value_of m) (g.met.M.Written.word_laws m) c.index_verdict.result
    (subst (λ i. ((i ≡ c.args.value) × (c.index_verdict.result ≡ Yes)) ⊎ ((i ≢ c.args.value) × (c.index_verdict.result ≡ No 7 (pos 0)))) c.index.ensures c.index_verdict.ensures)
