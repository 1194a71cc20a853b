use Rattle.asg_verdicts.proofs.Common.{cell_at}
use Rattle.asg_verdicts.proofs.PhaseTold.{index_value, told_have}
use Rattle.asg_verdicts.proofs.square_verdicts.square_verdict.Goals as goal

pub index_verdict-requires-clause-index : goal.index_verdict-requires-clause-index
index_verdict-requires-clause-index g c =
    let m = c.args.m.now in
    let have = rw c.in-Some.is at c.in_ok-index.ensures in
    index_value (g.M.Ordered.monoid_of m) (g.met.M.Ordered.laws m) (g.M.DMonoid.difference m) (g.M.Written.word_of m) c.args.start.now.side (cell_at c.args.start.now) c.args.value c.args.phases.now c.in-Some.index have

pub returns-in-Some : goal.returns-in-Some
returns-in-Some g c =
    let m = c.args.m.now in
    let have = rw c.in-Some.is at c.in_ok-index.ensures in
    told_have (g.M.Ordered.monoid_of m) (g.met.M.Ordered.laws m) (g.M.DMonoid.difference m) (g.M.Written.word_of m) c.args.start.now.side (cell_at c.args.start.now) c.args.value c.args.phases.now c.in-Some.index have
    (g.M.Written.value_of m) (g.met.M.Written.word_laws m) c.index_verdict.result c.index_verdict.ensures
