use Rattle.asg_trees.proofs.Common.{sym, subst, JudgesOpen, Judgement}
use Rattle.asg_trees.proofs.OpenLemmas.{open_judged}
use Rattle.asg_trees.proofs.marks.judge_open.Goals as goal

pub returns-in-Some : goal.returns-in-Some
returns-in-Some g c =
    let m = c.args.m.now in
    let have = rw c.in-Some.is at c.in_ok-index.ensures.some in
    subst (λ (j : Judgement). JudgesOpen (g.M.Ordered.monoid_of m) (g.M.DMonoid.difference m) (g.M.Written.word_of m) c.args.last c.args.square.now c.args.kept.now c.args.before c.args.own.now j) (sym c.open_judgement.ensures)
    (open_judged (g.M.Ordered.monoid_of m) (g.M.DMonoid.difference m) (g.M.Written.word_of m) (g.M.Written.value_of m) (g.met.M.Written.word_laws m) c.args.square.now c.args.kept.now c.args.before c.args.own.now
    c.args.last c.in-Some.index have c.is_at_most.result c.is_at_most.ensures)
