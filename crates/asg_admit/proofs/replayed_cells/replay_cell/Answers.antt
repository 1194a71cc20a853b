use Rattle.asg_admit.proofs.Common.{◌∙◌}
use Rattle.asg_admit.specs.laws.ReplayLemmas.{if_some, cut_settled, allows_cut, refuses_cut}
use Rattle.asg_admit.proofs.replayed_cells.replay_cell.Goals as goal

pub returns-then-leave-enter-clause-settled : goal.returns-then-leave-enter-clause-settled
returns-then-leave-enter-clause-settled g c =
    let m = c.args.m.now in
    c.settled_value.ensures.settled
    ∙ cut_settled (g.M.Ordered.monoid_of m) (g.met.M.Ordered.laws m) (g.M.DMonoid.difference m) (g.met.M.DMonoid.difference_laws m) c.differences.ensures.twice
    c.args.steps.now c.args.enter c.args.leave c.cut-enter.result c.cut-leave.result c.cut-enter.ensures c.cut-leave.ensures c.args.x

pub returns-else-leave-enter-clause-settled : goal.returns-else-leave-enter-clause-settled
returns-else-leave-enter-clause-settled g c =
    let m = c.args.m.now in
    if_some c.lessened.result
    (λ y e. e ∙ cut_settled (g.M.Ordered.monoid_of m) (g.met.M.Ordered.laws m) (g.M.DMonoid.difference m) (g.met.M.DMonoid.difference_laws m) c.differences.ensures.twice
    c.args.steps.now c.args.enter c.args.leave c.cut-enter.result c.cut-leave.result c.cut-enter.ensures c.cut-leave.ensures c.args.x)
    c.lessened.ensures.settled

pub returns-else-leave-enter-clause-allowed : goal.returns-else-leave-enter-clause-allowed
returns-else-leave-enter-clause-allowed g c = λ some.
    let m = c.args.m.now in
    allows_cut (g.M.Ordered.monoid_of m) (g.met.M.Ordered.laws m) (g.M.DMonoid.difference m) (g.met.M.DMonoid.difference_laws m) c.differences.ensures.twice
    c.args.steps.now c.args.enter c.args.leave c.cut-enter.result c.cut-leave.result c.cut-enter.ensures c.cut-leave.ensures c.args.x (c.lessened.ensures.allowed some)

pub returns-else-leave-enter-clause-refused : goal.returns-else-leave-enter-clause-refused
returns-else-leave-enter-clause-refused g c = λ none.
    let m = c.args.m.now in
    refuses_cut (g.M.Ordered.monoid_of m) (g.met.M.Ordered.laws m) (g.M.DMonoid.difference m) (g.met.M.DMonoid.difference_laws m) c.differences.ensures.twice
    c.args.steps.now c.args.enter c.args.leave c.cut-enter.result c.cut-leave.result c.cut-enter.ensures c.cut-leave.ensures c.args.x (c.lessened.ensures.refused none)
