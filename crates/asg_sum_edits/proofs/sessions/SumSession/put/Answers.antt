use Rattle.asg_sum_edits.proofs.Common.{sym, subst, IsSession}
use Rattle.asg_sum_edits.proofs.EditedFound.{session_put}
use Rattle.asg_sum_edits.proofs.sessions.SumSession.put.Goals as goal

pub invariant_of-self : goal.invariant_of-self
invariant_of-self c =
    let old = c.self.inside in
    let after = c.follow-self-inside.new.found in
    let knows = c.follow-self-inside.result in
    subst (λ Y. IsSession old.objective Y old.stands knows after) (sym c.in-Ok.ensures.edited)
    (session_put old.objective old.inst c.args.row c.args.col c.in-Some-Some.r c.in-Some-Some.c c.args.cost old.found after old.stands old.is_known knows (sym c.in-Some-Some.ensures.place) (sym c.in-Some-Some.ensures'.place) c.self.invariant c.follow-self-inside.ensures)
