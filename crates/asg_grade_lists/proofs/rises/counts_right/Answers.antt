use Rattle.asg_grade_lists.proofs.Common.{[], ◌∷◌, subst, CountsRight, phase_of}
use Rattle.asg_grade_lists.proofs.rises.counts_right.Goals as goal

pub returns-clause-right : goal.returns-clause-right
returns-clause-right c = λ yes.
    subst (λ n. CountsRight n (phase_of (0 ∷ []) c.args.enters.now c.args.leaves.now)) c.in_ok-totals.ensures.side
    (c.put_before.ensures.taken.0 yes).right
