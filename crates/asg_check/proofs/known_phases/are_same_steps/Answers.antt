use Rattle.asg_check.proofs.Common.{arith}
use Rattle.std.proofs.lemmas.List.{same_lists}
use Rattle.asg_check.proofs.known_phases.are_same_steps.Goals as goal

pub returns : goal.returns
returns c = λ _.
    same_lists c.args.steps.now c.args.others.now (c.have_same_count.ensures c.if-not-have_same_count.false)
    (λ k d h. c.steps.invariant k d (omega (arith, h, c.steps-test.false)))
