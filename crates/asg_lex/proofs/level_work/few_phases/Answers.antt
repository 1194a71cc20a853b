use Rattle.asg_lex.proofs.Common.{bit_square, HasSide-bits, numbers_of}
use Rattle.asg_lex.proofs.WorkSteps.{HasValues-bits, phases_few}
use Rattle.asg_lex.proofs.level_work.few_phases.Goals as goal

pub returns : goal.returns
returns c =
    let u = c.requires.underway in
    let w = c.args.work.now in
    let side = c.args.side in
    let phases = numbers_of w.phases.items in
    let p = c.requires.perfect.0 in
    phases_few side w.zeros w.ones phases _ p
    (c.phases_law.ensures.bound side phases (bit_square w.zeros w.ones) p (HasSide-bits side w.zeros w.ones u.zeros u.ones) (HasValues-bits side w.zeros w.ones) u.admitted c.requires.perfect.1)
    u.index
