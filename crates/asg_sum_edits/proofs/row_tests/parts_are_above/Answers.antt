use Rattle.asg_sum_edits.proofs.TestFacts.{firsts_hold}
use Rattle.asg_sum_edits.proofs.row_tests.parts_are_above.Goals as goal

pub returns-then-are_whole_above : goal.returns-then-are_whole_above
returns-then-are_whole_above c =
    let parts = c.args.parts.now in
    λ is. firsts_hold c.args.objective parts.firsts.now parts.seconds.now c.args.fall c.args.rises.now (c.are_whole_above.ensures c.if-are_whole_above.true)
