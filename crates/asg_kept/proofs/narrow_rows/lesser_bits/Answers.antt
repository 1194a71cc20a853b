use Rattle.asg_kept.proofs.Common.{arith}
use Rattle.asg_kept.proofs.LesserLemmas.{joined}
use Rattle.asg_kept.proofs.narrow_rows.lesser_bits.Goals as goal

pub returns : goal.returns
returns c =
    let base = c.args.base in
    let values = c.args.values.now in
    let columns = c.args.columns.now in
    let keys = c.args.keys.now in
    let first = c.lanes_lesser-first in
    let second = c.lanes_lesser-second in
    let third = c.lanes_lesser-third in
    let fourth = c.lanes_lesser-fourth in
    let two = joined base values columns keys 16 first.result second.result (omega arith) second.ensures.few first.ensures.bits second.ensures.bits in
    let three = joined base values columns keys 32 _ third.result (omega arith) third.ensures.few two third.ensures.bits in
    joined base values columns keys 48 _ fourth.result (omega arith) fourth.ensures.few three fourth.ensures.bits
