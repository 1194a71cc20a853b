use Rattle.asg_rank.proofs.Common.{◌≡◌, ◌-◌, ◌*◌, ap, arith, placed}
use Rattle.asg_rank.proofs.Sizes.{children_fit, rest_few}
use Rattle.asg_rank.proofs.opening.record_count.Goals as goal

pub overflow_add-result : goal.overflow_add-result
overflow_add-result c =
    let X = c.args.inst.now in
    let room = c.args.room in
    let fit = children_fit X c.rows-rows.ensures.instance room c.requires.work in
    let rest = rest_few room (placed X) in
    let times : (room - 1) * c.placed.result ≡ (room - 1) * placed X = ap (λ n. (room - 1) * n) c.placed.ensures in
    let side = c.side.ensures.side in
    let small = c.requires.side in
    omega (arith, times, rest, fit, side, small)
