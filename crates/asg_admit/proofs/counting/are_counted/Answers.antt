use Rattle.asg_admit.proofs.Common.{◌≡◌, ◌+◌, ◌<◌, length, arith, never, entered_at, staying_at, count_below}
use Rattle.asg_admit.proofs.CountLemmas.{counted_by_balance, balance_by_counts}
use Rattle.asg_admit.proofs.counting.are_counted.Goals as goal

pub returns-then-entered-staying : goal.returns-then-entered-staying
returns-then-entered-staying c =
    never (λ counted. c.if-entered-staying.true
    (let some : 0 < c.args.end = omega (arith, c.if-end-eq0.false) in
    let first = counted 0 some in
    omega (arith, first, c.entered.ensures.count, c.staying.ensures.count)))

pub returns : goal.returns
returns c =
    let enters = c.args.enters.now in
    let leaves = c.args.leaves.now in
    let first : count_below (entered_at enters 0) (length enters) + count_below (staying_at leaves 0) (length leaves) ≡ length enters + 1 =
    omega (arith, c.if-entered-staying.false, c.entered.ensures.count, c.staying.ensures.count) in (
      λ ok. counted_by_balance enters leaves c.args.end first (c.are_balanced.ensures.0 ok),
      λ counted. c.are_balanced.ensures.1 (balance_by_counts enters leaves c.args.end counted),
    )
