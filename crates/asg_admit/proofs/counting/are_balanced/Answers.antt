use Rattle.asg_admit.proofs.Common.{◌*◌, arith, not_both, never}
use Rattle.asg_admit.proofs.CountLemmas.{balance_more, balance_part}
use Rattle.asg_admit.proofs.counting.are_balanced.Goals as goal

pub loop-window-preserved : goal.loop-window-preserved
loop-window-preserved c = λ i h k.
    balance_more c.args.enters.now c.args.leaves.now (2000 * c.loop-window.window) c.min.result c.args.count c.min.ensures c.loop-window.invariant
    (c.is_window_balanced.ensures.0 c.if-not-is_window_balanced.false) i (omega (arith, h)) k

pub returns-then-not-is_window_balanced : goal.returns-then-not-is_window_balanced
returns-then-not-is_window_balanced c =
    never (λ all. not_both c.is_window_balanced.result
    (c.is_window_balanced.ensures.1 (balance_part c.args.enters.now c.args.leaves.now (2000 * c.loop-window.window) c.min.result c.args.count c.min.ensures all))
    c.if-not-is_window_balanced.true)
