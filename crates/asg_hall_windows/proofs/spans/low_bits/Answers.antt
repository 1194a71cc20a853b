use Rattle.asg_hall_windows.proofs.Common.{◌%◌, arith, HasBit, HasBit-and}
use Rattle.asg_hall_windows.proofs.spans.low_bits.Goals as goal

pub returns-then-from-to : goal.returns-then-from-to
returns-then-from-to c w from below word =
    let low = c.other_bits-low.ensures (w % 64) (omega arith) (λ bit. let under = ((c.first_bits.ensures (w % 64)).0 bit).0 in absurd (omega (arith, under, from, word))) in
    let high = c.high_bits.ensures w below (omega (arith, word, c.if-from-to.true)) in
    (HasBit-and c.other_bits-low.result c.high_bits.result (w % 64)).1 (low, high)

pub returns : goal.returns
returns c w from below word =
    c.other_bits-low.ensures (w % 64) (omega arith) (λ bit. let under = ((c.first_bits.ensures (w % 64)).0 bit).0 in absurd (omega (arith, under, from, word)))
