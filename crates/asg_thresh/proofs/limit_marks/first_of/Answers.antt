use Rattle.asg_model.proofs.Kit.{◌≡◌, arith, bit_and, bit_at, eqb-true}
use Rattle.std.proofs.lemmas.Nat.Bits.{bit_at_and, bit_at-lt}
use Rattle.asg_thresh.proofs.limit_marks.first_of.Goals as goal

pub returns : goal.returns
returns c k is =
    let first = c.first_bits.result in
    let both = bit_at_and c.args.word first k in
    let has : bit_at (bit_and c.args.word first) k ≡ 1 = eqb-true (bit_at (bit_and c.args.word first) k) 1 is in
    ((c.first_bits.ensures k).0 (omega (arith, both, has, bit_at-lt first k))).0
