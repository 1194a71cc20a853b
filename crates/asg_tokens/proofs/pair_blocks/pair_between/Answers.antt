use Rattle.asg_tokens.proofs.Common.{◌≡◌, ◌<◌, length, slice_index, arith}
use Rattle.asg_tokens.proofs.BlockPairs.{pair_from}
use Rattle.asg_tokens.proofs.pair_blocks.pair_between.Goals as goal

pub returns : goal.returns
returns c =
    let text = c.args.text.now in
    let within : c.args.colon < length text = omega (arith, c.requires.second, c.requires.long) in
    let is : slice_index text c.args.colon ≡ 58 = omega (arith, c.if-text-colon-ne58.false) in
    pair_from text c.args.start c.args.colon c.args.end c.in_ok-a.a c.in_ok-b.b within is c.in_ok-a.ensures c.in_ok-b.ensures.amount c.in_ok-b.ensures.space
