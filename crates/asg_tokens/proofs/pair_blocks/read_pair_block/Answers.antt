use Rattle.asg_tokens.proofs.Common.{◌<◌, length, arith, Fits-lt-pow}
use Rattle.asg_tokens.proofs.BlockPairs.{pair_ends, one_more_pair}
use Rattle.asg_tokens.proofs.pair_blocks.read_pair_block.Goals as goal

pub pair_between-requires-clause-first : goal.pair_between-requires-clause-first
pair_between-requires-clause-first c =
    let ends = pair_ends c.args.text.now c.pairs.start c.pairs.ends (omega (arith, c.pairs-test.true)) (Fits-lt-pow c.pairs.auto.ends-fits) c.if-more-eq0.false c.pairs.invariant.none c.pairs.invariant.digits in
    ends.first

pub pair_between-requires-clause-second : goal.pair_between-requires-clause-second
pair_between-requires-clause-second c =
    let ends = pair_ends c.args.text.now c.pairs.start c.pairs.ends (omega (arith, c.pairs-test.true)) (Fits-lt-pow c.pairs.auto.ends-fits) c.if-more-eq0.false c.pairs.invariant.none c.pairs.invariant.digits in
    ends.second

pub pair_between-requires-clause-first_digits : goal.pair_between-requires-clause-first_digits
pair_between-requires-clause-first_digits c =
    let ends = pair_ends c.args.text.now c.pairs.start c.pairs.ends (omega (arith, c.pairs-test.true)) (Fits-lt-pow c.pairs.auto.ends-fits) c.if-more-eq0.false c.pairs.invariant.none c.pairs.invariant.digits in
    ends.first_digits

pub pair_between-requires-clause-second_digits : goal.pair_between-requires-clause-second_digits
pair_between-requires-clause-second_digits c =
    let ends = pair_ends c.args.text.now c.pairs.start c.pairs.ends (omega (arith, c.pairs-test.true)) (Fits-lt-pow c.pairs.auto.ends-fits) c.if-more-eq0.false c.pairs.invariant.none c.pairs.invariant.digits in
    ends.second_digits

pub pairs-smaller : goal.pairs-smaller
pairs-smaller c =
    let ends = pair_ends c.args.text.now c.pairs.start c.pairs.ends (omega (arith, c.pairs-test.true)) (Fits-lt-pow c.pairs.auto.ends-fits) c.if-more-eq0.false c.pairs.invariant.none c.pairs.invariant.digits in
    omega (arith, ends.first, ends.second, ends.low)

pub pairs-preserved : goal.pairs-preserved
pairs-preserved c =
    let ends = pair_ends c.args.text.now c.pairs.start c.pairs.ends (omega (arith, c.pairs-test.true)) (Fits-lt-pow c.pairs.auto.ends-fits) c.if-more-eq0.false c.pairs.invariant.none c.pairs.invariant.digits in
    let room : c.pairs.place < length c.pairs.firsts.items = omega (arith, c.len.ensures, c.if-place-len.true) in
    record {
      low = omega (arith, ends.low);
      none = ends.none;
      digits = ends.digits;
      read = one_more_pair c.in-Some.pair c.pairs.invariant.read room c.requires.whole c.in-Some.ensures;
    }
