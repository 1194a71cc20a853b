use Rattle.asg_tokens.proofs.BlockPairs.{no_pairs_more, pairs_past_spaces, read_pairs_further}
use Rattle.asg_tokens.proofs.pair_blocks.read_pair_blocks.Goals as goal

pub runs-init : goal.runs-init
runs-init c = no_pairs_more c.args.from.rest.now c.args.from.place c.args.firsts.now.items c.args.seconds.now.items c.requires

pub runs-preserved : goal.runs-preserved
runs-preserved c = pairs_past_spaces (read_pairs_further c.runs.invariant c.read_pair_block-block.ensures) c.from_token-rest.ensures

pub returns-then-found-lt-FEW_PAIRS : goal.returns-then-found-lt-FEW_PAIRS
returns-then-found-lt-FEW_PAIRS c = read_pairs_further c.runs.invariant c.read_pair_block-block.ensures
