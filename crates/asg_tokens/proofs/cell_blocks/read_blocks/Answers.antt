use Rattle.asg_tokens.proofs.BlockCells.{nothing_more, past_spaces, read_further}
use Rattle.asg_tokens.proofs.cell_blocks.read_blocks.Goals as goal

pub runs-init : goal.runs-init
runs-init c =
    past_spaces (nothing_more c.args.text.now c.args.from c.args.firsts.now.items c.requires) c.from_token-rest.ensures

pub runs-preserved : goal.runs-preserved
runs-preserved c = past_spaces (read_further c.runs.invariant c.read_block-block.ensures) c.from_token-rest-in-runs.ensures

pub returns-then-found-lt-FEW : goal.returns-then-found-lt-FEW
returns-then-found-lt-FEW c = read_further c.runs.invariant c.read_block-block.ensures
