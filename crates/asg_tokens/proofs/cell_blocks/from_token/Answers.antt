use Rattle.asg_tokens.proofs.Common.{sym, ◌∙◌}
use Rattle.asg_tokens.proofs.BlockCells.{tokens_behind}
use Rattle.asg_tokens.proofs.cell_blocks.from_token.Goals as goal

pub returns-in-Some : goal.returns-in-Some
returns-in-Some c = c.skip.ensures.same ∙ sym (tokens_behind c.in-Some.ensures)
