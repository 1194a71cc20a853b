use Rattle.asg_tokens.proofs.Common.{◌≡◌, slice_index, sym, arith}
use Rattle.asg_tokens.proofs.BlockCells.{absent_cell_at}
use Rattle.asg_tokens.proofs.cell_blocks.absent_at.Goals as goal

pub returns-clause-cell : goal.returns-clause-cell
returns-clause-cell c =
    let text = c.args.text.now in
    let minus : slice_index text c.args.place ≡ 45 = omega (arith, c.if-text-place-ne45.false) in
    absent_cell_at text c.args.place (omega (arith, c.requires.block, c.requires.long)) minus (sym c.if-not-is_space.ensures)
