use Rattle.asg_square.specs.Grid.{cell_at}
use Rattle.asg_duals.proofs.TightLemmas.{above_present}
use Rattle.asg_duals.proofs.tightness.row_is_above.Goals as goal

pub returns : goal.returns
returns c h =
    above_present (cell_at c.args.square.now c.args.row) c.args.square.now.side c.row_values.result.now c.row_words.result.now c.args.rises.now c.args.fall c.row_values.ensures c.row_words.ensures (c.words_are_above.ensures h)
