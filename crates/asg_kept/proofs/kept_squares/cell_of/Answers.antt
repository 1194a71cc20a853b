use Rattle.asg_kept.proofs.Common.{sym, ◌∙◌, arith, cell_at}
use Rattle.asg_kept.proofs.RowLemmas.{bit_some, bit_none}
use Rattle.asg_kept.proofs.kept_squares.cell_of.Goals as goal

pub row_word-requires-clause-number : goal.row_word-requires-clause-number
row_word-requires-clause-number g c = omega (arith, c.requires.column)

pub value-requires-clause-present : goal.value-requires-clause-present
value-requires-clause-present g c =
    bit_some (cell_at (g.S.RowSquare.as_reduced c.args.square.now).now c.args.row) c.args.column c.row_word.result c.row_word.ensures (sym c.has_bit.ensures ∙ c.if-has_bit.true)

pub returns-then-has_bit : goal.returns-then-has_bit
returns-then-has_bit g c = sym c.value.ensures

pub returns-else-has_bit : goal.returns-else-has_bit
returns-else-has_bit g c =
    sym (bit_none (cell_at (g.S.RowSquare.as_reduced c.args.square.now).now c.args.row) c.args.column c.row_word.result c.row_word.ensures (sym c.has_bit.ensures ∙ c.if-has_bit.false))
