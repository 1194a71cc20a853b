use Rattle.asg_kept.proofs.Common.{◌+◌, ◌-◌, ◌%◌, slice_index, sym, ap, ◌∙◌, arith, read_is}
use Rattle.asg_kept.proofs.dual_rows.value_at.Goals as goal

pub returns : goal.returns
returns g c =
    let N = g.N.SumNumber in
    let law = g.met.N.SumNumber.numbers_law in
    let k = c.args.column in
    let values = c.args.values.now in
    let row = N.number c.args.row in
    let value = c.index-values-column.result in
    let column = c.index-columns-column.result in
    c.wrapping_minus.ensures
    ∙ ap (λ x. (x + (N.width - N.number column)) % N.width) c.wrapping_plus.ensures
    ∙ ap (λ x. ((x + row) % N.width + (N.width - N.number column)) % N.width) (read_is law values k value c.requires.column c.index-values-column.is)
    ∙ ap (λ x. ((slice_index (N.numbers values) k + row) % N.width + (N.width - x)) % N.width) (read_is law c.args.columns.now k column (omega (arith, c.requires.column, c.requires.columns)) c.index-columns-column.is)
