use Rattle.asg_kept.proofs.Common.{Some, sym, ap, ◌∙◌, arith, slice_get-get_or, AreValuesOf-masked}
use Rattle.asg_kept.proofs.masked.MaskedValueRowSquare.value.Goals as goal

pub returns : goal.returns
returns g c =
    let Q = c.args.self.now.square.now.now in
    let words = c.args.self.now.words.now in
    let values = c.row_values.result.now in
    let x = c.index-row_values-column.result in
    let are = AreValuesOf-masked Q words c.args.row values c.row_values.ensures in
    sym (are.each c.args.column c.requires.present)
    ∙ slice_get-get_or values c.args.column x (omega (arith, c.requires.column, are.count))
    ∙ ap Some (sym c.index-row_values-column.is)
