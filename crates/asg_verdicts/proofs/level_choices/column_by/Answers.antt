use Rattle.asg_verdicts.proofs.LevelCommon.{◌≡◌, ◌<◌, length, get_or, None, sym, ap, ◌∙◌, subst, arith, get_or-map-range_with_len, get_or_from_slice_get, square_side, column_label, row_label, option_and_then}
use Rattle.asg_verdicts.proofs.level_choices.column_by.Goals as goal

-- the row is a row of the instance, and its column is a copy of one
pub returns-in-Some : goal.returns-in-Some
returns-in-Some c =
    let X = c.args.inst.now in
    let Q = c.args.square.now in
    let perm = c.args.perm.now in
    let row = c.args.row in
    let side = square_side X in
    let within : row < length perm = subst (λ n. row < n) (sym c.requires.columns.over) c.requires.row in
    let column = get_or perm row 0 in
    let label : c.row_label.result ≡ row_label X row =
    sym (get_or_from_slice_get Q.row_labels row c.row_label.result None c.row_label.ensures)
    ∙ ap (λ xs. get_or xs row None) c.requires.square.labels.row_labels
    ∙ get_or-map-range_with_len (row_label X) 0 side row row None c.requires.row (omega arith) in
    let there : c.column_label.result ≡ column_label X column =
    sym (get_or_from_slice_get Q.column_labels column c.column_label.result None c.column_label.ensures)
    ∙ ap (λ xs. get_or xs column None) c.requires.square.labels.column_labels
    ∙ get_or-map-range_with_len (column_label X) 0 side column column None (c.requires.columns.within row 0 within) (omega arith) in
    there ∙ ap (option_and_then (λ _. column_label X column)) (sym c.in-Some.is ∙ label)

-- it isn't one
pub returns-in-None : goal.returns-in-None
returns-in-None c =
    let X = c.args.inst.now in
    let Q = c.args.square.now in
    let row = c.args.row in
    let label : c.row_label.result ≡ row_label X row =
    sym (get_or_from_slice_get Q.row_labels row c.row_label.result None c.row_label.ensures)
    ∙ ap (λ xs. get_or xs row None) c.requires.square.labels.row_labels
    ∙ get_or-map-range_with_len (row_label X) 0 (square_side X) row row None c.requires.row (omega arith) in
    ap (option_and_then (λ _. column_label X (get_or c.args.perm.now row 0))) (sym c.in-None.is ∙ label)
