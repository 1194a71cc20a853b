use Rattle.asg_kept_cells.proofs.Common.{true, subst, PutsColumns}
use Rattle.asg_kept_cells.proofs.KeptRows.{others_kept}
use Rattle.asg_kept_cells.proofs.masks.keep_others.Goals as goal

pub returns : goal.returns
returns g c =
    let Q = c.args.square.now in
    let kept = c.args.kept.now in
    let whole = c.put_columns.new.self in
    let copies = c.copies_of-copies in
    others_kept Q.column_labels Q.side c.args.row kept c.requires.size whole c.put_columns-2.new.self c.args.chosen copies.result copies.ensures
    (subst (λ n. PutsColumns kept whole c.args.row 0 n true) c.side-side.ensures.side c.put_columns.ensures) c.put_columns-2.ensures
