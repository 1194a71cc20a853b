use Rattle.asg_kept_cells.proofs.Common.{true, subst, PutsColumns}
use Rattle.asg_kept_cells.proofs.KeptRows.{all_kept}
use Rattle.asg_kept_cells.proofs.masks.keep_all.Goals as goal

pub returns : goal.returns
returns g c =
    let Q = c.args.square.now in
    let kept = c.args.kept.now in
    let after = c.put_columns.new.self in
    all_kept Q.column_labels Q.side c.args.row kept c.requires.size after
    (subst (λ n. PutsColumns kept after c.args.row 0 n true) c.side-side.ensures.side c.put_columns.ensures)
