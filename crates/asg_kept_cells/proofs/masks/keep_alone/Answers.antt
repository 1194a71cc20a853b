use Rattle.asg_kept_cells.proofs.Common.{true, subst, PutsColumns}
use Rattle.asg_kept_cells.proofs.CopyLemmas.{in_order}
use Rattle.asg_kept_cells.proofs.KeptRows.{alone_kept}
use Rattle.asg_kept_cells.proofs.masks.keep_alone.Goals as goal

pub copies_of-copies-requires : goal.copies_of-copies-requires
copies_of-copies-requires g c = in_order c.args.inst.now c.args.square.now c.requires.labels

pub returns : goal.returns
returns g c =
    let Q = c.args.square.now in
    let alone = c.put_only.new.self in
    let after = c.put_columns.new.self in
    let copies = c.copies_of-copies in
    let count = c.copy_count-count in
    alone_kept Q.column_labels Q.side c.args.row c.args.kept.now c.requires.size alone after c.args.chosen copies.result copies.ensures
    count.result count.ensures.copies c.put_only.ensures
    (subst (λ n. PutsColumns alone after c.args.row count.result n true) c.side-side.ensures.side c.put_columns.ensures)
