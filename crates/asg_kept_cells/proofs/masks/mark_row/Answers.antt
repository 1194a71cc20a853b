use Rattle.asg_kept_cells.proofs.Common.{true, keeps_alone, keeps_others, keeps_label}
use Rattle.asg_kept_cells.proofs.CopyLemmas.{in_order}
use Rattle.asg_kept_cells.proofs.KeptRows.{label_after, label_alone, label_lost, marks_alike}
use Rattle.asg_kept_cells.proofs.masks.mark_row.Goals as goal

pub keep_others-requires-clause-order : goal.keep_others-requires-clause-order
keep_others-requires-clause-order g c = in_order c.args.inst.now c.args.square.now c.requires.labels

pub returns-then-branch-number : goal.returns-then-branch-number
returns-then-branch-number g c =
    let Q = c.args.square.now in
    marks_alike Q.column_labels Q.side c.args.row (λ _. true) (keeps_label c.args.branch c.args.number c.args.chosen) c.args.kept.now c.keep_all.new.kept
    (label_after c.args.branch c.args.number c.args.chosen c.if-branch-number.true) c.keep_all.ensures

pub returns-then-number-branch : goal.returns-then-number-branch
returns-then-number-branch g c =
    let Q = c.args.square.now in
    marks_alike Q.column_labels Q.side c.args.row (keeps_alone c.args.chosen) (keeps_label c.args.branch c.args.number c.args.chosen) c.args.kept.now c.keep_alone.new.kept
    (label_alone c.args.branch c.args.number c.args.chosen c.if-number-branch.true) c.keep_alone.ensures

pub returns : goal.returns
returns g c =
    let Q = c.args.square.now in
    marks_alike Q.column_labels Q.side c.args.row (keeps_others c.args.chosen) (keeps_label c.args.branch c.args.number c.args.chosen) c.args.kept.now c.keep_others.new.kept
    (label_lost c.args.branch c.args.number c.args.chosen c.if-branch-number.false c.if-number-branch.false) c.keep_others.ensures
