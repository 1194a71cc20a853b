use Rattle.asg_kept_cells.proofs.Common.{arith}
use Rattle.asg_kept_cells.proofs.MaskLemmas.{rows_apart, rows_done, rows_more}
use Rattle.asg_kept_cells.proofs.masks.mark_rows.Goals as goal

pub loop-row-init : goal.loop-row-init
loop-row-init g c =
    let Q = c.args.square.now in
    record {
      number = c.requires.start.number;
      marks = rows_apart c.args.inst.now c.args.choice.now Q.column_labels Q.side c.args.branch c.args.from c.args.to c.args.start.row c.args.kept.now c.requires.size c.requires.apart;
      front = c.requires.start;
    }

pub loop-row-preserved : goal.loop-row-preserved
loop-row-preserved g c =
    let Q = c.args.square.now in
    let l = c.loop-row in
    let marked = c.mark_active-number in
    record {
      number = marked.ensures.number;
      marks = rows_more c.args.inst.now c.args.choice.now Q.column_labels Q.side c.args.branch c.args.from c.args.to l.row c.args.kept.now l.kept marked.new.kept l.invariant.marks marked.ensures.marks;
      front = record { row = omega (arith, c.loop-row-test.true, c.requires.choice, c.len-row-end.ensures); number = l.invariant.number };
    }

pub returns-then-to-number-clause-marks : goal.returns-then-to-number-clause-marks
returns-then-to-number-clause-marks g c =
    let Q = c.args.square.now in
    let l = c.loop-row in
    rows_done c.args.inst.now c.args.choice.now Q.column_labels Q.side c.args.branch c.args.from c.args.to l.row c.args.kept.now l.kept
    (omega (arith, c.loop-row-test.true, c.requires.choice, c.len-row-end.ensures)) (omega (arith, c.if-to-number.true, l.invariant.number)) l.invariant.marks
