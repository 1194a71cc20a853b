use Rattle.asg_kept_cells.proofs.Common.{◌+◌, None, sym, ap, arith, get_or_from_slice_get, IsNumbered, is_active}
use Rattle.asg_kept_cells.proofs.MaskLemmas.{active_read, count_few, count_up, marked_row}
use Rattle.asg_kept_cells.proofs.masks.mark_active.Goals as goal

pub overflow_add-number : goal.overflow_add-number
overflow_add-number g c =
    let few = count_few (is_active c.args.inst.now) c.args.row in
    omega (arith, few, c.requires.before, c.requires.row, c.rows.ensures.instance.well_formed.few_rows)

pub returns-then-number-from-clause-number : goal.returns-then-number-from-clause-number
returns-then-number-from-clause-number g c =
    let active = active_read c.args.inst.now c.args.row c.rows.result.now _ c.rows.ensures.rows c.requires.row c.if-not-rows-row.false in
    count_up (is_active c.args.inst.now) c.args.row c.args.before c.requires.before active

pub returns-then-to-number-clause-number : goal.returns-then-to-number-clause-number
returns-then-to-number-clause-number g c =
    let active = active_read c.args.inst.now c.args.row c.rows.result.now _ c.rows.ensures.rows c.requires.row c.if-not-rows-row.false in
    count_up (is_active c.args.inst.now) c.args.row c.args.before c.requires.before active

pub returns-clause-number : goal.returns-clause-number
returns-clause-number g c =
    let active = active_read c.args.inst.now c.args.row c.rows.result.now _ c.rows.ensures.rows c.requires.row c.if-not-rows-row.false in
    count_up (is_active c.args.inst.now) c.args.row c.args.before c.requires.before active

pub returns-clause-marks : goal.returns-clause-marks
returns-clause-marks g c =
    let X = c.args.inst.now in
    let f = c.args.choice.now in
    let row = c.args.row in
    let active = active_read X row c.rows.result.now _ c.rows.ensures.rows c.requires.row c.if-not-rows-row.false in
    let numbered : IsNumbered X c.args.from c.args.to row = record {
      active = active;
      least = omega (arith, c.requires.before, c.if-number-from.false);
      most = omega (arith, c.requires.before, c.if-to-number.false);
    } in
    marked_row X f c.args.square.now.column_labels c.args.square.now.side c.args.branch c.args.from c.args.to row (c.args.before + 1) c.get.result c.args.kept.now c.mark_row.new.kept
    (ap (λ n. n + 1) c.requires.before)
    (sym (get_or_from_slice_get f row c.get.result None c.get.ensures))
    numbered c.mark_row.ensures
