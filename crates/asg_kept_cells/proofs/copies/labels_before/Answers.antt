use Rattle.asg_kept_cells.proofs.Common.{◌+◌, ◌-◌, ◌/◌, ◌<◌, ◌≤◌, None, sym, ap, ◌∙◌, ⊎_elim, arith, le-ltb, lt-ltb, cases_lt, get_or_from_slice_get, get_or_past, is_before}
use Rattle.asg_kept_cells.proofs.CopyLemmas.{all_before, none_after}
use Rattle.asg_kept_cells.proofs.copies.labels_before.Goals as goal

pub halves-init : goal.halves-init
halves-init g c =
    let side = c.side-high.ensures.side in
    let count = c.side-high.ensures.grid.column_count in
    record {
      order = omega arith;
      upto = omega (arith, side);
      before = λ k below. absurd (omega (arith, below));
      from = λ k past. ap (is_before c.args.place) (get_or_past c.args.square.now.column_labels k None (omega (arith, past, side, count)));
    }

pub halves-preserved-then-is_before : goal.halves-preserved-then-is_before
halves-preserved-then-is_before g c =
    let labels = c.args.square.now.column_labels in
    let inv = c.halves.invariant in
    let middle = c.halves.low + (c.halves.high - c.halves.low) / 2 in
    let label = get_or_from_slice_get labels middle c.column_label.result None c.column_label.ensures in
    let is = ap (is_before c.args.place) label ∙ sym c.is_before.ensures ∙ c.if-is_before.true in
    record {
      order = omega (arith, c.halves-test.true);
      upto = inv.upto;
      before = all_before labels c.requires c.args.place middle is;
      from = inv.from;
    }

pub halves-preserved : goal.halves-preserved
halves-preserved g c =
    let labels = c.args.square.now.column_labels in
    let inv = c.halves.invariant in
    let middle = c.halves.low + (c.halves.high - c.halves.low) / 2 in
    let label = get_or_from_slice_get labels middle c.column_label.result None c.column_label.ensures in
    let is = ap (is_before c.args.place) label ∙ sym c.is_before.ensures ∙ c.if-is_before.false in
    record {
      order = omega (arith, c.halves-test.true);
      upto = omega (arith, c.halves-test.true, inv.upto);
      before = inv.before;
      from = none_after labels c.requires c.args.place middle is;
    }

pub returns-clause-labels : goal.returns-clause-labels
returns-clause-labels g c k =
    let inv = c.halves.invariant in
    let low = c.halves.low in
    ⊎_elim
    (λ (below : k < low). inv.before k below ∙ sym (lt-ltb k low below))
    (λ (past : low ≤ k). inv.from k (omega (arith, past, c.halves-test.false)) ∙ sym (le-ltb k low past))
    (cases_lt k low)
