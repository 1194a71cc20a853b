use Rattle.asg_nodes.proofs.Common.{◌≡◌, ◌+◌, ◌-◌, ◌/◌, ◌<◌, true, false, sym, ◌∙◌, arith, is_before}
use Rattle.asg_square.specs.laws.Rows.{copies_within}
use Rattle.asg_nodes.proofs.CopyLemmas.{first_within, stands_before, stands_from}
use Rattle.asg_nodes.proofs.copies.first_copy.Goals as goal

pub halves-init : goal.halves-init
halves-init g c =
    let side = c.side-high.ensures.side in
    record {
      order = omega arith;
      within = omega (arith, side);
      first = λ X labels.
          let some = first_within X c.args.d in
          let whole = copies_within X in (omega arith, omega (arith, some, whole, side, labels.side));
    }

pub halves-preserved-then-is_before : goal.halves-preserved-then-is_before
halves-preserved-then-is_before g c =
    let Q = c.args.square.now in
    let d = c.args.d in
    let i = c.halves.invariant in
    let test = c.halves-test.true in
    let middle = c.halves.low + (c.halves.high - c.halves.low) / 2 in
    let below : middle < Q.side = omega (arith, i.within, test) in
    let is : is_before d c.column_label.result ≡ true = sym c.is_before.ensures ∙ c.if-is_before.true in
    record {
      order = omega (arith, test);
      within = i.within;
      first = λ X labels.
          let more = stands_before X Q labels d middle c.column_label.result c.column_label.ensures below is in
          let upto = (i.first X labels).1 in (omega (arith, more), upto);
    }

pub halves-preserved : goal.halves-preserved
halves-preserved g c =
    let Q = c.args.square.now in
    let d = c.args.d in
    let i = c.halves.invariant in
    let test = c.halves-test.true in
    let middle = c.halves.low + (c.halves.high - c.halves.low) / 2 in
    let below : middle < Q.side = omega (arith, i.within, test) in
    let is : is_before d c.column_label.result ≡ false = sym c.is_before.ensures ∙ c.if-is_before.false in
    record {
      order = omega (arith, test);
      within = omega (arith, i.within, test);
      first = λ X labels. ((i.first X labels).0, stands_from X Q labels d middle c.column_label.result c.column_label.ensures below is);
    }

pub returns-clause-first : goal.returns-clause-first
returns-clause-first g c = λ X labels.
    let at = c.halves.invariant.first X labels in
    omega (arith, at.0, at.1, c.halves-test.false)

pub returns-clause-bound : goal.returns-clause-bound
returns-clause-bound g c =
    let i = c.halves.invariant in
    omega (arith, i.order, i.within, c.side-high.ensures.grid.table.few)
