use Rattle.asg_settling.proofs.Common.{◌≡◌, ◌+◌, ◌<◌, ◌≤◌, length, slice_index, option_map, sym, refl, ap, ◌∙◌, subst, inl, inr, ⊎_elim, arith, cases_order, settled, same_labels, chained_labels, cut_marks, waiting_marks, cell_at}
use Rattle.asg_admit.specs.laws.ProductLemmas.{across_at}
use Rattle.asg_settling.proofs.settling.settle_waiting_row.Goals as goal

pub loop-column-init : goal.loop-column-init
loop-column-init g c =
    let m = c.args.m.now in
    let Q = c.args.square.now in
    let steps = c.args.steps.now in
    let first = c.requires.next 0 (omega arith) in
    let within : slice_index c.args.next.now 0 ≤ Q.side = omega (arith, first.within, c.requires.leaves) in
    record {
      labels = same_labels Q;
      within = within;
      done = λ k h.
          waiting_marks (g.M.Ordered.monoid_of m) (g.met.M.Ordered.laws m) (g.M.DMonoid.difference m) (g.met.M.DMonoid.difference_laws m) c.differences.ensures.twice
          steps c.requires.values (length steps) (slice_index c.args.leaves.now k) (omega arith) (first.stays k (omega arith) h) (cell_at Q c.args.row k)
          (c.requires.cells k (omega (arith, h, within)));
      rest = λ k h. refl;
      others = λ r k n. refl;
    }

pub settle_cell-requires-clause-product : goal.settle_cell-requires-clause-product
settle_cell-requires-clause-product g c =
    let m = c.args.m.now in
    let i = c.index-room-leave in
    across_at (g.M.Ordered.monoid_of m) (g.met.M.Ordered.laws m) (g.M.DMonoid.difference m) (g.met.M.DMonoid.difference_laws m) c.differences.ensures.twice
    c.args.steps.now c.requires.values c.args.room.now (length c.args.steps.now) c.cut-leave.result c.requires.products c.requires.room (omega (arith, c.cut-leave.ensures)) i.result i.is

pub settle_cell-requires-clause-value : goal.settle_cell-requires-clause-value
settle_cell-requires-clause-value g c = λ x is.
    let l = c.loop-column in
    let inv = l.invariant in
    c.requires.cells l.column (omega (arith, c.loop-column-test.true, c.side-side.ensures.side)) x (sym (inv.rest l.column (omega arith)) ∙ is)

pub loop-column-preserved : goal.loop-column-preserved
loop-column-preserved g c =
    let m = c.args.m.now in
    let M = g.M.Ordered.monoid_of m in
    let d = g.M.DMonoid.difference m in
    let Q = c.args.square.now in
    let steps = c.args.steps.now in
    let leaves = c.args.leaves.now in
    let row = c.args.row in
    let l = c.loop-column in
    let inv = l.invariant in
    let new = c.settle_cell.new.square in
    let w = c.settle_cell.ensures in
    let below : l.column < Q.side = omega (arith, c.loop-column-test.true, c.side-side.ensures.side) in
    let after = c.requires.next (l.column + 1) (omega (arith, below, c.requires.leaves)) in
    let within : slice_index c.args.next.now (l.column + 1) ≤ Q.side = omega (arith, after.within, c.requires.leaves) in
    record {
      labels = chained_labels Q l.square new inv.labels w.labels;
      within = within;
      done = λ k h.
          ⊎_elim
          (λ (here : k ≡ l.column).
          subst (λ i. cell_at new row i ≡ option_map (settled M d steps (length steps) (slice_index leaves i)) (cell_at Q row i)) (sym here)
          (w.here
          ∙ cut_marks M (g.met.M.Ordered.laws m) d (g.met.M.DMonoid.difference_laws m) c.differences.ensures.twice steps c.requires.values
          (length steps) (slice_index leaves l.column) (length steps) c.cut-leave.result (omega arith) c.cut-leave.ensures (cell_at l.square row l.column)
          ∙ ap (option_map (settled M d steps (length steps) (slice_index leaves l.column))) (inv.rest l.column (omega arith))))
          (⊎_elim
          (λ (before : k < l.column). w.others row k (inr (λ e. omega (arith, e, before))) ∙ inv.done k before)
          (λ (later : l.column < k).
          w.others row k (inr (λ e. omega (arith, e, later)))
          ∙ inv.rest k (omega (arith, later))
          ∙ waiting_marks M (g.met.M.Ordered.laws m) d (g.met.M.DMonoid.difference_laws m) c.differences.ensures.twice
          steps c.requires.values (length steps) (slice_index leaves k) (omega arith) (after.stays k (omega (arith, later)) h) (cell_at Q row k)
          (c.requires.cells k (omega (arith, h, within)))))
          (cases_order k l.column);
      rest = λ k h. w.others row k (inr (λ e. omega (arith, e, h, after.onward))) ∙ inv.rest k (omega (arith, h, after.onward));
      others = λ r k n. w.others r k (inl n) ∙ inv.others r k n;
    }

pub settle_cell-requires-clause-values : goal.settle_cell-requires-clause-values
settle_cell-requires-clause-values g c = c.requires.values

pub settle_cell-requires-clause-row : goal.settle_cell-requires-clause-row
settle_cell-requires-clause-row g c = omega (arith, c.requires.row, c.loop-column.invariant.labels.side)

pub settle_cell-requires-clause-column : goal.settle_cell-requires-clause-column
settle_cell-requires-clause-column g c = omega (arith, c.loop-column-test.true, c.side-side.ensures.side, c.loop-column.invariant.labels.side)

pub settle_cell-requires-clause-enter : goal.settle_cell-requires-clause-enter
settle_cell-requires-clause-enter g c = omega arith

pub settle_cell-requires-clause-leave : goal.settle_cell-requires-clause-leave
settle_cell-requires-clause-leave g c = omega (arith, c.cut-leave.ensures)
