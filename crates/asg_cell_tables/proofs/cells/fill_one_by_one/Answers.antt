use Rattle.asg_cell_tables.proofs.Common.{◌≡◌, ℕ, ◌+◌, ◌*◌, ◌<◌, ◌≤◌, get_or, is_some, None, sym, ap, ◌∙◌, subst, arith, IsCellTable, table_at, is_present_at, labelled_cell, is_labelled_within, Whole}
use Rattle.asg_cell_tables.proofs.TableFilling.{FilledTo, filled_more, filled_row, set_at, set_present_at, set_is_table}
use Rattle.asg_cell_tables.proofs.cells.fill_one_by_one.Goals as goal

pub loop-c-preserved : goal.loop-c-preserved
loop-c-preserved g c =
    let T = c.args.cells.now in
    let i = c.loop-c.invariant in
    let now = c.loop-c.cells in
    let r = c.args.r in
    let k = c.loop-c.c in
    let x = c.labelled_cell-cell.result in
    let is = sym c.set.ensures in
    let row : r < now.side = subst (λ (n : ℕ). r < n) (sym i.side) c.requires.below in
    let column : k < now.side = subst (λ (n : ℕ). k < n) (c.side-side.ensures.side ∙ sym i.side) c.loop-c-test.true in
    record {
      side = ap (λ t. t.side) c.set.ensures ∙ i.side;
      table = subst IsCellTable is (set_is_table now (r * now.side + k) x i.table);
      cells = λ entered enters.
          let cell = λ (d : ℕ). labelled_cell c.args.inst.now c.args.free entered c.args.row (get_or c.args.columns.now d None) in
          subst (λ t. FilledTo T.side (table_at T) (table_at t) r (k + 1) cell) is
          (filled_more T.side (table_at T) (table_at now) _ r k cell x (set_at now r k x i.table row column) (c.labelled_cell-cell.ensures.cell entered enters) (i.cells entered enters));
      present =
          let has = λ (d : ℕ). is_labelled_within c.args.inst.now Whole c.args.row (get_or c.args.columns.now d None) in
          subst (λ t. FilledTo T.side (is_present_at T) (is_present_at t) r (k + 1) has) is
          (filled_more T.side (is_present_at T) (is_present_at now) _ r k has (is_some x) (set_present_at now r k x i.table row column) c.labelled_cell-cell.ensures.present i.present);
    }

pub returns-clause-row : goal.returns-clause-row
returns-clause-row g c = λ entered enters.
    let T = c.args.cells.now in
    let cell = λ (d : ℕ). labelled_cell c.args.inst.now c.args.free entered c.args.row (get_or c.args.columns.now d None) in
    let from : c.side-side.result ≤ c.loop-c.c = c.loop-c-test.false in
    let upto : c.loop-c.c ≤ c.side-side.result = c.loop-c.auto.c-end in
    let whole : c.loop-c.c ≡ T.side = omega (arith, from, upto, c.side-side.ensures.side) in
    filled_row T.side (table_at T) (table_at c.loop-c.cells) c.args.r cell
    (subst (λ (n : ℕ). FilledTo T.side (table_at T) (table_at c.loop-c.cells) c.args.r n cell) whole (c.loop-c.invariant.cells entered enters))

pub returns-clause-present : goal.returns-clause-present
returns-clause-present g c =
    let T = c.args.cells.now in
    let has = λ (d : ℕ). is_labelled_within c.args.inst.now Whole c.args.row (get_or c.args.columns.now d None) in
    let from : c.side-side.result ≤ c.loop-c.c = c.loop-c-test.false in
    let upto : c.loop-c.c ≤ c.side-side.result = c.loop-c.auto.c-end in
    let whole : c.loop-c.c ≡ T.side = omega (arith, from, upto, c.side-side.ensures.side) in
    filled_row T.side (is_present_at T) (is_present_at c.loop-c.cells) c.args.r has
    (subst (λ (n : ℕ). FilledTo T.side (is_present_at T) (is_present_at c.loop-c.cells) c.args.r n has) whole c.loop-c.invariant.present)
