use Rattle.asg_cell_tables.proofs.Common.{ℕ, ◌<◌, get_or, None, sym, ap, ◌∙◌, subst, table_at, is_present_at, FillsRow, labelled_cell, is_labelled_within, Whole}
use Rattle.asg_cell_tables.proofs.TableFilling.{row_more}
use Rattle.asg_cell_tables.proofs.cells.fill_cells.Goals as goal

pub loop-r-preserved : goal.loop-r-preserved
loop-r-preserved g c =
    let X = c.args.inst.now in
    let i = c.loop-r.invariant in
    let now = c.loop-r.cells in
    let after = c.fill_row.new.cells in
    let r = c.loop-r.r in
    let rows = c.args.rows.now in
    let labels = c.column_labels-labels.ensures in
    record {
      side = c.fill_row.ensures.side ∙ i.side;
      table = c.fill_row.ensures.table;
      cells = λ entered enters s d below within.
          let cell = λ (k : ℕ). labelled_cell X c.args.free entered (get_or rows k None) (get_or c.args.columns.now d None) in
          (subst (λ list. FillsRow now.side (table_at now) (table_at after) r list (labelled_cell X c.args.free entered (get_or rows r None))) labels (c.fill_row.ensures.row entered enters)) s d (subst (λ (n : ℕ). d < n) (sym i.side) within)
          ∙ row_more s r (cell r) (table_at now s d) (cell s) below
          (λ before. i.cells entered enters s d before within)
          (λ here. ap cell (sym here));
      present = λ s d below within.
          let has = λ (k : ℕ). is_labelled_within X Whole (get_or rows k None) (get_or c.args.columns.now d None) in
          (subst (λ list. FillsRow now.side (is_present_at now) (is_present_at after) r list (is_labelled_within X Whole (get_or rows r None))) labels c.fill_row.ensures.present) s d (subst (λ (n : ℕ). d < n) (sym i.side) within)
          ∙ row_more s r (has r) (is_present_at now s d) (has s) below
          (λ before. i.present s d before within)
          (λ here. ap has (sym here));
    }
