use Rattle.asg_kept_phases.proofs.Common.{◌≡◌, Some, None, sym, ◌∙◌, get_or_from_slice_get, dropped_cell, closed_cell, label_of_column, column_label}
use Rattle.asg_kept_phases.proofs.TouchedCells.{touched_cost, touched_forbidden, touched_row, touched_column}
use Rattle.asg_kept_phases.proofs.edited_cells.EditedCellsChangedCellsValue.now.Goals as goal

pub returns-in-Cost : goal.returns-in-Cost
returns-in-Cost g c =
    let s = c.args.self.now in
    let free = (g.K.M.Ordered.monoid_of (g.K.Kind.monoid s.kind.now)).unit in
    (λ i. Some (c.enter.ensures.entered i))
    ∙ sym (touched_cost free (g.K.Kind.entered s.kind.now) (g.K.Kind.objective s.kind.now) s.inst.now c.rows-rows.ensures.instance c.args.r c.args.k c.requires.row c.requires.column s.edit _ _ _ c.in-Cost.is s.passes c.requires.touched)

pub returns-in-Forbid : goal.returns-in-Forbid
returns-in-Forbid g c =
    let s = c.args.self.now in
    let free = (g.K.M.Ordered.monoid_of (g.K.Kind.monoid s.kind.now)).unit in
    sym (touched_forbidden free (g.K.Kind.entered s.kind.now) (g.K.Kind.objective s.kind.now) s.inst.now c.rows-rows.ensures.instance c.args.r c.args.k c.requires.row c.requires.column s.edit _ _ c.in-Forbid.is s.passes c.requires.touched)

pub returns-in-DropRow : goal.returns-in-DropRow
returns-in-DropRow g c =
    let s = c.args.self.now in
    let X = s.inst.now in
    let free = (g.K.M.Ordered.monoid_of (g.K.Kind.monoid s.kind.now)).unit in
    let label : c.column_label.result ≡ column_label X c.args.k =
    sym (get_or_from_slice_get s.square.now.column_labels c.args.k c.column_label.result None c.column_label.ensures) ∙ label_of_column X s.square.now c.args.k s.columns c.requires.column in
    let is_free : c.unit-free.result ≡ free = c.unit-free.ensures.unit ∙ (λ i. (g.K.M.Ordered.monoid_of (c.monoid.ensures i)).unit) in
    c.dropped_cell.ensures
    ∙ (λ i. dropped_cell (c.place.ensures i) (label i) (is_free i))
    ∙ sym (touched_row free (g.K.Kind.entered s.kind.now) (g.K.Kind.objective s.kind.now) X c.rows-rows.ensures.instance c.args.r c.args.k c.requires.row c.requires.column s.edit _ c.in-DropRow.is c.requires.touched)

pub returns-in-DropColumn : goal.returns-in-DropColumn
returns-in-DropColumn g c =
    let s = c.args.self.now in
    let X = s.inst.now in
    let free = (g.K.M.Ordered.monoid_of (g.K.Kind.monoid s.kind.now)).unit in
    let is_free : c.unit-free.result ≡ free = c.unit-free.ensures.unit ∙ (λ i. (g.K.M.Ordered.monoid_of (c.monoid.ensures i)).unit) in
    c.closed_cell.ensures
    ∙ (λ i. closed_cell (c.is_counted.ensures i) (is_free i))
    ∙ sym (touched_column free (g.K.Kind.entered s.kind.now) (g.K.Kind.objective s.kind.now) X c.rows-rows.ensures.instance c.args.r c.args.k c.requires.row c.requires.column s.edit _ c.in-DropColumn.is s.passes c.requires.touched)
