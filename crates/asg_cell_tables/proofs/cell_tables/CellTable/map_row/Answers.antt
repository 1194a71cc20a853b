use Rattle.asg_cell_tables.proofs.Common.{ℕ, ◌<◌, sym, ap, subst, CellTable, entry_at, stored_cells, MapsTableRow, MayMapRow}
use Rattle.asg_cell_tables.proofs.ChangeLemmas.{words_count, may_change, mapped_stored, maps_row}
use Rattle.asg_cell_tables.proofs.TableLemmas.{is_table, row_fits}
use Rattle.asg_cell_tables.proofs.cell_tables.CellTable.map_row.Goals as goal

pub change_row-requires-clause-within : goal.change_row-requires-clause-within
change_row-requires-clause-within g c =
    let s = c.self.inside in
    let row = subst (λ (n : ℕ). c.args.r < n) (sym (ap (λ t. t.side) c.self.view_is)) c.requires.row in
    row_fits s.side s.values.items s.present c.self.invariant c.args.r row

pub change_row-requires-clause-words : goal.change_row-requires-clause-words
change_row-requires-clause-words g c =
    let s = c.self.inside in
    let row = subst (λ (n : ℕ). c.args.r < n) (sym (ap (λ t. t.side) c.self.view_is)) c.requires.row in
    words_count s.side s.values.items s.present c.self.invariant c.args.r row c.row-words.result.now c.row-words.ensures.words

pub change_row-requires-clause-changes : goal.change_row-requires-clause-changes
change_row-requires-clause-changes g c =
    let s = c.self.inside in
    let row = subst (λ (n : ℕ). c.args.r < n) (sym (ap (λ t. t.side) c.self.view_is)) c.requires.row in
    may_change s.side s.values.items s.present c.self.invariant c.args.r row c.row-words.result.now c.row-words.ensures.words _
    (subst (λ t. MayMapRow (entry_at t.side t.cells c.args.r) (goal.F-pre g c.args.change.now)) (sym c.self.view_is) c.requires.changes)

pub invariant_of-self : goal.invariant_of-self
invariant_of-self g c =
    let s = c.self.inside in
    let row = subst (λ (n : ℕ). c.args.r < n) (sym (ap (λ t. t.side) c.self.view_is)) c.requires.row in
    mapped_stored s.side s.values.items s.present c.self.invariant c.args.r row c.row-words.result.now c.row-words.ensures.words c.change_row.new.values.items _ c.change_row.ensures

pub returns-clause-table : goal.returns-clause-table
returns-clause-table g c =
    let s = c.self.inside in
    is_table s.side c.change_row.new.values.items s.present (invariant_of-self g c)

pub returns-clause-row : goal.returns-clause-row
returns-clause-row g c =
    let s = c.self.inside in
    let row = subst (λ (n : ℕ). c.args.r < n) (sym (ap (λ t. t.side) c.self.view_is)) c.requires.row in
    let Table = CellTable g.row.V.Denot in
    subst (λ (t : Table). MapsTableRow t (record { side = s.side; cells = stored_cells s.side c.change_row.new.values.items s.present }) c.args.r (goal.F-post g c.args.change.now)) c.self.view_is
    (maps_row s.side s.values.items s.present c.self.invariant c.args.r row c.row-words.result.now c.row-words.ensures.words c.change_row.new.values.items _ c.change_row.ensures)
