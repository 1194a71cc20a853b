use Rattle.asg_cell_tables.proofs.Common.{◌≡◌, ℕ, ◌+◌, ◌*◌, ◌<◌, set, sym, ap, subst, PutsBit, CellTable, stored_cells}
use Rattle.asg_cell_tables.proofs.TableLemmas.{set_table}
use Rattle.asg_cell_tables.proofs.cell_tables.CellTable.set.Goals as goal

pub returns : goal.returns
returns g c =
    let s = c.self.inside in
    let row = subst (λ (n : ℕ). c.args.r < n) (sym (ap (λ t. t.side) c.self.view_is)) c.requires.row_below in
    let column = subst (λ (n : ℕ). c.args.c < n) (sym (ap (λ t. t.side) c.self.view_is)) c.requires.column_below in
    let Table = CellTable g.row.V.Denot in
    let after : Table = record { side = s.side; cells = stored_cells s.side (set s.values.items (c.args.r * s.side + c.args.c) c.unwrap_or-value.result) c.put.new.self } in
    subst (λ (t : Table). after ≡ record t { cells = set t.cells (c.args.r * t.side + c.args.c) c.args.cell }) c.self.view_is
    (set_table s.side s.values.items s.present c.self.invariant c.args.r c.args.c c.args.cell c.index.result.now c.put.new.self row column
    (subst (λ b. PutsBit s.present c.put.new.self c.args.r c.args.c b) c.is_some.ensures c.put.ensures)
    c.unwrap_or-value.result c.unwrap_or-value.ensures)
