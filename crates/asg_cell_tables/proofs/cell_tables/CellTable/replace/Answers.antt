use Rattle.asg_cell_tables.proofs.Common.{◌≡◌, ℕ, ◌+◌, ◌*◌, ◌<◌, set, IsSome, Some, sym, refl, ap, subst, CellTable, entry_at, stored_cells}
use Rattle.asg_cell_tables.proofs.ChangeLemmas.{put_same}
use Rattle.asg_cell_tables.proofs.TableLemmas.{set_table}
use Rattle.asg_cell_tables.proofs.cell_tables.CellTable.replace.Goals as goal

pub returns : goal.returns
returns g c =
    let s = c.self.inside in
    let is = sym c.self.view_is in
    let row = subst (λ (n : ℕ). c.args.r < n) (ap (λ t. t.side) is) c.requires.row_below in
    let column = subst (λ (n : ℕ). c.args.c < n) (ap (λ t. t.side) is) c.requires.column_below in
    let present = subst (λ t. IsSome (entry_at t.side t.cells c.args.r c.args.c)) is c.requires.present in
    let Table = CellTable g.row.V.Denot in
    let after : Table = record { side = s.side; cells = stored_cells s.side (set s.values.items (c.args.r * s.side + c.args.c) c.args.value) s.present } in
    subst (λ (t : Table). after ≡ record t { cells = set t.cells (c.args.r * t.side + c.args.c) (Some c.args.value) }) c.self.view_is
    (set_table s.side s.values.items s.present c.self.invariant c.args.r c.args.c (Some c.args.value) c.args.value s.present row column
    (put_same s.side s.values.items s.present c.self.invariant c.args.r c.args.c row column present)
    c.args.value refl)
