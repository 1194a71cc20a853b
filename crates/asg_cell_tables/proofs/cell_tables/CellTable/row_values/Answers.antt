use Rattle.asg_cell_tables.proofs.Common.{ℕ, ◌+◌, ◌-◌, ◌*◌, ◌<◌, take, drop, sym, ap, subst, entry_at, AreValuesOf}
use Rattle.asg_cell_tables.proofs.TableLemmas.{values_of_row}
use Rattle.asg_cell_tables.proofs.cell_tables.CellTable.row_values.Goals as goal

pub returns : goal.returns
returns g c =
    let s = c.self.inside in
    let row = subst (λ (n : ℕ). c.args.r < n) (sym (ap (λ t. t.side) c.self.view_is)) c.requires in
    subst (λ t. AreValuesOf (entry_at t.side t.cells c.args.r) t.side (take (c.args.r * s.side + s.side - c.args.r * s.side) (drop (c.args.r * s.side) c.deref.result.now))) c.self.view_is
    (values_of_row s.side s.values.items s.present c.self.invariant c.args.r c.deref.result.now row c.deref.ensures.value)
