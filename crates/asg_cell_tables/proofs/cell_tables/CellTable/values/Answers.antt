use Rattle.asg_cell_tables.proofs.Common.{subst, AreAllValuesOf}
use Rattle.asg_cell_tables.proofs.TableLemmas.{all_values}
use Rattle.asg_cell_tables.proofs.cell_tables.CellTable.values.Goals as goal

pub returns : goal.returns
returns g c =
    let s = c.self.inside in
    subst (λ t. AreAllValuesOf t.cells c.as_slice.result.now) c.self.view_is
    (all_values s.side s.values.items s.present c.self.invariant c.as_slice.result.now c.as_slice.ensures.value)
