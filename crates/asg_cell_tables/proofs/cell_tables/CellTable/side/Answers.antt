use Rattle.asg_cell_tables.proofs.Common.{subst, IsCellTable}
use Rattle.asg_cell_tables.proofs.TableLemmas.{is_table}
use Rattle.asg_cell_tables.proofs.cell_tables.CellTable.side.Goals as goal

pub returns-clause-table : goal.returns-clause-table
returns-clause-table g c =
    let s = c.self.inside in
    subst IsCellTable c.self.view_is (is_table s.side s.values.items s.present c.self.invariant)
