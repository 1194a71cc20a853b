use Rattle.asg_model.proofs.Common.{◌<◌, sym, subst, cells_in, IsCellStore, IsCostInRange, RetainsCells, Listed, Map, Table, All-retained}
use Rattle.asg_model.proofs.RetainedStores.{RetainsCells-table, IsCellStore-table}
use Rattle.asg_model.proofs.RetainedLists.{ascend_kept}
use Rattle.asg_model.proofs.retaining.retain_stored.Goals as goal

pub returns-in-Map-clause-store : goal.returns-in-Map-clause-store
returns-in-Map-clause-store g c =
    let store : IsCellStore c.args.rows c.args.columns (Map c.in-Map.cells) = subst (IsCellStore c.args.rows c.args.columns) c.in-Map.is c.requires.store in
    record {
      whole = tt;
      cells = All-retained (goal.F-post g c.args.keep.now) (λ cell. ((cell.0.0 < c.args.rows) × (cell.0.1 < c.args.columns)) × IsCostInRange cell.1) c.in-Map.cells.entries c.retain_entries.new.cells.entries c.retain_entries.ensures.cells store.cells;
      ascend = c.retain_entries.ensures.ascend;
    }

pub returns-in-Listed-clause-store : goal.returns-in-Listed-clause-store
returns-in-Listed-clause-store g c =
    let answers = goal.F-post g c.args.keep.now in
    let store : IsCellStore c.args.rows c.args.columns (Listed c.in-Listed.cells) = subst (IsCellStore c.args.rows c.args.columns) c.in-Listed.is c.requires.store in
    record {
      whole = tt;
      cells = All-retained answers (λ cell. ((cell.0.0 < c.args.rows) × (cell.0.1 < c.args.columns)) × IsCostInRange cell.1) c.in-Listed.cells.items c.retain_listed.new.cells.items c.retain_listed.ensures store.cells;
      ascend = ascend_kept answers c.in-Listed.cells.items c.retain_listed.new.cells.items c.retain_listed.ensures store.ascend;
    }

pub returns-in-Table-clause-store : goal.returns-in-Table-clause-store
returns-in-Table-clause-store g c =
    let store : IsCellStore c.args.rows c.args.columns (Table c.in-Table.firsts c.in-Table.seconds) = subst (IsCellStore c.args.rows c.args.columns) c.in-Table.is c.requires.store in
    IsCellStore-table (goal.F-post g c.args.keep.now) c.args.columns c.args.rows c.in-Table.firsts c.retain_firsts.new.firsts c.in-Table.seconds c.retain_firsts.ensures store

pub returns-in-Table-clause-cells : goal.returns-in-Table-clause-cells
returns-in-Table-clause-cells g c =
    let answers = goal.F-post g c.args.keep.now in
    let after = c.retain_firsts.new.firsts in
    subst (λ store. RetainsCells answers (cells_in c.args.columns store) (cells_in c.args.columns (Table after c.in-Table.seconds))) (sym c.in-Table.is)
    (RetainsCells-table answers c.args.columns c.in-Table.firsts.items after.items c.in-Table.seconds.items c.retain_firsts.ensures)
