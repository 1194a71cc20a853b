-- Both cuts are those of the row.
use Rattle.asg_model.proofs.Common.{sym, subst, AreTableParts}
use Rattle.asg_model.proofs.TableRows.{AreTableParts-row}
use Rattle.asg_model.proofs.cell_store.table_parts.Goals as goal

pub returns-in-Some-clause-parts : goal.returns-in-Some-clause-parts
returns-in-Some-clause-parts c =
    let a = c.args in
    subst (λ list. AreTableParts a.columns a.firsts.now a.seconds.now a.row list c.table_seconds.result.now) (sym c.in-Some.ensures.costs)
    (AreTableParts-row a.rows a.columns a.firsts.now a.seconds.now a.row c.table_seconds.result.now c.requires.whole c.in-Some.ensures.there c.table_seconds.ensures)
