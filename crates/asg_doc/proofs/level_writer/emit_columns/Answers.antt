use Rattle.asg_doc.proofs.Common.{Wrote-append, Wrote-as, Wrote-nothing}
use Rattle.asg_doc.proofs.ListTexts.{columns_more}
use Rattle.asg_doc.proofs.level_writer.emit_columns.Goals as goal

pub columns-init : goal.columns-init
columns-init g c = Wrote-nothing _ _ _ _

pub columns-preserved : goal.columns-preserved
columns-preserved g c =
    Wrote-as (columns_more _ _ c.columns-test.true) (Wrote-append c.columns.invariant c.emit_next.ensures)
