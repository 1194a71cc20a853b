use Rattle.asg_doc.proofs.Common.{Wrote-append, Wrote-as, Wrote-nothing}
use Rattle.asg_doc.proofs.ListTexts.{cells_more}
use Rattle.asg_doc.proofs.line_writer.emit_cells.Goals as goal

pub cells-init : goal.cells-init
cells-init g c = Wrote-nothing _ _ _ _

pub cells-preserved : goal.cells-preserved
cells-preserved g c = Wrote-as (cells_more _ _ _ c.cells-test.true) (Wrote-append c.cells.invariant c.emit_pair.ensures)
