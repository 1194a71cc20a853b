use Rattle.asg_doc.specs.laws.Flows.{Wrote-append, Wrote-as, Wrote-nothing}
use Rattle.asg_doc.proofs.PageTexts.{spaced_more}
use Rattle.asg_doc.proofs.number_writer.emit_spaced.Goals as goal

pub numbers-init : goal.numbers-init
numbers-init g c = Wrote-nothing _ _ _ _

pub numbers-preserved : goal.numbers-preserved
numbers-preserved g c =
    Wrote-as (spaced_more _ _ c.numbers-test.true) (Wrote-append c.numbers.invariant c.emit_next.ensures)
