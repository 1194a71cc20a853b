use Rattle.asg_doc.proofs.Common.{ap, ended, phase_lines, Wrote-append, Wrote-as, Wrote-nothing}
use Rattle.asg_doc.proofs.ListTexts.{lines_more}
use Rattle.asg_doc.proofs.phase_writer.emit_phases.Goals as goal

pub phases-init : goal.phases-init
phases-init g c = Wrote-nothing _ _ _ _

pub phases-preserved : goal.phases-preserved
phases-preserved g c =
    Wrote-as (lines_more (phase_lines c.args.has_grades) c.args.phases.now c.phases.phase-index c.phase-item.result c.phases-test.true)
    (Wrote-append c.phases.invariant (Wrote-as (ap (λ phase. ended (phase_lines c.args.has_grades phase)) c.phase-item.is) c.emit_phase.ensures))
