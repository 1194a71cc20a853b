use Rattle.asg_doc.proofs.Common.{◌≡◌, length, take, spaced_steps, Wrote}
use Rattle.asg_doc.proofs.phase_writer.emit_steps.Given as goal

abbrev pub invariant-steps : goal.invariant-steps
invariant-steps g l = record {
  end : l.place-end ≡ length l.steps;
  so_far : Wrote g.K.Sink.written g.K.Sink.faults l.fn.out l.out l.fn.page l.page (spaced_steps l.has_grades (take l.place l.steps));
}
