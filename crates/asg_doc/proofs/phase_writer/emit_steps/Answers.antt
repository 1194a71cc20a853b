use Rattle.asg_doc.proofs.Common.{◌<◌, length, ap, arith, take_all, spaced_steps, Word, Wrote-append, Wrote-as, Wrote-nothing}
use Rattle.asg_doc.proofs.ListTexts.{steps_more}
use Rattle.asg_doc.proofs.phase_writer.emit_steps.Goals as goal

abbrev none : Word
none = record { grade = 0; amount = 0 }

pub steps-init : goal.steps-init
steps-init g c = record { end = c.len-place-end.ensures; so_far = Wrote-nothing _ _ _ _ }

pub steps-preserved : goal.steps-preserved
steps-preserved g c =
    let within : c.steps.place < length c.args.steps.now = omega (arith, c.steps-test.true, c.steps.invariant.end) in
    record {
      end = c.steps.invariant.end;
      so_far = Wrote-as (steps_more c.args.has_grades c.args.steps.now c.steps.place none c.get.result within (c.get.ensures none))
          (Wrote-append c.steps.invariant.so_far (Wrote-append c.emit.ensures c.emit_step.ensures));
    }

pub returns : goal.returns
returns g c =
    Wrote-as (ap (spaced_steps c.args.has_grades) (take_all c.steps.place c.args.steps.now (omega (arith, c.steps-test.false, c.steps.invariant.end)))) c.steps.invariant.so_far
