use Rattle.asg_doc_reader.proofs.Common.{length, sym, refl, ap, arith, eqb-false, AreListed-more, AreListed-all}
use Rattle.asg_doc_reader.proofs.Leaves.{step_word}
use Rattle.asg_doc_reader.proofs.phase_reader.steps_of.Goals as goal
use Rattle.asg_doc_reader.proofs.phase_reader.steps_of.Goals.{then-is_empty-via-then-is_empty, then-is_empty-via-else-is_empty+then-not-is_empty}

pub listed-preserved : goal.listed-preserved
listed-preserved c = rw c.in_ok-push.ensures
    (AreListed-more (step_word c.args.has_grades) c.args.text.now c.listed.steps c.listed.rest.now c.in-Some.left.now c.in-Some.step c.listed.invariant c.in-Some.ensures)

pub returns-then-is_empty : goal.returns-then-is_empty
returns-then-is_empty c = λ all list is.
    let read = AreListed-all (step_word c.args.has_grades) c.args.text.now c.listed.steps c.listed.rest.now all c.listed.invariant c.in_default.ensures list is in
    elim c.then-is_empty.branch [
      | then-is_empty-via-then-is_empty w ↦ absurd (omega (arith, read.0, ap length (w.if-is_empty.ensures.0 refl)))
      | then-is_empty-via-else-is_empty+then-not-is_empty w ↦ eqb-false (length c.listed.rest.now) 0 (sym w.if-not-is_empty.ensures) (ap length read.1)
    ]
