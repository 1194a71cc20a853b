use Rattle.asg_doc_reader.proofs.Common.{length, sym, ap, arith, eqb-true, eqb-false, AreListed-more, AreListed-all}
use Rattle.asg_doc_reader.proofs.Leaves.{column_word}
use Rattle.asg_doc_reader.proofs.level_reader.columns_of.Goals as goal
use Rattle.asg_doc_reader.proofs.level_reader.columns_of.Goals.{then-is_empty-via-then-is_empty, then-is_empty-via-else-is_empty+then-not-is_empty}

pub listed-preserved : goal.listed-preserved
listed-preserved c = rw c.in_ok-push.ensures.items
    (AreListed-more column_word c.args.text.now c.listed.columns.items c.listed.rest.now c.in-Some.left.now c.in-Some.column c.listed.invariant c.in-Some.ensures)

pub returns-then-is_empty : goal.returns-then-is_empty
returns-then-is_empty c = λ all list is.
    let read = AreListed-all column_word c.args.text.now c.listed.columns.items c.listed.rest.now all c.listed.invariant c.in_default.ensures list is in
    elim c.then-is_empty.branch [
      | then-is_empty-via-then-is_empty w ↦ absurd (omega (arith, read.0, eqb-true c.listed.columns.len 0 (sym w.if-is_empty.ensures), c.listed.columns.ok))
      | then-is_empty-via-else-is_empty+then-not-is_empty w ↦ eqb-false (length c.listed.rest.now) 0 (sym w.if-not-is_empty.ensures) (ap length read.1)
    ]
