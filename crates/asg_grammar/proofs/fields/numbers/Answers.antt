use Rattle.asg_grammar.proofs.Common.{length, sym, ap, arith, eqb-true, eqb-false}
use Rattle.asg_grammar.proofs.ListedNumbers.{AreRead-all}
use Rattle.asg_grammar.proofs.fields.numbers.Goals as goal
use Rattle.asg_grammar.proofs.fields.numbers.Goals.{then-is_empty-via-then-is_empty, then-is_empty-via-else-is_empty+then-not-is_empty}

pub returns-then-is_empty : goal.returns-then-is_empty
returns-then-is_empty c = λ all rows is.
    let read = AreRead-all c.args.text.now c.loop-number.numbers.items c.loop-number.rest.now all c.loop-number.invariant c.in_default.ensures rows is in
    elim c.then-is_empty.branch [
      | then-is_empty-via-then-is_empty w ↦ absurd (omega (arith, read.0, eqb-true c.loop-number.numbers.len 0 (sym w.if-is_empty.ensures), c.loop-number.numbers.ok))
      | then-is_empty-via-else-is_empty+then-not-is_empty w ↦ eqb-false (length c.loop-number.rest.now) 0 (sym w.if-not-is_empty.ensures) (ap length read.1)
    ]
