use Rattle.asg_grammar.proofs.ListedNumbers.{first_cut}
use Rattle.asg_grammar.proofs.fields.next_cut.Goals as goal

pub returns-in_err-number : goal.returns-in_err-number
returns-in_err-number c = rw c.from_residual-in_err-number.ensures (λ id rest lists.
    c.in_err-number.ensures id lists.fits
    (first_cut c.args.text.now c.in_ok-after.field-0.now c.cut.result.0.now c.cut.result.1.now id rest c.in_ok-after.ensures c.cut.ensures.whole c.cut.ensures.front c.cut.ensures.rest lists))
