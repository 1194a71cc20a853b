use Rattle.asg_grammar.proofs.ListedNumbers.{pair_cut, second_of}
use Rattle.asg_grammar.proofs.fields.pair.Goals as goal

pub returns-in_err-after : goal.returns-in_err-after
returns-in_err-after c = rw c.from_residual.ensures (λ p fits is.
    let cut = pair_cut c.args.text.now c.cut.result.0.now c.cut.result.1.now p c.cut.ensures.whole c.cut.ensures.front c.cut.ensures.rest fits is in
    c.in_err-after.ensures _ cut.1)

pub returns-in_err-second : goal.returns-in_err-second
returns-in_err-second c = rw c.from_residual-in_err-second.ensures (λ p fits is.
    let cut = pair_cut c.args.text.now c.cut.result.0.now c.cut.result.1.now p c.cut.ensures.whole c.cut.ensures.front c.cut.ensures.rest fits is in
    c.in_err-second.ensures p.1 fits.1 (second_of c.cut.result.1.now c.in_ok-after.field-0.now p c.in_ok-after.ensures cut.1))

pub returns-in_err-number : goal.returns-in_err-number
returns-in_err-number c = rw c.from_residual-in_err-number.ensures (λ p fits is.
    let cut = pair_cut c.args.text.now c.cut.result.0.now c.cut.result.1.now p c.cut.ensures.whole c.cut.ensures.front c.cut.ensures.rest fits is in
    c.in_err-number.ensures p.0 fits.0 cut.0)
