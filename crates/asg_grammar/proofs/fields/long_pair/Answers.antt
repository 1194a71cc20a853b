use Rattle.asg_grammar.proofs.Common.{long_pair_cut, after_cut}
use Rattle.asg_grammar.proofs.fields.long_pair.Goals as goal

pub returns-in_err-after : goal.returns-in_err-after
returns-in_err-after c = rw c.from_residual.ensures (λ p fits is.
    let parts = long_pair_cut c.args.text.now c.cut.result.0.now c.cut.result.1.now p c.cut.ensures.whole c.cut.ensures.front c.cut.ensures.rest fits.0 is in
    c.in_err-after.ensures _ parts.1)

pub returns-in_err-amount : goal.returns-in_err-amount
returns-in_err-amount c = rw c.from_residual-in_err-amount.ensures (λ p fits is.
    let parts = long_pair_cut c.args.text.now c.cut.result.0.now c.cut.result.1.now p c.cut.ensures.whole c.cut.ensures.front c.cut.ensures.rest fits.0 is in
    c.in_err-amount.ensures p.1 fits.1 (after_cut 58 c.cut.result.1.now c.in_ok-after.field-0.now _ c.in_ok-after.ensures parts.1))

pub returns-in_err-long_number : goal.returns-in_err-long_number
returns-in_err-long_number c = rw c.from_residual-in_err-long_number.ensures (λ p fits is.
    let parts = long_pair_cut c.args.text.now c.cut.result.0.now c.cut.result.1.now p c.cut.ensures.whole c.cut.ensures.front c.cut.ensures.rest fits.0 is in
    c.in_err-long_number.ensures p.0 fits.0 parts.0)
