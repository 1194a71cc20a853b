use Rattle.asg_grammar.proofs.Common.{next_cut}
use Rattle.asg_grammar.proofs.LongWords.{long_word}
use Rattle.asg_grammar.proofs.fields.long_cut.Goals as goal

pub returns-in_err-long_number : goal.returns-in_err-long_number
returns-in_err-long_number c = rw c.from_residual-in_err-long_number.ensures (λ value rest lists.
    c.in_err-long_number.ensures value lists.has
    (next_cut long_word c.args.text.now c.in_ok-after.field-0.now c.cut.result.0.now c.cut.result.1.now value rest c.in_ok-after.ensures c.cut.ensures.whole c.cut.ensures.front c.cut.ensures.rest lists))
