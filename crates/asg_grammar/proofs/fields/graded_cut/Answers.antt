use Rattle.asg_grammar.proofs.Common.{next_cut}
use Rattle.asg_grammar.proofs.LongWords.{long_pair_word}
use Rattle.asg_grammar.proofs.fields.graded_cut.Goals as goal

pub returns-in_err-long_pair : goal.returns-in_err-long_pair
returns-in_err-long_pair c = rw c.from_residual-in_err-long_pair.ensures (λ value rest lists.
    c.in_err-long_pair.ensures value lists.has
    (next_cut long_pair_word c.args.text.now c.in_ok-after.field-0.now c.cut.result.0.now c.cut.result.1.now value rest c.in_ok-after.ensures c.cut.ensures.whole c.cut.ensures.front c.cut.ensures.rest lists))
