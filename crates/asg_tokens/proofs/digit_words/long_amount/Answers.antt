use Rattle.asg_tokens.proofs.Common.{arith}
use Rattle.asg_tokens.proofs.BlockLemmas.{digits_between, amount_between}
use Rattle.asg_tokens.proofs.digit_words.long_amount.Goals as goal

pub number_past_word-number-requires-clause-digits : goal.number_past_word-number-requires-clause-digits
number_past_word-number-requires-clause-digits c = digits_between c.args.text.now c.args.start c.args.end c.requires.digits

pub returns : goal.returns
returns c =
    amount_between c.args.text.now c.args.start c.args.end c.number_past_word-number.result (omega (arith, c.requires.many)) (omega (arith, c.requires.long)) c.requires.digits c.number_past_word-number.ensures (omega arith)
