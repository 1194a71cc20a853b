use Rattle.asg_tokens.proofs.Common.{◌+◌, ◌-◌, ◌<◌, ◌≤◌, arith}
use Rattle.asg_tokens.proofs.BlockLemmas.{word_digits_between, word_amount}
use Rattle.asg_tokens.proofs.digit_words.amount_of.Goals as goal

pub number_in_word-number-requires-clause-digits : goal.number_in_word-number-requires-clause-digits
number_in_word-number-requires-clause-digits c =
    let few : c.args.end - c.args.start ≤ c.args.start + 8 - c.args.start = omega arith in
    word_digits_between c.args.text.now c.args.start c.args.end (c.args.start + 8 - c.args.start) few c.requires.digits

pub returns : goal.returns
returns c =
    let few : c.args.end - c.args.start ≤ c.args.start + 8 - c.args.start = omega arith in
    let some : c.args.start < c.args.end = omega arith in
    word_amount c.args.text.now c.args.start c.args.end (c.args.start + 8 - c.args.start) c.number_in_word-number.result some (omega arith) few c.requires.digits c.number_in_word-number.ensures.value c.number_in_word-number.ensures.small
