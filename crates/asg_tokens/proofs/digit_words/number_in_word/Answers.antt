use Rattle.asg_tokens.proofs.BlockLemmas.{few_digits_small}
use Rattle.asg_tokens.proofs.WordDigits.{shifted_digits}
use Rattle.asg_tokens.proofs.digit_words.number_in_word.Goals as goal

pub returns-clause-value : goal.returns-clause-value
returns-clause-value c = shifted_digits c.args.bytes.now c.args.len c.from_le_bytes-word.result c.shift_of.result c.requires.word c.requires.some c.requires.within c.requires.digits c.from_le_bytes-word.ensures c.shift_of.ensures

pub returns-clause-small : goal.returns-clause-small
returns-clause-small c =
    few_digits_small c.args.bytes.now c.args.len _ c.requires.within c.requires.digits
    (shifted_digits c.args.bytes.now c.args.len c.from_le_bytes-word.result c.shift_of.result c.requires.word c.requires.some c.requires.within c.requires.digits c.from_le_bytes-word.ensures c.shift_of.ensures)
