use Rattle.asg_levels.proofs.MarkWordLemmas.{word_by}
use Rattle.asg_levels.proofs.mark_words.word_of.Goals as goal

pub returns : goal.returns
returns c k h = word_by c.args.outs.now c.args.words.now c.args.mark c.args.number k c.requires.words c.requires.mark_below c.requires.number_below h
