use Rattle.asg_proof.proofs.Common.{sym}
use Rattle.asg_proof.proofs.ShortWordLemmas.{short_words_get}
use Rattle.asg_proof.proofs.step_words.short_at.Goals as goal

pub returns : goal.returns
returns c = λ d. sym (short_words_get c.args.numbers.now c.args.place d c.requires)
