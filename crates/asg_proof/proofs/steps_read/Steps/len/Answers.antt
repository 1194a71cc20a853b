use Rattle.asg_proof.proofs.Common.{length, ap, ◌∙◌}
use Rattle.asg_proof.proofs.ShortWordLemmas.{words_count}
use Rattle.asg_proof.proofs.steps_read.Steps.len.Goals as goal

pub returns : goal.returns
returns c = words_count c.self.inside.numbers.now c.self.inside.long.now ∙ ap length c.self.view_is
