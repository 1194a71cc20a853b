use Rattle.asg_proof.proofs.StepWordLemmas.{same_after}
use Rattle.asg_proof.proofs.step_words.entry.Goals as goal

pub returns-in-None-clause-same : goal.returns-in-None-clause-same
returns-in-None-clause-same c short =
    same_after c.appended.result short c.args.long.now.items c.appended.new.long.items c.args.step c.appended.ensures.list c.appended.ensures.kept
