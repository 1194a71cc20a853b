use Rattle.asg_objectives.proofs.Common.{[], ◌∷◌, ◌++◌, ap, ◌∙◌, subst, IsPhase}
use Rattle.asg_objectives.proofs.trail_phases.push_words.Goals as goal

pub returns-clause-words : goal.returns-clause-words
returns-clause-words g c =
    c.in_ok-push.ensures.items ∙ ap (λ p. c.args.words.now.items ++ p ∷ []) c.in_ok-written.ensures.words

pub returns-clause-phase : goal.returns-clause-phase
returns-clause-phase g c = subst IsPhase c.in_ok-written.ensures.words c.in_ok-written.ensures.phase
