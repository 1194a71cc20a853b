use Rattle.asg_lex.proofs.outcomes.outcome_under.Goals as goal

pub known_start-requires-clause-choice : goal.known_start-requires-clause-choice
known_start-requires-clause-choice c = record { choice = c.args.choice.now; valid = c.requires.valid; under = c.limit_of-limit.ensures.under }
