use Rattle.std.proofs.Common.{subst}
use Rattle.asg_model.specs.declared.objectives.Objective.TheVariants.{Bottleneck}
use Rattle.asg_proof.specs.Outcomes.{IsOutcome}
use Rattle.asg_caller.proofs.rosters.best_roster.Goals as goal

pub returns-clause-none : goal.returns-clause-none
returns-clause-none c = λ none g valid. c.outcome_law.ensures.nothing Bottleneck c.args.inst.now _ g
    (subst (IsOutcome Bottleneck c.args.inst.now) c.in-Nothing.is c.in_ok-choice.ensures.outcome) valid
