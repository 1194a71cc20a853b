use Rattle.asg_table_phases.proofs.Common.{sym, subst, arith, PassesNegative, cost_reach, lies_within}
use Rattle.asg_table_phases.proofs.RefusedCosts.{PassesNegative-given}
use Rattle.asg_table_phases.proofs.phase_proofs.adds_up_to.Goals as goal

pub chosen_fold-fold-requires-clause-near : goal.chosen_fold-fold-requires-clause-near
chosen_fold-fold-requires-clause-near c = lies_within cost_reach c.args.inst.now (omega arith) c.rows-rows.ensures.instance

pub chosen_fold-fold-requires-clause-passes : goal.chosen_fold-fold-requires-clause-passes
chosen_fold-fold-requires-clause-passes c = subst (λ o. PassesNegative o c.args.inst.now) (sym c.of-kind.ensures.objective) (PassesNegative-given c.args.objective c.args.inst.now c.requires.passes)
