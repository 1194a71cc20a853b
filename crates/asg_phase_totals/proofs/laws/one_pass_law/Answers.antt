use Rattle.asg_phase_totals.proofs.TotalsLemmas.{admitted_phases, cells_after, index_of_all}
use Rattle.asg_phase_totals.proofs.laws.one_pass_law.Goals as goal

pub returns-clause-admitted : goal.returns-clause-admitted
returns-clause-admitted c = admitted_phases

pub returns-clause-cells : goal.returns-clause-cells
returns-clause-cells c = cells_after

pub returns-clause-index : goal.returns-clause-index
returns-clause-index c = index_of_all
