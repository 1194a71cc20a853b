use Rattle.asg_lex.proofs.Common.{ℕ}
use Rattle.asg_lex.specs.RunStates.{IsRun}
use Rattle.asg_lex.proofs.runs.take_all.Given as goal

-- the costs from the bound on were gone through
abbrev pub invariant-costs : goal.invariant-costs
invariant-costs l = (bound : ℕ) × IsRun l.inst l.cells.limit l.cells.entries.now bound l.to l.run

-- the place of the entries that are left
abbrev pub decreases-costs : goal.decreases-costs
decreases-costs l = l.to
