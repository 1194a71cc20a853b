use Rattle.asg_table_phases.proofs.Common.{◌≡◌, ◌-◌, length, drop, AreTotals}
use Rattle.asg_table_phases.proofs.phase_sums.take_all.Given as goal

-- the totals are those of the phases from here on
abbrev pub invariant-phases : goal.invariant-phases
invariant-phases l = record {
  taken : AreTotals (drop (length l.phases - l.back) l.phases) l.totals;
  side : length l.totals.rows ≡ length l.fn.totals.rows;
}
