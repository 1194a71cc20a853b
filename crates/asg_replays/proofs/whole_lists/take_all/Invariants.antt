use Rattle.asg_replays.proofs.Common.{◌≡◌, ◌-◌, length, drop, AreTotalsOf}
use Rattle.asg_replays.proofs.whole_lists.take_all.Given as goal

-- the totals are those of the phases from here on
abbrev pub invariant-phases : goal.invariant-phases
invariant-phases g l = record {
  taken : AreTotalsOf (drop (length l.phases - l.back) l.phases) l.totals;
  side : length l.totals.rows ≡ length l.fn.totals.rows;
}
