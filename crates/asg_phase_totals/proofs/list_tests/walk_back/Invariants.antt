use Rattle.asg_phase_totals.proofs.Common.{◌≡◌, ◌-◌, length, cell_at}
use Rattle.asg_phase_totals.proofs.WalkLemmas.{Walked}
use Rattle.asg_phase_totals.proofs.list_tests.walk_back.Given as goal

-- the phases so far from the last one back were walked
abbrev pub invariant-phases : goal.invariant-phases
invariant-phases g l =
    let N = g.N.SumNumber in
    record {
      walked : Walked N.top l.square.side (N.phases l.phases) (λ r k. N.present (cell_at l.square r k)) (length l.phases - l.back) (N.numbers l.rows.items) (N.numbers l.columns.items) l.segment;
      row_count : length l.rows.items ≡ length l.fn.rows.items;
      column_count : length l.columns.items ≡ length l.fn.columns.items;
      room : length l.room ≡ length l.fn.room;
    }
