use Rattle.asg_live_cells.proofs.EntryLemmas.{AreEntriesBut}
use Rattle.asg_live_cells.proofs.live_cells.add_word.Given as goal

-- the entries but of the bits that are left
abbrev pub invariant-cells : goal.invariant-cells
invariant-cells l =
    record {
      but : AreEntriesBut l.square l.limit l.row l.number l.rest l.entries.items;
    }

abbrev pub decreases-cells : goal.decreases-cells
decreases-cells l = l.rest
