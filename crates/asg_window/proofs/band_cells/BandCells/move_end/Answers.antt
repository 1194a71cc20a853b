use Rattle.asg_window.proofs.Common.{◌<◌, ◌≤◌, ⊎_elim, arith, cases_lt}
use Rattle.asg_window.proofs.BandLemmas.{end_up, end_down}
use Rattle.asg_window.proofs.band_cells.BandCells.move_end.Goals as goal

pub returns-clause-band : goal.returns-clause-band
returns-clause-band c =
    let Q = c.args.cells.now.square.now in
    let entries = c.args.cells.now.entries.now in
    let b = c.requires.band in
    let self = c.args.self.now in
    let end = c.place_of-end.result in
    record {
      entries = b.entries;
      side = b.side;
      order = c.requires.order;
      fits = omega (arith, c.ranges.high);
      marks =
          ⊎_elim
          (λ (less : end < self.end). end_down Q entries b.entries self.marks.bits c.shift.new.bits self.low self.high c.args.high self.end end b.end c.place_of-end.ensures (omega (arith, less)) b.marks (c.shift.ensures.fewer less))
          (λ (more : self.end ≤ end). end_up Q entries b.entries self.marks.bits c.shift.new.bits self.low self.high c.args.high self.end end b.order b.end c.place_of-end.ensures more b.marks (c.shift.ensures.more more))
          (cases_lt end self.end);
      first = b.first;
      end = c.place_of-end.ensures;
    }
