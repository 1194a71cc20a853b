use Rattle.asg_window.proofs.Common.{places_ordered}
use Rattle.asg_window.proofs.BandLemmas.{first_up}
use Rattle.asg_window.proofs.band_cells.BandCells.move_first.Goals as goal

pub leave-requires-clause-order : goal.leave-requires-clause-order
leave-requires-clause-order c =
    let self = c.args.self.now in
    places_ordered c.args.cells.now.entries.now self.low c.args.low self.first c.place_of-first.result c.requires.up c.requires.band.first c.place_of-first.ensures

pub returns-clause-band : goal.returns-clause-band
returns-clause-band c =
    let Q = c.args.cells.now.square.now in
    let entries = c.args.cells.now.entries.now in
    let b = c.requires.band in
    let self = c.args.self.now in
    record {
      entries = b.entries;
      side = b.side;
      order = c.requires.order;
      fits = b.fits;
      marks = first_up Q entries b.entries self.marks.bits c.leave.new.bits self.low self.high c.args.low self.first c.place_of-first.result c.requires.up b.first c.place_of-first.ensures b.marks c.leave.ensures.marks;
      first = c.place_of-first.ensures;
      end = b.end;
    }
