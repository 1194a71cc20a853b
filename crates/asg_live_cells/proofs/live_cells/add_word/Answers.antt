use Rattle.asg_live_cells.proofs.Common.{arith, w64, Fits-lt-pow, trailing_zeros, bit_below, HasBit-trailing_zeros, without_bit-lt}
use Rattle.asg_live_cells.proofs.EntryLemmas.{but_first, but_more, but_none}
use Rattle.asg_live_cells.proofs.live_cells.add_word.Goals as goal

pub cells-init : goal.cells-init
cells-init c =
    record {
      but = but_first c.args.square.now c.args.limit c.args.row c.args.number c.under_word-rest.result c.args.entries.now.items c.under_word-rest.ensures c.requires.before;
    }

pub add_cell-requires-clause-column_below : goal.add_cell-requires-clause-column_below
add_cell-requires-clause-column_below c =
    let fits = Fits-lt-pow c.cells.auto.rest-fits in
    let has = HasBit-trailing_zeros c.cells.rest (omega arith) fits in
    c.cells.invariant.but.inside _ (bit_below c.cells.rest _ fits has) has

pub cells-smaller : goal.cells-smaller
cells-smaller c =
    let fits = Fits-lt-pow c.cells.auto.rest-fits in
    let has = HasBit-trailing_zeros c.cells.rest (omega arith) fits in
    without_bit-lt c.cells.rest _ (bit_below c.cells.rest _ fits has) has

pub cells-preserved : goal.cells-preserved
cells-preserved c =
    let fits = Fits-lt-pow c.cells.auto.rest-fits in
    let k = trailing_zeros w64 c.cells.rest in
    let has = HasBit-trailing_zeros c.cells.rest (omega arith) fits in
    record {
      but = but_more c.args.square.now c.args.limit c.args.row c.args.number c.cells.rest k c.cells.entries.items c.add_cell.new.entries.items (bit_below c.cells.rest k fits has) c.in_ok-add_cell.ensures c.cells.invariant.but;
    }

pub returns : goal.returns
returns c = but_none c.args.square.now c.args.limit c.args.row c.args.number c.cells.rest c.cells.entries.items (omega arith) c.cells.invariant.but
