use Rattle.asg_objectives.proofs.Common.{◌<◌, length, get_or, arith, w64, Fits-lt-pow, bit_at-trailing_zeros, HasBit, cell_at}
use Rattle.asg_bit_rows.specs.laws.Bits.{bit_below, HasBit-and}
use Rattle.asg_objectives.proofs.PresentWords.{present_bit}
use Rattle.asg_objectives.proofs.present_cells.PresentCellsAllowed.among.Goals as goal

pub bounds-row_words-number : goal.bounds-row_words-number
bounds-row_words-number g c =
    let some = bit_at-trailing_zeros w64 c.args.columns (omega arith) (Fits-lt-pow c.ranges.columns) in
    let column = c.requires.columns_below _ some.1 in
    omega (arith, column, c.row_words.ensures.count)

pub returns : goal.returns
returns g c k =
    let cells = cell_at c.args.self.now.square.now in
    let words = c.row_words.result.now in
    let n = c.args.number in
    let some = bit_at-trailing_zeros w64 c.args.columns (omega arith) (Fits-lt-pow c.ranges.columns) in
    let first = c.requires.columns_below _ some.1 in
    let within : n < length words = omega (arith, first, c.row_words.ensures.count) in
    let both = HasBit-and (get_or words n 0) c.args.columns k in
    let below = λ (has : HasBit c.args.columns k). bit_below c.args.columns k (Fits-lt-pow c.ranges.columns) has in
    let bit = λ (has : HasBit c.args.columns k). present_bit cells c.args.r c.args.self.now.square.now.side n k words c.row_words.ensures within (below has) in (
      λ h. let bits = both.0 h in (bits.1, (bit bits.1).0 bits.0),
      λ h. both.1 ((bit h.0).1 h.1, h.0),
    )
