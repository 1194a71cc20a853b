use Rattle.asg_live_cells.proofs.Common.{◌<◌, length, get_or, arith, w64, Fits-lt-pow, bit_at-trailing_zeros, bit_below, HasBit-and}
use Rattle.asg_match.specs.ColumnSet.{HasBit}
use Rattle.asg_live_cells.specs.laws.Words.{word_bit}
use Rattle.asg_live_cells.proofs.marks.MarksAllowed.among.Goals as goal

pub bounds-row-number : goal.bounds-row-number
bounds-row-number c =
    let some = bit_at-trailing_zeros w64 c.args.columns (omega arith) (Fits-lt-pow c.ranges.columns) in
    let column = c.requires.columns_below _ some.1 in
    omega (arith, column, c.row.ensures.words.count, c.args.self.now.columns)

pub returns : goal.returns
returns c k =
    let B = c.args.self.now.bits in
    let words = c.row.result.now in
    let n = c.args.number in
    let some = bit_at-trailing_zeros w64 c.args.columns (omega arith) (Fits-lt-pow c.ranges.columns) in
    let first = c.requires.columns_below _ some.1 in
    let within : n < length words = omega (arith, first, c.row.ensures.words.count, c.args.self.now.columns) in
    let both = HasBit-and (get_or words n 0) c.args.columns k in
    let below = λ (has : HasBit c.args.columns k). bit_below c.args.columns k (Fits-lt-pow c.ranges.columns) has in (
      λ h.
          let bits = both.0 h in
          (bits.1, record { row = c.requires.row_below; column = c.requires.columns_below k bits.1; bit = (word_bit B c.args.r B.columns n k words c.row.ensures.words within (below bits.1)).0 bits.0 }),
      λ h.
          let marked = h.1 in
          both.1 ((word_bit B c.args.r B.columns n k words c.row.ensures.words within (below h.0)).1 marked.bit, h.0),
    )
