use Rattle.asg_thresh.proofs.Common.{◌≡◌, ◌+◌, ◌*◌, ◌<◌, ◌≤◌, length, get_or, vec_len, sym, ap, ◌∙◌, subst, mul_comm, mul-le-mul, arith, w64, Fits-lt-pow, bit_at-trailing_zeros, get_or_read, mul-add-lt, HasBit, word_count}
use Rattle.asg_bit_rows.specs.laws.Bits.{bit_below, HasBit-and}
use Rattle.asg_thresh.proofs.WordLemmas.{IsMarked-bit}
use Rattle.asg_thresh.proofs.marked_cells.MarkedCellsAllowed.among.Goals as goal

pub overflow_add-r : goal.overflow_add-r
overflow_add-r c =
    let side = c.args.self.now.side in
    let width : c.div_ceil-width.result ≡ word_count side = omega (arith, c.div_ceil-width.ensures) in
    let some = bit_at-trailing_zeros w64 c.args.columns (omega arith) (Fits-lt-pow c.ranges.columns) in
    let column = c.requires.columns_below _ some.1 in
    let number : c.args.number < word_count side = omega (arith, column) in
    let place = mul-add-lt c.args.r (word_count side) c.args.number side c.requires.row_below number in
    let few : word_count side * side ≤ 32 * 2000 = mul-le-mul {n₂ = 32} {m₂ = 2000} (omega (arith, c.args.self.now.few)) c.args.self.now.few in
    let moved : c.args.r * c.div_ceil-width.result + c.args.number ≡ c.args.r * word_count side + c.args.number = ap (λ w. c.args.r * w + c.args.number) width in
    omega (arith, moved, place, few)

pub index-requires : goal.index-requires
index-requires c =
    let side = c.args.self.now.side in
    let width : c.div_ceil-width.result ≡ word_count side = omega (arith, c.div_ceil-width.ensures) in
    let some = bit_at-trailing_zeros w64 c.args.columns (omega arith) (Fits-lt-pow c.ranges.columns) in
    let column = c.requires.columns_below _ some.1 in
    let number : c.args.number < word_count side = omega (arith, column) in
    let place = mul-add-lt c.args.r (word_count side) c.args.number side c.requires.row_below number in
    subst (λ w. c.args.r * w + c.args.number < vec_len c.args.self.now.words) (sym width) (omega (arith, place, c.args.self.now.sized, mul_comm side (word_count side)))

pub returns : goal.returns
returns c k =
    let side = c.args.self.now.side in
    let words = c.args.self.now.words.items in
    let width : c.div_ceil-width.result ≡ word_count side = omega (arith, c.div_ceil-width.ensures) in
    let some = bit_at-trailing_zeros w64 c.args.columns (omega arith) (Fits-lt-pow c.ranges.columns) in
    let column = c.requires.columns_below _ some.1 in
    let number : c.args.number < word_count side = omega (arith, column) in
    let place = mul-add-lt c.args.r (word_count side) c.args.number side c.requires.row_below number in
    let within : c.args.r * c.div_ceil-width.result + c.args.number < length words = subst (λ w. c.args.r * w + c.args.number < length words) (sym width) (omega (arith, place, c.args.self.now.sized, c.args.self.now.words.ok.0, mul_comm side (word_count side))) in
    let read = get_or_read words _ _ within c.index.ensures 0 ∙ ap (λ w. get_or words (c.args.r * w + c.args.number) 0) width in
    let both = HasBit-and c.index.result.now c.args.columns k in
    let below = λ (has : HasBit c.args.columns k). bit_below c.args.columns k (Fits-lt-pow c.ranges.columns) has in
    let marked = λ (has : HasBit c.args.columns k). IsMarked-bit words side c.args.r c.args.number k c.index.result.now (below has) read c.requires.row_below (c.requires.columns_below k has) in (
      λ h. let bits = both.0 h in (bits.1, (marked bits.1).0 bits.0),
      λ h. both.1 ((marked h.0).1 h.1, h.0),
    )
