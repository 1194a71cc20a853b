use Rattle.asg_nodes.proofs.Common.{◌≡◌, ◌+◌, ◌*◌, ◌<◌, ◌&&◌, arith, w64, Fits-lt-pow, trailing_zeros, word_count, bit_below, HasBit-trailing_zeros, HasBit-without, without_bit, without_bit-lt, run_parts, cuts_cell, cuts_word}
use Rattle.asg_nodes.proofs.CutLemmas.{loses_absent, loses_both, loses_same}
use Rattle.asg_nodes.proofs.CutWords.{cut_but, bits_run, bit_absent, cut_bit, cut_all_bits}
use Rattle.asg_nodes.proofs.cuts.cut_word.Goals as goal

pub bits-init : goal.bits-init
bits-init g c =
    let Q = c.args.square.now in
    let row = c.args.row in
    let number = c.args.number in
    let from = c.args.from in
    let to = c.args.to in
    let low = c.saturating_sub.result in
    let bits = c.bits_between-rest.result in
    let words = c.row_words.result.now in
    let below : number < word_count Q.side = omega (arith, c.requires.number, c.requires.within) in
    let are = c.bits_between-rest.ensures in
    record {
      inside = λ j has.
          bits_run Q row number from to low bits words c.row_words.ensures below c.saturating_sub.ensures are j (bit_below bits j c.bits_between-rest.type_inv has) has;
      cut =
          loses_absent Q (cut_but row number from to bits)
          (bit_absent Q row number from to low bits words c.row_words.ensures below c.saturating_sub.ensures are);
    }

pub cut_cell-requires-clause-column : goal.cut_cell-requires-clause-column
cut_cell-requires-clause-column g c =
    let rest = c.bits.rest in
    let fits = Fits-lt-pow c.bits.auto.rest-fits in
    let b = trailing_zeros w64 rest in
    let has = HasBit-trailing_zeros rest (omega (arith, c.bits-test.true)) fits in
    let run = run_parts c.args.from c.args.to (64 * c.args.number + b) (c.bits.invariant.inside b has) in
    omega (arith, run.1, c.requires.within, c.bits.invariant.cut.labels.side)

pub bits-smaller : goal.bits-smaller
bits-smaller g c =
    let rest = c.bits.rest in
    let fits = Fits-lt-pow c.bits.auto.rest-fits in
    let has = HasBit-trailing_zeros rest (omega (arith, c.bits-test.true)) fits in
    without_bit-lt rest (trailing_zeros w64 rest) (bit_below rest (trailing_zeros w64 rest) fits has) has

pub bits-preserved : goal.bits-preserved
bits-preserved g c =
    let Q = c.args.square.now in
    let now = c.bits.square in
    let new = c.cut_cell.new.square in
    let row = c.args.row in
    let number = c.args.number in
    let from = c.args.from in
    let to = c.args.to in
    let i = c.bits.invariant in
    let rest = c.bits.rest in
    let fits = Fits-lt-pow c.bits.auto.rest-fits in
    let b = trailing_zeros w64 rest in
    let has = HasBit-trailing_zeros rest (omega (arith, c.bits-test.true)) fits in
    let h = bit_below rest b fits has in
    record {
      inside = λ j left. i.inside j (HasBit-without rest b j h left).0;
      cut =
          loses_same Q new (λ r k. cut_but row number from to rest r k && cuts_cell row (64 * number + b) r k) (cut_but row number from to (without_bit rest b)) c.side.ensures.grid
          (λ r k _ _. cut_bit row number from to rest b h (i.inside b has) r k)
          (loses_both Q now new (cut_but row number from to rest) (cuts_cell row (64 * number + b)) i.cut c.cut_cell.ensures);
    }

pub returns : goal.returns
returns g c =
    let row = c.args.row in
    let number = c.args.number in
    let from = c.args.from in
    let to = c.args.to in
    let none : c.bits.rest ≡ 0 = omega (arith, c.bits-test.false) in
    loses_same c.args.square.now c.bits.square (cut_but row number from to c.bits.rest) (cuts_word row number from to) c.side.ensures.grid
    (λ r k _ _. cut_all_bits row number from to c.bits.rest none r k)
    c.bits.invariant.cut
