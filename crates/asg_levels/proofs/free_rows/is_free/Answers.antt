use Rattle.asg_levels.proofs.Common.{◌<◌, get_or, sym, subst, has_bit, word_count, bit_in_row}
use Rattle.asg_levels.proofs.FreeLemmas.{free_more}
use Rattle.asg_levels.proofs.TightWords.{row_bits}
use Rattle.asg_levels.proofs.free_rows.is_free.Goals as goal

pub loop-number-preserved : goal.loop-number-preserved
loop-number-preserved c =
    let number = c.loop-number.number in
    let zeros = c.args.zeros.now in
    let ones = c.args.ones.now in
    let stay = c.args.stay.now in
    let below : number < word_count zeros.columns = subst (λ n. number < n) c.row-zero_words.ensures.words.count c.loop-number-test.true in
    let stays_below : number < word_count stay.columns = subst (λ n. number < word_count n) (sym c.requires.stay_columns) below in
    record {
      free =
          free_more zeros ones stay c.args.outs.now c.args.ins c.args.row number c.word_at-word.result (get_or c.row-stay_words.result.now number 0)
          (row_bits zeros ones c.args.outs.now c.row-zero_words.result.now c.row-one_words.result.now c.args.ins c.args.row number c.word_at-word.result
          c.requires.one_columns c.row-zero_words.ensures.words c.row-one_words.ensures.words below c.word_at-word.ensures)
          (λ k h. bit_in_row (has_bit stay 0) stay.columns c.row-stay_words.result.now number k c.row-stay_words.ensures.words stays_below h)
          c.if-word-stay_words-ne0.false
          c.loop-number.invariant.free;
    }
