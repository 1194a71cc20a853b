use Rattle.asg_levels.proofs.Common.{◌≡◌, ℕ, ◌+◌, ◌*◌, ◌<◌, length, sym, refl, ap, ◌∙◌, subst, arith, BitTable, word_count, TightensWords}
use Rattle.asg_levels.proofs.TightWords.{words_none, words_more, row_bits, row_inside}
use Rattle.asg_levels.proofs.tight.tighten_row.Goals as goal

pub loop-number-init : goal.loop-number-init
loop-number-init c = words_none c.args.marks.now c.args.zeros.now c.args.ones.now c.args.outs.now c.args.ins c.args.row

pub put_word-requires-clause-row_below : goal.put_word-requires-clause-row_below
put_word-requires-clause-row_below c = omega (arith, c.loop-number.invariant.rows, c.requires.row_below)

-- a number of one of the words is one of the columns' words
within : (number count columns : ℕ) (B : BitTable) → B.columns ≡ columns → count ≡ word_count B.columns → number < count → number < word_count columns
within number count columns B e words h = subst (λ n. number < word_count n) e (subst (λ n. number < n) words h)

pub put_word-requires-clause-number_below : goal.put_word-requires-clause-number_below
put_word-requires-clause-number_below c =
    within c.loop-number.number _ c.loop-number.marks.columns c.args.zeros.now (c.requires.zero_columns ∙ sym c.loop-number.invariant.columns) c.row-zero_words.ensures.words.count c.loop-number-test.true

pub put_word-requires-clause-inside : goal.put_word-requires-clause-inside
put_word-requires-clause-inside c k h set =
    let number = c.loop-number.number in
    let below = within number _ c.args.zeros.now.columns c.args.zeros.now refl c.row-zero_words.ensures.words.count c.loop-number-test.true in
    let inside = row_inside c.args.zeros.now c.args.ones.now c.args.outs.now c.row-zero_words.result.now c.row-one_words.result.now c.args.ins c.args.row number c.word_at-word.result
    (c.requires.one_columns ∙ sym c.requires.zero_columns) c.row-zero_words.ensures.words c.row-one_words.ensures.words below c.word_at-word.ensures
    c.row-zero_words.ensures.table c.row-one_words.ensures.table k h set in
    subst (λ n. 64 * number + k < n) (c.requires.zero_columns ∙ sym c.loop-number.invariant.columns) inside

pub loop-number-preserved : goal.loop-number-preserved
loop-number-preserved c =
    let number = c.loop-number.number in
    let below = within number _ c.args.zeros.now.columns c.args.zeros.now refl c.row-zero_words.ensures.words.count c.loop-number-test.true in
    words_more c.args.marks.now c.loop-number.marks c.put_word.new.self c.args.zeros.now c.args.ones.now c.args.outs.now c.args.ins c.args.row number c.word_at-word.result
    c.loop-number.invariant c.put_word.ensures
    (row_bits c.args.zeros.now c.args.ones.now c.args.outs.now c.row-zero_words.result.now c.row-one_words.result.now c.args.ins c.args.row number c.word_at-word.result
    (c.requires.one_columns ∙ sym c.requires.zero_columns) c.row-zero_words.ensures.words c.row-one_words.ensures.words below c.word_at-word.ensures)

pub returns : goal.returns
returns c =
    let number = c.loop-number.number in
    let all : number ≡ length c.row-zero_words.result.now = omega (arith, c.loop-number-test.false, c.loop-number.auto.number-end) in
    subst (TightensWords c.args.marks.now c.loop-number.marks c.args.zeros.now c.args.ones.now c.args.outs.now c.args.ins c.args.row)
    (all ∙ c.row-zero_words.ensures.words.count ∙ ap word_count c.requires.zero_columns) c.loop-number.invariant
