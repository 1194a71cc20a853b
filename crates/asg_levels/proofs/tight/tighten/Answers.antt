use Rattle.asg_levels.proofs.Common.{◌≡◌, ℕ, ◌+◌, ◌*◌, ◌/◌, ◌<◌, length, sym, ap, ◌∙◌, arith, word_count, words_each}
use Rattle.asg_levels.proofs.MarkWordLemmas.{some_words, words_reach}
use Rattle.asg_levels.proofs.TightWords.{rows_more}
use Rattle.asg_levels.proofs.tight.tighten.Goals as goal

pub overflow_cast-row-end : goal.overflow_cast-row-end
overflow_cast-row-end c = omega (arith, c.requires.ins, c.requires.few)

pub mark_words-requires-clause-some : goal.mark_words-requires-clause-some
mark_words-requires-clause-some c = some_words c.args.marks.now.columns _ (omega (arith, c.requires.some, c.requires.square)) c.requires.outs

pub mark_words-requires-clause-few : goal.mark_words-requires-clause-few
mark_words-requires-clause-few c = omega (arith, c.requires.outs, c.requires.square, c.requires.few)

pub tighten_row-requires-clause-marks_below : goal.tighten_row-requires-clause-marks_below
tighten_row-requires-clause-marks_below c =
    let row : c.loop-row.row < length c.args.ins.now = omega (arith, c.loop-row-test.true, c.loop-row.auto.row-end) in
    let count = c.requires.few_ins c.loop-row.row row in
    let some = some_words c.args.marks.now.columns _ (omega (arith, c.requires.some, c.requires.square)) c.requires.outs in
    words_reach _ (c.args.most + 2) (words_each c.args.outs.now) _ (omega (arith, count)) some (ap length c.as_slice.ensures.value ∙ c.in_ok-words.ensures.count)

pub loop-row-preserved : goal.loop-row-preserved
loop-row-preserved c =
    let side = c.requires.square ∙ sym c.requires.ins in
    rows_more c.loop-row.marks c.tighten_row.new.marks c.args.zeros.now c.args.ones.now c.args.ins.now c.args.outs.now _ c.loop-row.row
    c.loop-row.invariant.columns c.loop-row.invariant (c.requires.zero_columns ∙ side) (c.requires.one_columns ∙ side) c.tighten_row.ensures
