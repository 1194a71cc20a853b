use Rattle.asg_levels.proofs.Common.{◌≡◌, ℕ, ◌+◌, ◌*◌, ◌/◌, ◌<◌, length, arith, word_count, words_each}
use Rattle.asg_levels.proofs.MarkWordLemmas.{words_reach}
use Rattle.asg_levels.proofs.free_rows.are_free.Goals as goal

-- a square with a row has words of marks
some_words : (side length_is : ℕ) → 0 < side → length_is ≡ 64 * word_count side → 0 < length_is / 64
some_words side length_is some is = omega (arith, some, is)

pub is_free-requires-clause-marks_below : goal.is_free-requires-clause-marks_below
is_free-requires-clause-marks_below c =
    let row : c.loop-row.row < length c.args.ins.now = omega (arith, c.loop-row-test.true, c.loop-row.auto.row-end, c.requires.ins) in
    let count = c.requires.few_ins c.loop-row.row row in
    let some = some_words (length c.args.enters.now) _ c.requires.some c.requires.outs in
    words_reach _ (c.args.most + 2) (words_each c.args.outs.now) _ (omega (arith, count)) some c.requires.reach
