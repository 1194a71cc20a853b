use Rattle.asg_cell_tables.proofs.Common.{◌≡◌, ℕ, ◌+◌, ◌-◌, ◌*◌, ◌/◌, ◌%◌, min, slice_index, subst, arith, is_bit_set, ChangesValues}
use Rattle.asg_cell_tables.proofs.ChangeLemmas.{changes_none, changes_more, changes_by, may_more, word_has}
use Rattle.asg_cell_tables.proofs.row_changes.change_words.Goals as goal

pub loop-number-init : goal.loop-number-init
loop-number-init g c =
    let has = λ (k : ℕ). is_bit_set (slice_index c.args.words.now (k / 64)) (k % 64) in
    let none : 0 ≡ min (64 * 0) c.args.side = omega arith in
    subst (λ m. ChangesValues c.args.values.now c.args.values.now c.args.start 0 m has (goal.F-post g c.args.change.now)) none
    (changes_none c.args.values.now c.args.start 0 has (goal.F-post g c.args.change.now))

pub change_word-requires-clause-changes : goal.change_word-requires-clause-changes
change_word-requires-clause-changes g c =
    let n = c.loop-number.number in
    let side = c.args.side in
    let to = c.min-to.result in
    let words = c.args.words.now in
    let at : min (64 * n) side ≡ 64 * n = omega (arith, c.loop-number-test.true, c.requires.words) in
    let so_far = subst (λ m. ChangesValues c.args.values.now c.loop-number.values c.args.start 0 m (λ k. is_bit_set (slice_index words (k / 64)) (k % 64)) (goal.F-post g c.args.change.now)) at c.loop-number.invariant in
    may_more c.args.values.now c.loop-number.values c.args.start 0 (64 * n) to side (λ k. is_bit_set (slice_index words (k / 64)) (k % 64)) (λ k. is_bit_set (slice_index words n) (k - 64 * n)) _ _
    (omega arith) (omega (arith, c.min-to.ensures))
    (λ k low high. word_has words n to k (omega (arith, c.min-to.ensures)) low high)
    so_far c.requires.changes

pub loop-number-preserved : goal.loop-number-preserved
loop-number-preserved g c =
    let n = c.loop-number.number in
    let side = c.args.side in
    let to = c.min-to.result in
    let words = c.args.words.now in
    let has = λ (k : ℕ). is_bit_set (slice_index words (k / 64)) (k % 64) in
    let at : min (64 * n) side ≡ 64 * n = omega (arith, c.loop-number-test.true, c.requires.words) in
    let next : to ≡ min (64 * (n + 1)) side = omega (arith, c.min-to.ensures) in
    let so_far = subst (λ m. ChangesValues c.args.values.now c.loop-number.values c.args.start 0 m has (goal.F-post g c.args.change.now)) at c.loop-number.invariant in
    subst (λ m. ChangesValues c.args.values.now c.change_word.new.values c.args.start 0 m has (goal.F-post g c.args.change.now)) next
    (changes_more c.args.values.now c.loop-number.values c.change_word.new.values c.args.start 0 (64 * n) to has _
    (omega arith) (omega (arith, c.min-to.ensures, at)) so_far
    (changes_by c.loop-number.values c.change_word.new.values c.args.start (64 * n) to has (λ k. is_bit_set (slice_index words n) (k - 64 * n)) _
    (λ k low high. word_has words n to k (omega (arith, c.min-to.ensures)) low high)
    c.change_word.ensures))

pub returns : goal.returns
returns g c =
    let words = c.args.words.now in
    let end : min (64 * c.loop-number.number) c.args.side ≡ c.args.side = omega (arith, c.loop-number-test.false, c.requires.words) in
    subst (λ m. ChangesValues c.args.values.now c.loop-number.values c.args.start 0 m (λ k. is_bit_set (slice_index words (k / 64)) (k % 64)) (goal.F-post g c.args.change.now)) end c.loop-number.invariant
