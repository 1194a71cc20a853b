use Rattle.asg_phase_totals.proofs.Common.{◌≡◌, ℕ, ◌+◌, ◌*◌, ◌/◌, ◌%◌, slice_index, refl, subst, arith, Fits-lt-pow, not_both, never, FitsAt, values_are, words_are, cell_at}
use Rattle.asg_phase_totals.proofs.RowWords.{bit_cell, cell_bit, value_at}
use Rattle.asg_bit_rows.specs.laws.Bits.{bit_below}
use Rattle.asg_phase_totals.proofs.dual_fits.fit_cells.Goals as goal

column_parts : (k : ℕ) → 64 * (k / 64) + k % 64 ≡ k
column_parts k = omega arith

pub word_fits-requires-clause-first : goal.word_fits-requires-clause-first
word_fits-requires-clause-first g c =
    omega (arith, c.loop-number-test.true, c.row_words-words.ensures.count, c.row_values-values.ensures.count)

pub word_fits-requires-clause-short : goal.word_fits-requires-clause-short
word_fits-requires-clause-short g c =
    let few = c.side.ensures.grid.table.few in
    omega (arith, few, c.row_values-values.ensures.count)

pub word_fits-requires-clause-values : goal.word_fits-requires-clause-values
word_fits-requires-clause-values g c = λ k has.
    let N = g.N.SumNumber in
    let Q = c.args.square.now in
    let row = λ (k : ℕ). N.present (cell_at Q c.args.row k) in
    let values = c.row_values-values.result.now in
    let words = c.row_words-words.result.now in
    let are_values = values_are g.met.N.SumNumber.present_law g.met.N.SumNumber.numbers_law (cell_at Q c.args.row) Q.side values c.row_values-values.ensures in
    let are_words = words_are g.met.N.SumNumber.present_law (cell_at Q c.args.row) Q.side words c.row_words-words.ensures in
    let n = c.loop-number.number in
    let low = bit_below (slice_index words n) k (Fits-lt-pow (c.type_inv.words n)) has in
    let cell = bit_cell row Q.side (N.numbers values) words are_values are_words n k c.loop-number-test.true low has in
    omega (arith, cell.within, c.row_values-values.ensures.count)

pub word_fits-requires-clause-few : goal.word_fits-requires-clause-few
word_fits-requires-clause-few g c = λ k has.
    let N = g.N.SumNumber in
    let Q = c.args.square.now in
    let row = λ (k : ℕ). N.present (cell_at Q c.args.row k) in
    let values = c.row_values-values.result.now in
    let words = c.row_words-words.result.now in
    let are_values = values_are g.met.N.SumNumber.present_law g.met.N.SumNumber.numbers_law (cell_at Q c.args.row) Q.side values c.row_values-values.ensures in
    let are_words = words_are g.met.N.SumNumber.present_law (cell_at Q c.args.row) Q.side words c.row_words-words.ensures in
    let n = c.loop-number.number in
    let low = bit_below (slice_index words n) k (Fits-lt-pow (c.type_inv.words n)) has in
    let cell = bit_cell row Q.side (N.numbers values) words are_values are_words n k c.loop-number-test.true low has in
    omega (arith, cell.read, c.requires.few_cells (64 * n + k) cell.value cell.cell, c.requires.few, g.met.N.SumNumber.wide_law)

pub returns-then-not-word_fits : goal.returns-then-not-word_fits
returns-then-not-word_fits g c =
    let N = g.N.SumNumber in
    let Q = c.args.square.now in
    let row = λ (k : ℕ). N.present (cell_at Q c.args.row k) in
    let values = c.row_values-values.result.now in
    let words = c.row_words-words.result.now in
    let are_values = values_are g.met.N.SumNumber.present_law g.met.N.SumNumber.numbers_law (cell_at Q c.args.row) Q.side values c.row_values-values.ensures in
    let are_words = words_are g.met.N.SumNumber.present_law (cell_at Q c.args.row) Q.side words c.row_words-words.ensures in
    let n = c.loop-number.number in
    never (λ fit. not_both c.word_fits.result (c.word_fits.ensures.1 (λ k low has.
    let cell = bit_cell row Q.side (N.numbers values) words are_values are_words n k c.loop-number-test.true low has in
    let ok = fit (64 * n + k) cell.value cell.within cell.cell in
    omega (arith, ok, cell.read))) c.if-not-word_fits.true)

pub returns : goal.returns
returns g c =
    let N = g.N.SumNumber in
    let Q = c.args.square.now in
    let row = λ (k : ℕ). N.present (cell_at Q c.args.row k) in
    let values = c.row_values-values.result.now in
    let words = c.row_words-words.result.now in
    let are_values = values_are g.met.N.SumNumber.present_law g.met.N.SumNumber.numbers_law (cell_at Q c.args.row) Q.side values c.row_values-values.ensures in
    let are_words = words_are g.met.N.SumNumber.present_law (cell_at Q c.args.row) Q.side words c.row_words-words.ensures in (
      λ _ k x h cell.
          let bit = cell_bit row Q.side (N.numbers values) words are_values are_words k x h cell in
          let fit = c.loop-number.invariant (k / 64) (k % 64) (omega (arith, bit.0, c.loop-number-test.false)) (omega arith) bit.1 in
          let read = value_at row Q.side (N.numbers values) words are_values are_words k x cell in
          omega (arith, subst (FitsAt (N.numbers values) (N.numbers c.args.columns.now) (N.number c.args.raise)) (column_parts k) fit, read),
      λ _. refl,
    )
