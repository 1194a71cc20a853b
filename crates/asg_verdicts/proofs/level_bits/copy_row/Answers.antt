use Rattle.asg_verdicts.proofs.LevelCommon.{◌≡◌, ℕ, ◌+◌, ◌*◌, ◌/◌, ◌%◌, ◌<◌, ◌≤◌, ◌&&◌, get_or, is_some, bit_and, sym, refl, ap, ◌∙◌, ⊎_elim, arith, and_parts, cases_eq, cases_lt, has_bit, is_bit_set, word_count, place_hit, place_missed, cell_at}
use Rattle.asg_verdicts.proofs.BitSquares.{word_bits}
use Rattle.asg_verdicts.proofs.level_bits.copy_row.Goals as goal

pub loop-number-init : goal.loop-number-init
loop-number-init c = record {
  end = c.row-words.ensures.words.count ∙ ap word_count c.requires.left_columns;
  rows = c.requires.rows;
  columns = c.requires.columns;
  done = λ d h. absurd (omega (arith, h));
  others = λ r d apart. refl;
}

-- no bit past the last column is set
pub put_word-requires-clause-inside : goal.put_word-requires-clause-inside
put_word-requires-clause-inside c k h set =
    let left = c.args.left.now in
    let same : left.columns ≡ c.args.square.now.side = c.requires.left_columns in
    let below : c.loop-number.number < word_count c.args.square.now.side = omega (arith, c.loop-number-test.true, c.loop-number.invariant.end) in
    let bits = word_bits left c.args.square.now c.args.row c.loop-number.number k c.row-words.result.now c.row_words-present.result.now c.row-words.ensures.words c.row_words-present.ensures same below h in
    let d = 64 * c.loop-number.number + k in
    let parts = and_parts (has_bit left c.args.row d) (is_some (cell_at c.args.square.now c.args.row d)) (sym bits ∙ set) in
    let within = (c.row-words.ensures.table.inside c.args.row d parts.0).1 in
    omega (arith, within, c.requires.left_columns, c.loop-number.invariant.columns)

pub loop-number-preserved : goal.loop-number-preserved
loop-number-preserved c =
    let inv = c.loop-number.invariant in
    let number = c.loop-number.number in
    let row = c.args.row in
    let zeros = c.loop-number.zeros in
    let word = bit_and (get_or c.row-words.result.now number 0) (get_or c.row_words-present.result.now number 0) in
    let put = c.put_word.ensures in
    let below : number < word_count c.args.square.now.side = omega (arith, c.loop-number-test.true, inv.end) in
    record {
      end = inv.end;
      rows = put.rows ∙ inv.rows;
      columns = put.columns ∙ inv.columns;
      done = λ d h.
          ⊎_elim
          (λ (here : d / 64 ≡ number).
          let place : 64 * number + d % 64 ≡ d = omega (arith, here) in
          put.bits row d
          ∙ place_hit row row (d / 64) number (is_bit_set word (d % 64)) (has_bit zeros row d) refl here
          ∙ word_bits c.args.left.now c.args.square.now row number (d % 64) c.row-words.result.now c.row_words-present.result.now c.row-words.ensures.words c.row_words-present.ensures c.requires.left_columns below (omega arith)
          ∙ ap (λ e. has_bit c.args.left.now row e && is_some (cell_at c.args.square.now row e)) place)
          (λ there.
          put.bits row d
          ∙ place_missed row row (d / 64) number (is_bit_set word (d % 64)) (has_bit zeros row d) (λ _ e. there e)
          ∙ inv.done d (earlier d number there h))
          (cases_eq (d / 64) number);
      others = λ r d apart.
          put.bits r d
          ∙ place_missed r row (d / 64) number (is_bit_set word (d % 64)) (has_bit zeros r d) (λ e _. apart e)
          ∙ inv.others r d apart;
    }
  where
    earlier : (d number : ℕ) → (d / 64 ≡ number → ⊥) → d < 64 * (number + 1) → d < 64 * number
    earlier d number there h =
        ⊎_elim
        (λ (less : d < 64 * number). less)
        (λ (more : 64 * number ≤ d). let same : d / 64 ≡ number = omega (arith, h, more) in absurd (there same))
        (cases_lt d (64 * number))

pub returns-clause-cells : goal.returns-clause-cells
returns-clause-cells c d inside =
    let inv = c.loop-number.invariant in
    inv.done d (omega (arith, inside, c.loop-number-test.false, inv.end))
